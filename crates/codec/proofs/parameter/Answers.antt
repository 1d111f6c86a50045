-- `codec::parameter` meets its contract: each `return` rewrites by the tests that led there; each row has a step. Assumes nothing.
use Prim.Native.Nat.{◌-◌, ◌%◌}
use mathlib.Core.Path.{◌≡◌, refl, sym, ap}
use lib.Dec.{eqb}
use mathlib.Core.Bool.{Bool, true, false, not, ◌&&◌, ◌||◌}
use Rattle.std.proofs.lemmas.Result.{err_from_is_err_and}
use Rattle.refusal.specs.Refusals.{number_of}
use Rattle.octets.specs.Refusals.{outside}
use Rattle.codec.specs.Parameters.{by_row, fits, parameter_tests}
use Rattle.codec.proofs.Parameters.{HasRow, found_row, lost_row}
use Rattle.codec.proofs.parameter.Goals as goal
use Rattle.codec.proofs.parameter.Goals.{In_ok-row}

-- a figure that lies out of a range, or off the steps, does not fit
unfit : (out whole : Bool) → not (not out && whole) ≡ (out || not whole)
unfit true whole = refl
unfit false whole = refl

module _ (c : In_ok-row) where
  -- the number has the row
  abbrev its : HasRow c.args.number c.in_ok-row.row
  its = found_row _ _ c.in_ok-row.ensures

  -- which 10 goes by
  follows : by_row c.args.number (λ row. not (fits row c.args.figure)) false ≡ not (fits c.in_ok-row.row c.args.figure)
  follows = its.follows (λ row. not (fits row c.args.figure)) false

pub returns-in_err-row : goal.returns-in_err-row
unfolding parameter_tests
returns-in_err-row c =
    let p = err_from_is_err_and c.from_residual.result c.from_residual.ensures.1 in
    let l = lost_row _ _ c.in_err-row.ensures in
    rw (p.1, p.2) (rw l.0 (sym (ap number_of l.1)))

pub nonzero_rem-saturating_sub : goal.nonzero_rem-saturating_sub
nonzero_rem-saturating_sub c = (its (goal.at.nonzero_rem-saturating_sub c).In_ok-row).stepped

pub returns-then-out-saturating_sub : goal.returns-then-out-saturating_sub
unfolding parameter_tests fits
returns-then-out-saturating_sub c =
    let at = (goal.at.returns-then-out-saturating_sub c).In_ok-row in
    let row = c.in_ok-row.row in
    let tested = rw c.saturating_sub.ensures at c.if-out-saturating_sub.true in
    rw ((its at).known, follows at, unfit (outside row.minimum row.maximum c.args.figure) (eqb ((c.args.figure - row.minimum) % row.step) 0), tested) refl

pub returns : goal.returns
unfolding parameter_tests fits
returns c =
    let at = (goal.at.returns c).In_ok-row in
    let row = c.in_ok-row.row in
    let tested = rw c.saturating_sub.ensures at c.if-out-saturating_sub.false in
    rw ((its at).known, follows at, unfit (outside row.minimum row.maximum c.args.figure) (eqb ((c.args.figure - row.minimum) % row.step) 0), tested) (refl, refl)
