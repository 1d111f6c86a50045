-- `table::judge_request` meets its contract: each `return` rewrites by the tests that led there. Assumes nothing.
use Prim.Native.Nat.{◌+◌, ◌*◌}
use mathlib.Core.Path.{◌≡◌, refl, sym, ap, ◌∙◌}
use mathlib.Core.Bool.{Bool, not}
use mathlib.Core.List.{[], ◌∷◌}
use lib.Dec.{ltb}
use mir.Syntax.{w32}
use mir.Val.{SFits}
use mir.Facts.{to_z-of_z}
use borrow.Author.Tests.{ltb-false, le-leb, lt-leb, eq-eqb, ne_eqb}
use Rattle.octets.specs.Refusals.{first_of, outside}
use Rattle.octets.specs.Complement.{beyond127, octet_of, lifted}
use Rattle.octets.proofs.Refusals.{outside-false, or_eq_false}
use Rattle.distance.specs.Distances.{limit_fits}
use Rattle.series.specs.Series.{further_before}
use Rattle.table.specs.declared.Request.{Request}
use Rattle.table.specs.declared.State.{State}
use Rattle.table.specs.Table.{new_record, request_tests}
use Rattle.table.proofs.Calls.{further_early}
use Rattle.table.proofs.judge_request.Goals as goal
use Rattle.table.proofs.judge_request.Goals.{Else-bs, After-begins_early}

-- ---- what is known at a place

-- a request's further series begins before now
abbrev early : State → Request → Bool
early s q = further_before s.m1 (new_record s.now q) s.now

module _ (c : Else-bs) where
  -- bo fits its type, so that its bits stand for it
  bo_fits : SFits w32 c.args.q.bo
  bo_fits = record { sfits = c.struct_told-1.given.1.1.1.1.1.0.1 }

  -- the tests for 8, 14, 15, 9 and 5 are passed
  passed_five : first_of (request_tests c.args.s.m1 c.args.s.now c.args.q) ≡ first_of ((6, beyond127 c.args.q.bo) ∷ (24, early c.args.s c.args.q) ∷ (18, not (limit_fits c.args.q.limit)) ∷ [])
  passed_five =
      rw (lt-leb _ _ c.if-q-ge134217728.false, c.if-rate.false, ne_eqb _ _ c.if-q-eq0.false, c.if-q-length.false, c.if-bs.false)

-- what begins_early tells, past the test for 6
module _ (c : After-begins_early) where
  is_early : SFits w32 c.args.q.bo → early c.args.s c.args.q ≡ c.begins_early.result
  is_early fits =
      let q = c.args.q in
      let octet = c.twos.ensures ∙ ap octet_of (to_z-of_z fits) in
      further_early c.args.s.m1 c.args.s.now q
      ∙ sym (c.begins_early.ensures ∙ ap (λ n. ltb (q.bs + q.superframes * c.args.s.m1 + lifted n) 128) octet)

  passed_six :
      SFits w32 c.args.q.bo
      → first_of (request_tests c.args.s.m1 c.args.s.now c.args.q) ≡ first_of ((6, beyond127 c.args.q.bo) ∷ (24, early c.args.s c.args.q) ∷ (18, not (limit_fits c.args.q.limit)) ∷ [])
      → first_of (request_tests c.args.s.m1 c.args.s.now c.args.q) ≡ first_of ((24, early c.args.s c.args.q) ∷ (18, not (limit_fits c.args.q.limit)) ∷ [])
  passed_six fits five = five ∙ rw (simp (to_z-of_z fits) at c.if-bo.false)

-- ---- the goals

pub returns-then-q-ge134217728 : goal.returns-then-q-ge134217728
returns-then-q-ge134217728 c = rw (le-leb _ _ c.if-q-ge134217728.true)

pub returns-then-rate : goal.returns-then-rate
returns-then-rate c = rw (lt-leb _ _ c.if-q-ge134217728.false, c.if-rate.true)

pub returns-then-q-eq0 : goal.returns-then-q-eq0
returns-then-q-eq0 c =
    rw (lt-leb _ _ c.if-q-ge134217728.false, c.if-rate.false, eq-eqb _ _ c.if-q-eq0.true)

pub returns-then-q-length : goal.returns-then-q-length
returns-then-q-length c =
    rw (lt-leb _ _ c.if-q-ge134217728.false, c.if-rate.false, ne_eqb _ _ c.if-q-eq0.false, c.if-q-length.true)

pub returns-then-bs : goal.returns-then-bs
returns-then-bs c =
    rw (lt-leb _ _ c.if-q-ge134217728.false, c.if-rate.false, ne_eqb _ _ c.if-q-eq0.false, c.if-q-length.false, c.if-bs.true)

pub returns-then-bo : goal.returns-then-bo
returns-then-bo c =
    let five = (goal.at.returns-then-bo c).Else-bs in
    passed_five five ∙ rw (simp (to_z-of_z (bo_fits five)) at c.if-bo.true)

pub begins_early-requires : goal.begins_early-requires
begins_early-requires c =
    let q = c.args.q in (
      (outside-false 2 255 q.bs c.if-bs.false).1,
      ltb-false 3 q.superframes (or_eq_false (ltb 3 q.superframes) (outside 1 32 q.length) c.if-q-length.false).0,
    )

pub returns-then-begins_early : goal.returns-then-begins_early
returns-then-begins_early c =
    let at = goal.at.returns-then-begins_early c in
    let fits = bo_fits at.Else-bs in
    let after = at.After-begins_early in
    passed_six after fits (passed_five at.Else-bs) ∙ rw (is_early after fits ∙ c.if-begins_early.true)

pub returns-then-not-limit_fits : goal.returns-then-not-limit_fits
returns-then-not-limit_fits c =
    let at = goal.at.returns-then-not-limit_fits c in
    let fits = bo_fits at.Else-bs in
    let after = at.After-begins_early in
    passed_six after fits (passed_five at.Else-bs) ∙ rw (is_early after fits ∙ c.if-begins_early.false, sym c.limit_fits.ensures ∙ c.if-not-limit_fits.true)

pub returns : goal.returns
returns c =
    let at = goal.at.returns c in
    let fits = bo_fits at.Else-bs in
    let after = at.After-begins_early in (
      passed_six after fits (passed_five at.Else-bs) ∙ rw (is_early after fits ∙ c.if-begins_early.false, sym c.limit_fits.ensures ∙ c.if-not-limit_fits.false),
      refl,
    )
