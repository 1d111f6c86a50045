-- `table::compact` meets its contract: the front holds what stays of the records looked at, and the others are as they were. Assumes nothing.
use mathlib.Core.Path.{refl, ◌∙◌}
use native.Mathlib.Omega.{arith}
use Rattle.record.specs.Record.{all_records}
use Rattle.record.proofs.Images.{length-all_records, same-capacity}
use Rattle.table.proofs.Loops.{kept_le, sifted_start, sifted_next}
use Rattle.table.proofs.compact.Goals as goal

pub loop-i-init : goal.loop-i-init
loop-i-init g c =
    let m = c.args.memory.now in
    let gone = c.first_gone-gone in
    (refl, sifted_start (g.R.Rule.stays c.args.rule) (all_records m) gone.result (omega (arith, length-all_records m, gone.ensures.0, c.held_count-held.ensures.1)) gone.ensures.1, refl)

pub sift-k-requires : goal.sift-k-requires
sift-k-requires g c =
    let m = c.args.memory.now in
    omega (arith, c.held_count-held.ensures.1, c.loop-i-test.true, c.loop-i.invariant.1.0, same-capacity c.loop-i.memory m c.loop-i.invariant.0, kept_le (g.R.Rule.stays c.args.rule) (all_records m) c.loop-i.i)

pub loop-i-preserved : goal.loop-i-preserved
loop-i-preserved g c =
    let m = c.args.memory.now in
    let p = g.R.Rule.stays c.args.rule in
    let l = c.loop-i-test.true in
    let sift = c.sift-k in (
      sift.auto.memory ∙ c.loop-i.invariant.0,
      sifted_next p (all_records m) (all_records c.loop-i.memory) (all_records sift.new.memory) c.loop-i.i c.loop-i.k sift.result (omega (arith, l, c.held_count-held.ensures.1, length-all_records m)) c.loop-i.invariant.1 sift.ensures.next sift.ensures.left,
      sift.ensures.behind c.args.n (omega (arith, l, c.held_count-held.ensures.0, c.loop-i.invariant.1.0, kept_le p (all_records m) c.loop-i.i)) ∙ c.loop-i.invariant.2,
    )
