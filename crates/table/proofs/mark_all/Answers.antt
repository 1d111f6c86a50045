-- `table::mark_all` meets its contract: as far as the loop has come the records are changed and counted. Assumes nothing.
use Prim.Native.Nat.{◌<◌}
use mathlib.Core.Path.{refl, ◌∙◌}
use native.Mathlib.Omega.{arith}
use lib.ListN.{length}
use Rattle.record.specs.Record.{all_records}
use Rattle.record.proofs.Images.{length-all_records, same-capacity}
use Rattle.table.specs.Table.{owned_by, set_far}
use Rattle.table.specs.Steps.{mapped}
use Rattle.table.proofs.Loops.{kept_le, count_next, mapped_at, mapped_next}
use Rattle.table.proofs.mark_all.Goals as goal

pub loop-i-init : goal.loop-i-init
unfolding mapped
loop-i-init c = (refl, refl, refl)

pub mark-k-requires : goal.mark-k-requires
mark-k-requires c =
    let m = c.args.memory.now in
    omega (arith, c.held_count-i-end.ensures.1, c.loop-i-test.true, c.loop-i.invariant.1, same-capacity c.loop-i.memory m c.loop-i.invariant.0, kept_le (owned_by c.args.station) (all_records m) c.loop-i.i)

pub loop-i-preserved : goal.loop-i-preserved
loop-i-preserved c =
    let m = c.args.memory.now in
    let vs = all_records m in
    let f = set_far c.args.station c.args.far in
    let w = all_records c.loop-i.memory in
    let i = c.loop-i.i in
    let l : i < length vs = omega (arith, c.loop-i-test.true, c.held_count-i-end.ensures.1, length-all_records m) in
    let mark = c.mark-k in (
      mark.auto.memory ∙ c.loop-i.invariant.0,
      count_next (owned_by c.args.station) vs w i c.loop-i.k mark.result l c.loop-i.invariant.1 (mapped_at f vs w i l c.loop-i.invariant.2) mark.ensures.next,
      mapped_next f vs w i l c.loop-i.invariant.2 (all_records mark.new.memory) mark.ensures.left,
    )
