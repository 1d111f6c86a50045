-- `gemthatch::put_numbers` meets its contract: the list holds the octets of the numbers as far as the loop has come. Assumes nothing.
use Prim.Native.Nat.{◌+◌, ◌-◌, ◌*◌}
use native.Mathlib.Omega.{arith}
use mathlib.Core.Path.{◌∙◌}
use lib.ListN.{length}
use borrow.Rule.Slice.PartMut.{same_len_mid}
use Rattle.gemthatch.proofs.Put.{put_part}
use Rattle.gemthatch.proofs.put_numbers.Goals as goal

pub loop-i-preserved : goal.loop-i-preserved
loop-i-preserved c =
    let inv = c.loop-i.invariant in
    let p = c.put_number in
    let list = c.loop-i.list in
    let a = c.loop-i.i * 4 in
    let more = c.loop-i-test.true in (
      same_len_mid a (a + 4 - a) list p.new.memory p.auto.memory ∙ inv.0,
      put_part (length c.args.list.now) c.loop-i.i c.args.numbers.now list p.new.memory (omega (arith, more)) (omega (arith, more, c.requires.room)) inv.0 inv.1 p.ensures,
    )
