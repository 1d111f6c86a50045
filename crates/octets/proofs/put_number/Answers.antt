-- `octets::put_number` meets its contract: where there are four octets they are written over. Assumes nothing.
use Rattle.std.proofs.Common.{arith, sym, ◌≤◌, ◌+◌, length, append_assoc, ◌∙◌}
use borrow.Author.Tests.{leb-true}
use borrow.Rule.Slice.PartMut.{Post-is}
use lib.Seq.{sets-eq}
use Rattle.octets.specs.Octets.{put_at, little}
use Rattle.octets.proofs.Octets.{little_four, length-little}
use Rattle.octets.proofs.put_number.Goals as goal

pub returns-then-stand : goal.returns-then-stand
unfolding put_at
returns-then-stand c =
    let a = c.args in
    let t = sym c.stand.ensures ∙ c.if-stand.true in
    let h : a.at + 4 ≤ length a.memory.now = leb-true _ _ t in
    let written = c.copy_from_slice.ensures.after ∙ c.to_le_bytes.ensures ∙ little_four a.x in
    let l = length-little 4 a.x in
    rw (t, written, Post-is a.at (a.at + 4) a.memory.now (omega arith), sets-eq (little 4 a.x) a.memory.now a.at (omega arith), l, append_assoc)
