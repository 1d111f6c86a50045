-- `octets::same` meets its contract: what was seen so far, and what is left, say the same as the whole. Assumes nothing.
use mathlib.Core.Path.{◌∙◌, sym}
use native.Mathlib.Omega.{arith}
use Rattle.octets.proofs.SameOctets.{same_octets-length, same_octets_next, same_octets_end}
use Rattle.octets.proofs.same.Goals as goal

pub returns-then-a-b : goal.returns-then-a-b
returns-then-a-b c = sym (same_octets-length _ _ c.if-a-b.true)

pub loop-i-preserved : goal.loop-i-preserved
loop-i-preserved c =
    let a = c.args in
    c.loop-i.invariant ∙ same_octets_next a.a.now a.b.now c.loop-i.i c.loop-i.all (omega arith) (omega arith)

pub returns : goal.returns
returns c =
    let a = c.args in
    same_octets_end a.a.now a.b.now c.loop-i.i c.loop-i.all (omega arith) (omega arith) ∙ sym c.loop-i.invariant
