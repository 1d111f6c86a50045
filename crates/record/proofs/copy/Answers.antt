-- `record::copy` meets its contract: the octets of record i are those from its place on, and they are written from the place of record k on. Assumes nothing.
use Prim.Native.Nat.{◌+◌, ◌-◌, ◌*◌}
use mathlib.Core.Path.{◌≡◌, ◌∙◌}
use mathlib.Core.Bool.{and-eq-true_iff}
use native.Mathlib.Omega.{arith}
use mathlib.Core.List.{append_assoc}
use borrow.Author.Rules.{rules}
use lib.Dec.{ltb}
use borrow.Author.Tests.{ltb-true}
use Rattle.record.specs.Record.{size, capacity}
use Rattle.record.proofs.Places.{copied_in, copied_out}
use Rattle.record.proofs.copy.Goals as goal

pub returns-then-i-all : goal.returns-then-i-all
unfolding size
returns-then-i-all c =
    let m = c.args.memory.now in
    let i = c.args.i in
    let k = c.args.k in
    let h = (and-eq-true_iff (ltb i (capacity m)) (ltb k (capacity m))).0 (rw c.capacity-all.ensures at c.if-i-all.true) in
    let e : i * size + size - i * size ≡ size = omega arith in
    let p = copied_in m i k _ (search rules) (ltb-true i (capacity m) h.0) (ltb-true k (capacity m) h.1) (c.copy_within.ensures.after ∙ rw (e, append_assoc)) in
    record { octets = p.0; records = p.1 }

pub returns-else-i-all : goal.returns-else-i-all
returns-else-i-all c =
    let p = copied_out c.args.memory.now c.args.i c.args.k (rw c.capacity-all.ensures at c.if-i-all.false) in
    record { octets = p.0; records = p.1 }
