-- How many records the calls leave, and what a sweep leaves. Assumes nothing.
use Prim.Native.Nat.{ℕ, ◌≤◌}
use native.Mathlib.Omega.{arith}
use mathlib.Core.Path.{◌≡◌, ◌∙◌}
use mathlib.Core.Bool.{Bool}
use mathlib.Core.List.{List}
use lib.ListN.{length, take}
use Rattle.octets.specs.Lists.{keep}
use Rattle.octets.proofs.Lists.{length-keep}
use Rattle.octets.specs.Octets.{AreOctets}
use Rattle.record.specs.Record.{all_records, capacity, rest, clear_between, packed}
use Rattle.record.specs.declared.Rec.{Rec}
use Rattle.record.proofs.Images.{same-capacity}
use Rattle.record.proofs.Packed.{clear_between_enough, packed_front}
use Rattle.sound.specs.Sound.{Channel, records}
use Rattle.sound.proofs.Sound.{SoundParts}

-- the records kept are no more than there were
pub length_kept : (m : Channel) → SoundParts m → (p : Rec → Bool) → length (keep p (records m)) ≤ m.count
length_kept m k p = omega (arith, k.counted, length-keep p (records m))

-- with those n at the front of the octets w, nothing changed behind the records there were, and the octets between made 0, they are all that is held
pub sweep_is : (m : Channel) → SoundParts m → (p : Rec → Bool) (n : ℕ) (w : List ℕ) → AreOctets w → length w ≡ length m.memory
    → n ≡ length (keep p (records m)) → take n (all_records w) ≡ keep p (records m) → rest m.count w ≡ rest m.count m.memory
    → clear_between n m.count w ≡ packed (capacity m.memory) (keep p (records m))
sweep_is m k p n w b l e f r =
    let c = same-capacity w m.memory l in
    let o = length_kept m k p in
    let z = clear_between_enough w n m.count (rw r k.clear) (omega arith) (omega (arith, k.room)) in
    z ∙ rw e (packed_front m.memory w (keep p (records m)) b k.whole-records l (omega (arith, k.room)) (rw e at f))
