-- The fresh map: its octets, and which maps pass. Assumes nothing.
use Prim.Native.Nat.{ℕ, zero, suc, ◌+◌, ◌-◌, ◌%◌, ◌≤◌}
use native.Mathlib.Omega.{arith}
use mathlib.Core.Path.{◌≡◌, refl, sym, ap, ◌∙◌}
use mathlib.Core.Bool.{Bool, true, false, ◌&&◌, and_assoc, and-eq-true_iff, true≢false}
use mathlib.Core.List.{List, [], ◌++◌}
use lib.Dec.{eqb, leb}
use lib.ListN.{length as len, replicate, length-append}
use lib.Seq.{take_at}
use borrow.Author.Tests.{eq-eqb, ne_eqb, eqb-true, le-leb, leb-true}
use Rattle.octets.specs.Refusals.{within}
use Rattle.octets.specs.Octets.{same_octets, copied_over, holds_only}
use Rattle.octets.proofs.SameOctets.{same_octets-true, same_octets-refl}
use Rattle.octets.proofs.Copied.{copied_over_all}
use Rattle.octets.proofs.Refusals.{within-true}
use Rattle.codec.specs.Parameters.{fits}
use Rattle.sound.specs.Sound.{Channel, records, sound}
use Rattle.sound.proofs.Sound.{sound_parts}
use Rattle.slots.specs.Window.{window_states}
use Rattle.slots.proofs.Numbers.{number-none}
use Rattle.slots.proofs.Window.{length-window_states, get_or-window_states}
use Rattle.slotmap.specs.Map.{Mapped, fresh_map, is_fresh, with_fresh}
use Rattle.slotmap.specs.Claims.{FreshSize, FreshSlots, FreshOpened, OnlyFreshPasses}

-- ---- its octets

pub fresh_size : FreshSize
unfolding fresh_map
fresh_size m = length-window_states m.m1 (records m) m.now m.m1

pub fresh_slots : FreshSlots
unfolding fresh_map
fresh_slots m i h = get_or-window_states m.m1 (records m) m.now m.m1 i h

-- without a record every slot is free
window_states-none : (m1 first n : ℕ) → window_states m1 [] first n ≡ replicate n 0
window_states-none m1 first zero = refl
window_states-none m1 first (suc n) = rw (number-none m1 first, window_states-none m1 (first + 1) n)

pub fresh_opened : FreshOpened
unfolding fresh_map records
fresh_opened m1 b = window_states-none m1 0 m1

-- ---- which maps pass

-- a map that passes is the fresh one
pub is_fresh-true : (x : Mapped) → is_fresh x ≡ true → x.map ≡ fresh_map x.channel
unfolding is_fresh
is_fresh-true x h =
    let p = (and-eq-true_iff (eqb (len x.map) x.channel.m1) (same_octets x.map (fresh_map x.channel))).0 h in
    same_octets-true x.map (fresh_map x.channel) p.1

-- the fresh one passes
pub is_fresh-with_fresh : (m : Channel) → is_fresh (with_fresh m) ≡ true
unfolding is_fresh
is_fresh-with_fresh m = rw (eq-eqb (len (fresh_map m)) m.m1 (fresh_size m), same_octets-refl (fresh_map m))

pub only_fresh_passes : OnlyFreshPasses
only_fresh_passes x = (
  (λ h. ap (λ (p : List ℕ). record { channel = x.channel; map = p }) (is_fresh-true x h)),
  (λ e. ap is_fresh e ∙ is_fresh-with_fresh x.channel),
)

-- of a map of the right size its octets tell
pub is_fresh_sized : (x : Mapped) → len x.map ≡ x.channel.m1
    → same_octets x.map (window_states x.channel.m1 (records x.channel) x.channel.now (len x.map)) ≡ is_fresh x
unfolding is_fresh fresh_map
is_fresh_sized x e =
    rw (eq-eqb (len x.map) x.channel.m1 e)
    (ap (λ (n : ℕ). same_octets x.map (window_states x.channel.m1 (records x.channel) x.channel.now n)) e)

-- a map that passes is of the right size
pub is_fresh-size : (x : Mapped) → is_fresh x ≡ true → len x.map ≡ x.channel.m1
is_fresh-size x h = ap len (is_fresh-true x h) ∙ fresh_size x.channel

-- one of another size does not pass
is_fresh_unsized : (x : Mapped) → (len x.map ≡ x.channel.m1 → ⊥) → is_fresh x ≡ false
unfolding is_fresh
is_fresh_unsized x h = rw (ne_eqb (len x.map) x.channel.m1 h)

-- the superframe of a sound table has 60 to 15,360 slots
pub sound_m1 : (m : Channel) → sound m ≡ true → (60 ≤ m.m1) × (m.m1 ≤ 15360)
unfolding fits
sound_m1 m h =
    let p = (and-eq-true_iff (within 60 15360 m.m1) (eqb ((m.m1 - 60) % 60) 0)).0 (sound_parts m h).m1_fits in
    within-true 60 15360 m.m1 p.0

-- so beside a sound table a map passes where the test of its superframe and of its octets does
pub is_fresh-sound : (x : Mapped) → sound x.channel ≡ true → (leb x.channel.m1 15360 && is_fresh x) ≡ is_fresh x
is_fresh-sound x s = rw (le-leb x.channel.m1 15360 (sound_m1 x.channel s).1)

-- a map that is sized: it has M1 octets, and the superframe is not too long
pub sized-true : (x : Mapped) → (leb x.channel.m1 15360 && eqb (len x.map) x.channel.m1) ≡ true → (len x.map ≡ x.channel.m1) × (x.channel.m1 ≤ 15360)
sized-true x h =
    let p = (and-eq-true_iff (leb x.channel.m1 15360) (eqb (len x.map) x.channel.m1)).0 h in
    (eqb-true _ _ p.1, leb-true _ _ p.0)

-- where the superframe is not too long the map tells
pub is_fresh_short : (x : Mapped) → x.channel.m1 ≤ 15360 → is_fresh x ≡ (leb x.channel.m1 15360 && is_fresh x)
is_fresh_short x h = rw (le-leb x.channel.m1 15360 h)

-- where it is, or the size is wrong, the test fails
pub is_fresh_failed : (x : Mapped) → (leb x.channel.m1 15360 && eqb (len x.map) x.channel.m1) ≡ false → false ≡ (leb x.channel.m1 15360 && is_fresh x)
unfolding is_fresh
is_fresh_failed x h =
    let same = same_octets x.map (fresh_map x.channel) in
    sym (sym (and_assoc (leb x.channel.m1 15360) (eqb (len x.map) x.channel.m1) same) ∙ ap (λ (t : Bool). t && same) h)

-- and where the size is wrong, or the superframe is too long for any map, none does
pub is_fresh_untested : (x : Mapped) → (leb x.channel.m1 15360 && eqb (len x.map) x.channel.m1) ≡ false → sound x.channel ≡ true → is_fresh x ≡ false
is_fresh_untested x h s =
    is_fresh_unsized x (λ e. true≢false (sym (rw (eq-eqb (len x.map) x.channel.m1 e, le-leb x.channel.m1 15360 (sound_m1 x.channel s).1)) ∙ h))

-- ---- a map written anew

-- octets that begin with the fresh map, copied over a map of the right size, leave the fresh one
copied_over_fresh : (m : Channel) (p rest : List ℕ) → len p ≡ m.m1 → copied_over (fresh_map m ++ rest) p ≡ fresh_map m
copied_over_fresh m p rest e =
    let l : len p ≤ len (fresh_map m ++ rest) = rw length-append (omega (arith, fresh_size m)) in
    copied_over_all (fresh_map m ++ rest) p l ∙ take_at (fresh_map m) rest (len p) (fresh_size m ∙ sym e)

-- and so does a window that holds it
pub copied_over_window : (m : Channel) (n : ℕ) (p : List ℕ) → len p ≡ m.m1 → copied_over (holds_only n (fresh_map m)) p ≡ fresh_map m
copied_over_window m n p e = copied_over_fresh m p (replicate (n - len (fresh_map m)) 0) e
