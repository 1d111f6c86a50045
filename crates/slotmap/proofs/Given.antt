-- What a call with a map gives, by the table and by what the table's own call gives. Assumes nothing.
use Prim.Native.Nat.{ℕ}
use native.Mathlib.Omega.{arith}
use mathlib.Core.Path.{◌≡◌, refl, sym, ap, ◌∙◌}
use mathlib.Core.Bool.{Bool, true, false, cond}
use mathlib.Core.List.{List}
use lib.ListN.{length as len, replicate}
use borrow.Author.Tests.{eq-eqb}
use Rattle.std.proofs.Common.{Result, Ok, Err}
use Rattle.refusal.specs.declared.Refusal.{Refusal}
use Rattle.refusal.specs.Refusals.{number_of}
use Rattle.refusal.proofs.Numbers.{not_zero}
use Rattle.octets.proofs.Refusals.{answer-refused, answer_elim, answer-map, by_test}
use Rattle.sound.specs.Sound.{Channel, sound}
use Rattle.table.specs.declared.State.{State}
use Rattle.table.specs.Table.{Said, Call, reported}
use Rattle.table.specs.Memory.{channel, state_of, table_of, call_refusal, leaves, says, call_said, Gives, open_refusal, opened, open_leaves, OpenGives}
use Rattle.table.proofs.Calls.{refused-leaves}
use Rattle.slotmap.specs.Map.{Mapped, fresh_map, is_fresh, with_fresh, map_refusal, map_leaves, map_says, MapGives, with_map, open_map_refusal, open_map_leaves, OpenMapGives}
use Rattle.slotmap.specs.Steps.{stale_refusal}
use Rattle.slotmap.proofs.Fresh.{fresh_opened}

-- ---- which refusal

-- where the map is fresh, the table's call's
pub map_refusal_fresh : (x : Mapped) (c : Call) → is_fresh x ≡ true → map_refusal x c ≡ call_refusal x.channel c
unfolding map_refusal call_refusal
map_refusal_fresh x c h = rw h

-- where the table isn't sound 11, and else 25 where the map isn't fresh
pub map_refusal_stale : (x : Mapped) (c : Call) → (sound x.channel ≡ true → is_fresh x ≡ false) → map_refusal x c ≡ cond (sound x.channel) 25 11
unfolding map_refusal
map_refusal_stale x c h = by_test (sound x.channel) (λ s. rw (s, h s)) (λ s. rw s)

-- ---- a refused call

-- it leaves all as it was
pub map_leaves-refused : (x : Mapped) (c : Call) → (map_refusal x c ≡ 0 → ⊥) → x ≡ map_leaves x c
unfolding map_leaves
map_leaves-refused x c h = answer-refused (with_fresh (leaves x.channel c)) (λ _. x) refl h

-- its number, and nothing changed
pub refused_gives_map : (x : Mapped) (c : Call) (e : Refusal) → map_refusal x c ≡ number_of e
    → MapGives x c (call_said (Err e)) (state_of x.channel) x.channel.memory x.map
unfolding map_says
refused_gives_map x c e h =
    let z = not_zero e in
    let n : number_of e ≡ 0 → ⊥ = λ k. omega arith in
    let l = map_leaves-refused x c (λ k. n (sym h ∙ k)) in
    record {
      told = rw h (ap (λ k. record { refusal = number_of e; number = k }) (answer-refused (reported (table_of x.channel) c) (λ _. 0) {n = number_of e} refl n));
      state = ap (λ (y : Mapped). state_of y.channel) l;
      octets = ap (λ (y : Mapped). y.channel.memory) l;
      left = ap (λ (y : Mapped). y.map) l;
    }

-- the number of a refusal whose map isn't fresh
number_of-stale : (b : Bool) → cond b 25 11 ≡ number_of (stale_refusal b)
number_of-stale true = refl
number_of-stale false = refl

-- so where the map isn't fresh, or the table isn't sound
pub stale_gives : (x : Mapped) (c : Call) {e : Refusal} → e ≡ stale_refusal (sound x.channel) → (sound x.channel ≡ true → is_fresh x ≡ false)
    → MapGives x c (call_said (Err e)) (state_of x.channel) x.channel.memory x.map
stale_gives x c e h =
    rw e (refused_gives_map x c (stale_refusal (sound x.channel)) (map_refusal_stale x c h ∙ number_of-stale (sound x.channel)))

-- ---- a call on a fresh map

module _ (x : Mapped) (c : Call) (fresh : is_fresh x ≡ true) where
  abbrev m : Channel
  m = x.channel

  -- it says what the table's call says
  pub map_says_fresh : map_says x c ≡ says m c
  unfolding map_says says
  map_says_fresh = rw (map_refusal_fresh x c fresh)

  -- and leaves the table that the table's call leaves
  pub map_leaves-channel : (map_leaves x c).channel ≡ leaves m c
  unfolding map_leaves
  map_leaves-channel =
      answer_elim (with_fresh (leaves m c)) (λ _. x) (λ (y : Mapped). y.channel ≡ leaves m c) (map_refusal x c)
      (λ _. refl)
      (λ z. refused-leaves m c (λ e. z (map_refusal_fresh x c fresh ∙ e)))

  -- the map that a call leaves
  left_by : {p : List ℕ} → (map_refusal x c ≡ 0 → p ≡ fresh_map (leaves m c)) → ((map_refusal x c ≡ 0 → ⊥) → p ≡ x.map) → p ≡ (map_leaves x c).map
  unfolding map_leaves
  left_by {p} accepted refused = answer_elim (with_fresh (leaves m c)) (λ _. x) (λ (y : Mapped). p ≡ y.map) (map_refusal x c) accepted refused

  -- what the table's call gives where it is accepted, with the fresh map of what is left
  pub fresh_gives : {n : ℕ} {s : State} {b p : List ℕ} → Gives m c (call_said (Ok n)) s b → p ≡ fresh_map (leaves m c) → MapGives x c (call_said (Ok n)) s b p
  unfolding says
  fresh_gives g e =
      let z = ap (λ w. w.refusal) g.told ∙ sym (map_refusal_fresh x c fresh) in
      record {
        told = g.told ∙ sym map_says_fresh;
        state = g.state ∙ ap state_of (sym map_leaves-channel);
        octets = g.octets ∙ ap (λ (y : Channel). y.memory) (sym map_leaves-channel);
        left = left_by (λ _. e) (λ n. absurd (n (sym z)));
      }

  -- and where it is refused, with the map as it was
  pub fresh_gives-refused : (e : Refusal) {s : State} {b : List ℕ} → Gives m c (call_said (Err e)) s b → MapGives x c (call_said (Err e)) s b x.map
  unfolding says
  fresh_gives-refused e g =
      let z = ap (λ w. w.refusal) g.told ∙ sym (map_refusal_fresh x c fresh) in
      record {
        told = g.told ∙ sym map_says_fresh;
        state = g.state ∙ ap state_of (sym map_leaves-channel);
        octets = g.octets ∙ ap (λ (y : Channel). y.memory) (sym map_leaves-channel);
        left = left_by (λ k. absurd (omega (arith, not_zero e, z, k))) (λ _. refl);
      }

-- what a call leaves is the table that it leaves
pub gives_leaves : {m : Channel} {c : Call} {w : Said} {s : State} {b : List ℕ} → Gives m c w s b → channel s b ≡ leaves m c
gives_leaves g = rw (g.state, g.octets)

-- and one that is accepted has no refusal
pub gives_accepted : {m : Channel} {c : Call} {n : ℕ} {s : State} {b : List ℕ} → Gives m c (call_said (Ok n)) s b → call_refusal m c ≡ 0
unfolding says
gives_accepted g = sym (ap (λ w. w.refusal) g.told)

-- ---- open

module _ (m1 : ℕ) (b p : List ℕ) (sized : len p ≡ m1) where
  -- where the map has the right size, an opening is refused as the table's
  open_map_refusal_sized : open_map_refusal m1 b p ≡ open_refusal m1 b
  unfolding open_map_refusal open_refusal
  open_map_refusal_sized = rw (eq-eqb (len p) m1 sized)

  -- and leaves the table that the table's opening leaves
  open_map_leaves-channel : open_leaves m1 b ≡ (open_map_leaves m1 b p).channel
  unfolding open_map_leaves open_leaves
  open_map_leaves-channel =
      rw open_map_refusal_sized
      (answer-map (with_fresh (opened m1 b)) (λ _. with_map (record { m1 = 0; now = 0; count = 0 }) b p) (λ (y : Mapped). y.channel) (open_refusal m1 b))

  -- the map: accepted, all 0; refused, as it was
  open_map_leaves-map : {z : List ℕ} → (open_refusal m1 b ≡ 0 → z ≡ replicate m1 0) → ((open_refusal m1 b ≡ 0 → ⊥) → z ≡ p) → z ≡ (open_map_leaves m1 b p).map
  unfolding open_map_leaves
  open_map_leaves-map {z} accepted refused =
      rw open_map_refusal_sized
      (answer_elim (with_fresh (opened m1 b)) (λ _. with_map (record { m1 = 0; now = 0; count = 0 }) b p) (λ (u : Mapped). z ≡ u.map) (open_refusal m1 b)
      (λ n. accepted n ∙ sym (fresh_opened m1 b))
      refused)

  -- what the table's opening gives, and that map
  pub sized_gives : {r : Result (Unit {0}) Refusal} {s : State} {y z : List ℕ} → OpenGives m1 b r s y
      → (open_refusal m1 b ≡ 0 → z ≡ replicate m1 0) → ((open_refusal m1 b ≡ 0 → ⊥) → z ≡ p) → OpenMapGives m1 b p r s y z
  sized_gives {r} g accepted refused =
      record {
        told = rw open_map_refusal_sized g.told;
        state = g.state ∙ ap state_of open_map_leaves-channel;
        octets = g.octets ∙ ap (λ (u : Channel). u.memory) open_map_leaves-channel;
        left = open_map_leaves-map accepted refused;
      }
