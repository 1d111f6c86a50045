-- What a call gives back and leaves, by its refusal. Assumes nothing.
use Prim.Native.Nat.{ℕ, ◌+◌, ◌-◌, ◌*◌, ◌≤◌}
use native.Mathlib.Omega.{arith}
use mathlib.Core.Path.{◌≡◌, refl, ap, ◌∙◌, sym}
use mathlib.Core.Bool.{Bool, true, false, not, true≢false}
use mathlib.Core.List.{List, [], ◌∷◌, ◌++◌, map}
use lib.Dec.{ltb}
use lib.Ieee.{Float}
use mir.Val.{bool_byte}
use borrow.Author.Tests.{ltb-false}
use lib.ListN.{length, length-append, length-map}
use Rattle.std.proofs.Common.{Result, Ok, Err}
use Rattle.std.specs.Result.{result_and}
use Rattle.refusal.specs.declared.Refusal.{Refusal}
use Rattle.refusal.specs.declared.Refusal.TheVariants.{NotSound}
use Rattle.refusal.specs.Refusals.{number_of, Tells}
use Rattle.refusal.proofs.Numbers.{not_zero, one_number}
use Rattle.octets.specs.Lists.{keep}
use Rattle.octets.specs.Refusals.{first_of, outside}
use Rattle.octets.specs.Complement.{octet_of, lifted}
use Rattle.octets.proofs.Lists.{length-keep-not}
use Rattle.octets.proofs.Refusals.{first_of_append, first_of-stop, first_of-zero, outside-false, or_eq_false, answer-refused, answer_accepted}
use Rattle.distance.specs.declared.Distance.{Distance}
use Rattle.distance.specs.Distances.{is_far}
use Rattle.record.specs.Record.{capacity, packed}
use Rattle.record.specs.declared.Rec.{Rec}
use Rattle.series.specs.Series.{further_from, further_before}
use Rattle.series.proofs.Tests.{ltb-same}
use Rattle.series.proofs.Series.{further_before_sum}
use Rattle.sound.specs.Sound.{Channel, records, sound}
use Rattle.sound.proofs.Sound.{sound_parts}
use Rattle.table.specs.declared.Request.{Request}
use Rattle.table.specs.declared.State.{State}
use Rattle.table.specs.Table.{Call, clock, reserve, distance, wipe, look, far_octet, new_record, owned_by, set_far, request_tests, held_tests, call_tests, changed, reported, is_look}
use Rattle.table.specs.Memory.{state_of, table_of, channel_of, call_refusal, leaves, says, call_said, Gives}
use Rattle.table.specs.Steps.{swept, added, added_memory}

-- ---- which refusal

-- 11 where the table isn't sound
pub call_refusal_unsound : (m : Channel) (c : Call) → sound m ≡ false → 11 ≡ call_refusal m c
unfolding call_refusal
call_refusal_unsound m c h = rw h

-- else by the call's own tests
pub call_refusal-sound : (m : Channel) (c : Call) → sound m ≡ true → call_refusal m c ≡ first_of (call_tests (table_of m) c)
unfolding call_refusal
call_refusal-sound m c h = rw h

-- ---- what results say

-- results that say the same are equal
pub said_once : (r q : Result ℕ Refusal) → call_said r ≡ call_said q → r ≡ q
said_once (Ok m) (Ok n) h = ap (λ w. Ok w.number) h
said_once (Ok m) (Err e) h = absurd (omega (arith, ap (λ w. w.refusal) h, not_zero e))
said_once (Err e) (Ok n) h = absurd (omega (arith, ap (λ w. w.refusal) h, not_zero e))
said_once (Err e) (Err f) h = ap Err (one_number e f (ap (λ w. w.refusal) h))

-- ---- a refused call

-- it leaves all as it was
pub refused-leaves : (m : Channel) (c : Call) → (call_refusal m c ≡ 0 → ⊥) → m ≡ leaves m c
unfolding leaves
refused-leaves m (clock slot) h = answer-refused _ (λ _. m) refl h
refused-leaves m (reserve q) h = answer-refused _ (λ _. m) refl h
refused-leaves m (distance s d limit) h = answer-refused _ (λ _. m) refl h
refused-leaves m (wipe s) h = answer-refused _ (λ _. m) refl h
refused-leaves m (look f) h = refl

-- its number, and nothing changed
pub refused_gives : (m : Channel) (c : Call) (e : Refusal) → call_refusal m c ≡ number_of e → Gives m c (call_said (Err e)) (state_of m) m.memory
unfolding says
refused_gives m c e h =
    let z = not_zero e in
    let n : number_of e ≡ 0 → ⊥ = λ k. omega arith in
    let l = refused-leaves m c (λ k. n (sym h ∙ k)) in
    record {
      told = rw h (ap (λ k. record { refusal = number_of e; number = k }) (answer-refused (reported (table_of m) c) (λ _. 0) {n = number_of e} refl n));
      state = ap state_of l;
      octets = ap (λ (u : Channel). u.memory) l;
    }

-- so where the table isn't sound
pub unsound_gives : (m : Channel) (c : Call) → sound m ≡ false → Gives m c (call_said (Err NotSound)) (state_of m) m.memory
unsound_gives m c h = refused_gives m c NotSound (sym (call_refusal_unsound m c h))

-- and where one of the call's own tests holds
pub tested_gives : (m : Channel) (c : Call) → sound m ≡ true → (e : Refusal) → first_of (call_tests (table_of m) c) ≡ number_of e
    → Gives m c (call_said (Err e)) (state_of m) m.memory
tested_gives m c h e n = refused_gives m c e (call_refusal-sound m c h ∙ n)

-- ---- an accepted call

-- it leaves the changed table, unless it only looks
accepted_leaves : (m : Channel) (c : Call) → 0 ≡ call_refusal m c → is_look c ≡ false → channel_of (changed (table_of m) c) ≡ leaves m c
unfolding leaves
accepted_leaves m (clock slot) h n = answer_accepted (channel_of (changed (table_of m) (clock slot))) (λ _. m) h
accepted_leaves m (reserve q) h n = answer_accepted (channel_of (changed (table_of m) (reserve q))) (λ _. m) h
accepted_leaves m (distance s d limit) h n = answer_accepted (channel_of (changed (table_of m) (distance s d limit))) (λ _. m) h
accepted_leaves m (wipe s) h n = answer_accepted (channel_of (changed (table_of m) (wipe s))) (λ _. m) h
accepted_leaves m (look f) h n = absurd (true≢false n)

-- what it reports, and the changed table
pub accepted_gives : (m : Channel) (c : Call) → 0 ≡ call_refusal m c → is_look c ≡ false
    → Gives m c (call_said (Ok (reported (table_of m) c))) (state_of (channel_of (changed (table_of m) c))) (channel_of (changed (table_of m) c)).memory
unfolding says
accepted_gives m c h n =
    let l = accepted_leaves m c h n in
    record {
      told = rw (← h) (ap (λ k. record { refusal = 0; number = k }) (answer_accepted (reported (table_of m) c) (λ _. 0) {m = 0} refl));
      state = ap state_of l;
      octets = ap (λ (u : Channel). u.memory) l;
    }

-- one that keeps the records that pass p, at time t, and reports those that pass q, which are the others
pub sweep_gives : (m : Channel) (c : Call) → sound m ≡ true → first_of (call_tests (table_of m) c) ≡ 0 → is_look c ≡ false
    → (t : ℕ) (p q : Rec → Bool) → ((r : Rec) → q r ≡ not (p r))
    → changed (table_of m) c ≡ record { m1 = m.m1; now = t; capacity = capacity m.memory; records = keep p (records m) }
    → reported (table_of m) c ≡ length (keep q (records m))
    → Gives m c (call_said (Ok (m.count - length (keep p (records m))))) (swept m t p) (packed (capacity m.memory) (keep p (records m)))
unfolding channel_of
sweep_gives m c h z n t p q f e r =
    let g = accepted_gives m c (sym (call_refusal-sound m c h ∙ z)) n in
    let d : m.count - length (keep p (records m)) ≡ reported (table_of m) c = rw r (omega (arith, (sound_parts m h).counted, length-keep-not p q f (records m))) in
    record { told = rw (d, ← g.told); state = rw (← g.state, e); octets = rw (← g.octets, e) }

-- ---- a distance

-- far as the code has it: a test as an octet
pub far_byte : (b : Bool) → bool_byte b ≡ far_octet b
far_byte true = refl
far_byte false = refl

-- where far is rewritten in the station's k records, and the octets b hold that
pub distance_gives : (m : Channel) (s : ℕ) (d : Distance) (limit : Float) → sound m ≡ true → first_of (call_tests (table_of m) (distance s d limit)) ≡ 0
    → (k far : ℕ) (b : List ℕ) → k ≡ length (keep (owned_by s) (records m)) → far ≡ far_octet (is_far d limit) → b ≡ packed (capacity m.memory) (map (set_far s far) (records m))
    → Gives m (distance s d limit) (call_said (Ok k)) (state_of m) b
unfolding table_of channel_of
distance_gives m s d limit h z k far b ek ef eb =
    let g = accepted_gives m (distance s d limit) (sym (call_refusal-sound m (distance s d limit) h ∙ z)) refl in
    record { told = rw (ek, ← g.told); state = rw (← g.state, length-map, (sound_parts m h).counted); octets = eb ∙ rw ef g.octets }

-- ---- a record to be added

module _ (m : Channel) (x : Rec) where
  -- refused
  pub add-refused : (e : Refusal) → first_of (held_tests (table_of m) x) ≡ number_of e → (state_of m ≡ added m x) × (m.memory ≡ added_memory m x)
  unfolding added added_memory
  add-refused e h =
      let z = not_zero e in
      let n : number_of e ≡ 0 → ⊥ = λ k. omega arith in
      (answer-refused _ _ {n = number_of e} (sym h) n, answer-refused _ _ {n = number_of e} (sym h) n)

  -- not refused
  pub add_accepted : 0 ≡ first_of (held_tests (table_of m) x)
      → (record { m1 = m.m1; now = m.now; count = m.count + 1 } ≡ added m x) × (packed (capacity m.memory) (records m ++ (x ∷ [])) ≡ added_memory m x)
  unfolding added added_memory
  add_accepted e = (answer_accepted _ _ e, answer_accepted _ _ e)

-- ---- a reserve

-- no number of a request is above its range
pub record InRange (q : Request) : Type 0 where
  pub rate_most : q.rate ≤ 60
  pub superframes_most : q.superframes ≤ 3
  pub length_most : q.length ≤ 32
  pub bs_most : q.bs ≤ 255

-- so it is where the request is not refused for its numbers
pub request_passed : (m1 now : ℕ) (q : Request) → first_of (request_tests m1 now q) ≡ 0 → InRange q
request_passed m1 now q z =
    let p = first_of-zero (request_tests m1 now q) refl z in
    let size = or_eq_false (ltb 3 q.superframes) (outside 1 32 q.length) p.1.1.1.0 in
    record {
      rate_most = (outside-false 1 60 q.rate p.1.0).1;
      superframes_most = ltb-false 3 q.superframes size.0;
      length_most = (outside-false 1 32 q.length size.1).1;
      bs_most = (outside-false 2 255 q.bs p.1.1.1.1.0).1;
    }

-- whether its further series would begin before now is told without now: where there is none, the sum is 128 at least
pub further_early : (m1 now : ℕ) (q : Request)
    → further_before m1 (new_record now q) now ≡ ltb (q.bs + q.superframes * m1 + lifted (octet_of q.bo)) 128
further_early m1 now q =
    further_before_sum m1 (new_record now q) now (omega arith)
    ∙ ltb-same (further_from m1 (new_record now q)) (now + 128) (q.bs + q.superframes * m1 + lifted (octet_of q.bo)) 128 (λ h. omega arith) (λ h. omega arith)

module _ (m : Channel) (q : Request) where
  -- the record that it asks for
  abbrev x : Rec
  x = new_record m.now q

  -- what it is refused for by its numbers
  abbrev tests : List (ℕ × Bool)
  tests = request_tests m.m1 m.now q

  -- refused for its numbers
  pub request-refused : sound m ≡ true → (e : Refusal) → first_of tests ≡ number_of e → Gives m (reserve q) (call_said (Err e)) (state_of m) m.memory
  unfolding table_of
  request-refused h e t =
      let z = not_zero e in
      tested_gives m (reserve q) h e (first_of-stop tests (held_tests (table_of m) x) (λ k. omega (arith, k, t)) ∙ t)

  -- not refused for them, it goes by the place for its record
  module _ (h : sound m ≡ true) (z : first_of tests ≡ 0) where
    by_place : call_refusal m (reserve q) ≡ first_of (held_tests (table_of m) x)
    unfolding table_of
    by_place = call_refusal-sound m (reserve q) h ∙ first_of_append tests (held_tests (table_of m) x) refl z

    more : length (records m ++ (x ∷ [])) ≡ m.count + 1
    more = length-append (records m) (x ∷ []) ∙ ap (λ n. n + 1) (sound_parts m h).counted

    -- by a record y that is shown to be it, where there is none
    pub request-lost : {y : Rec} {s : State} {b : List ℕ} (e : Refusal) → first_of (held_tests (table_of m) y) ≡ number_of e
        → s ≡ added m y → b ≡ added_memory m y → y ≡ x → Gives m (reserve q) (call_said (Err e)) s b
    request-lost {y} e t es eb k =
        let a = add-refused m y e t in
        let g = refused_gives m (reserve q) e (by_place ∙ ap (λ v. first_of (held_tests (table_of m) v)) (sym k) ∙ t) in
        record { told = g.told; state = es ∙ sym a.0 ∙ g.state; octets = eb ∙ sym a.1 ∙ g.octets }

    -- and where there is one
    pub request-added : {y : Rec} {s : State} {b : List ℕ} → first_of (held_tests (table_of m) y) ≡ 0
        → s ≡ added m y → b ≡ added_memory m y → y ≡ x → Gives m (reserve q) (call_said (Ok 0)) s b
    unfolding channel_of table_of
    request-added {y} t es eb k =
        let f = sym (ap (λ v. first_of (held_tests (table_of m) v)) (sym k) ∙ t) in
        let g = accepted_gives m (reserve q) (f ∙ sym by_place) refl in
        let a = rw (← k) at (add_accepted m x f) in
        record { told = g.told; state = es ∙ sym a.0 ∙ rw (← more) g.state; octets = eb ∙ sym a.1 ∙ rw (← k) at g.octets }

    -- so by what adding it tells
    pub request_given : {y : Rec} {s : State} {b : List ℕ} (r : Result (Unit {0}) Refusal) → Tells r (first_of (held_tests (table_of m) y)) tt
        → s ≡ added m y → b ≡ added_memory m y → y ≡ x → Gives m (reserve q) (call_said (result_and r (Ok 0))) s b
    request_given (Ok u) t es eb k = request-added t.0 es eb k
    request_given (Err e) t es eb k = request-lost e t es eb k
