-- The fresh map after each call, from what was worked out before it. Assumes nothing.
use Prim.Native.Nat.{ℕ, ◌+◌, ◌-◌, ◌≤◌}
use native.Mathlib.Omega.{arith}
use mathlib.Core.Path.{◌≡◌, refl, sym, ap, ◌∙◌}
use mathlib.Core.Bool.{Bool, true, false, not, true≢false}
use mathlib.Core.List.{List, [], ◌∷◌, ◌++◌, map}
use lib.Ieee.{Float}
use lib.ListN.{length as len, take, drop, replicate, length-drop}
use lib.Seq.{drop_at, take-append-le, drop-append-le}
use borrow.Author.Tests.{leb-false, not-true}
use Rattle.octets.specs.Lists.{keep}
use Rattle.octets.specs.Octets.{holds_only, zero_from, copied_over}
use Rattle.octets.proofs.Lists.{keep-map, map-keep}
use Rattle.octets.proofs.Refusals.{answer_accepted, by_test}
use Rattle.distance.specs.declared.Distance.{Distance}
use Rattle.distance.specs.Distances.{is_far}
use Rattle.record.specs.declared.Rec.{Rec}
use Rattle.series.specs.Series.{reserves, last_slot}
use Rattle.series.proofs.Series.{none_outside}
use Rattle.sound.specs.Sound.{Channel, records, lasts, sound}
use Rattle.sound.proofs.Sound.{sound_parts}
use Rattle.std.proofs.Common.{Ok}
use Rattle.table.specs.declared.State.{State}
use Rattle.table.specs.declared.Request.{Request}
use Rattle.table.specs.Table.{Table, Call, clock, reserve, distance, wipe, look, is_look, owned_by, set_far, far_octet, new_record, changed}
use Rattle.table.specs.Memory.{channel, table_of, channel_of, call_refusal, leaves, call_said, Gives}
use Rattle.table.proofs.Calls.{call_refusal_unsound, call_refusal-sound}
use Rattle.trace.proofs.Kept.{sound-changed}
use Rattle.trace.proofs.Written.{records-channel_of, sound-table_of}
use Rattle.slots.specs.Window.{window_states, raised}
use Rattle.slots.proofs.Window.{length-window_states}
use Rattle.slots.proofs.Parts.{slot_state_number-keep, window_states_agree, window_states_append, window_states-drop, window_parts}
use Rattle.slotmap.specs.Map.{fresh_map}
use Rattle.slotmap.proofs.Fresh.{sound_m1, copied_over_window}
use Rattle.slotmap.proofs.Given.{gives_leaves, gives_accepted}
use Rattle.slotmap.proofs.Window.{window_long}

-- ---- another station's record

-- a distance leaves it as it was
set_far-other : (s far : ℕ) (r : Rec) → not (owned_by s r) ≡ true → set_far s far r ≡ r
set_far-other s far r h = rw (not-true (owned_by s r) h)

-- ---- what an accepted call leaves

-- the table was sound
pub accepted_sound : (m : Channel) (c : Call) → call_refusal m c ≡ 0 → sound m ≡ true
accepted_sound m c z = by_test (sound m) (λ h. h) (λ h. absurd (omega (arith, call_refusal_unsound m c h, z)))

-- the changed table, unless it only looks
accepted_leaves : (m : Channel) (c : Call) → call_refusal m c ≡ 0 → is_look c ≡ false → leaves m c ≡ channel_of (changed (table_of m) c)
unfolding leaves
accepted_leaves m (clock slot) z n = sym (answer_accepted (channel_of (changed (table_of m) (clock slot))) (λ _. m) (sym z))
accepted_leaves m (reserve q) z n = sym (answer_accepted (channel_of (changed (table_of m) (reserve q))) (λ _. m) (sym z))
accepted_leaves m (distance s d limit) z n = sym (answer_accepted (channel_of (changed (table_of m) (distance s d limit))) (λ _. m) (sym z))
accepted_leaves m (wipe s) z n = sym (answer_accepted (channel_of (changed (table_of m) (wipe s))) (λ _. m) (sym z))
accepted_leaves m (look f) z n = absurd (true≢false n)

module _ (m : Channel) (c : Call) (z : call_refusal m c ≡ 0) (changes : is_look c ≡ false) where
  abbrev after : Table
  after = changed (table_of m) c

  -- its records
  left-records : records (leaves m c) ≡ after.records
  left-records =
      let h = accepted_sound m c z in
      rw (accepted_leaves m c z changes)
      (records-channel_of after (sound-changed (table_of m) c (sound-table_of m h) (sym (call_refusal-sound m c h) ∙ z)))

  -- and its numbers
  left-numbers : ((leaves m c).m1 ≡ after.m1) × ((leaves m c).now ≡ after.now)
  unfolding channel_of
  left-numbers = rw (accepted_leaves m c z changes) (refl, refl)

  -- so its fresh map
  left_fresh : fresh_map (leaves m c) ≡ window_states after.m1 after.records after.now after.m1
  unfolding fresh_map
  left_fresh = rw (left-records, left-numbers.0, left-numbers.1)

-- ---- a clock

-- a record that is over at a slot reserves none from there on
over_reserves : (m1 slot i : ℕ) (r : Rec) → lasts m1 slot r ≡ false → reserves m1 r (slot + i) ≡ false
unfolding lasts
over_reserves m1 slot i r h =
    by_test (reserves m1 r (slot + i))
    (λ e. absurd (omega (arith, (none_outside m1 r (slot + i) e).1, leb-false slot (last_slot m1 r) h)))
    (λ e. e)

-- the records that it drops don't count from its slot on
window_states-lasts : (m1 : ℕ) (rs : List Rec) (slot n : ℕ) → window_states m1 (keep (lasts m1 slot) rs) slot n ≡ window_states m1 rs slot n
window_states-lasts m1 rs slot n =
    window_states_agree m1 (keep (lasts m1 slot) rs) rs slot n (λ i _. slot_state_number-keep m1 (slot + i) (lasts m1 slot) rs (over_reserves m1 slot i))

-- so a window of the map's slots and of those that come to it holds the fresh map from its slot on
clock_moved : (m : Channel) (slot by : ℕ) → call_refusal m (clock slot) ≡ 0 → m.now + by ≡ slot → (rest : List ℕ)
    → take m.m1 (drop by (window_states m.m1 (records m) m.now (m.m1 + by) ++ rest)) ≡ fresh_map (leaves m (clock slot))
unfolding table_of
clock_moved m slot by z e rest =
    let w = window_states m.m1 (records m) m.now (m.m1 + by) in
    let k : len w ≡ m.m1 + by = length-window_states m.m1 (records m) m.now (m.m1 + by) in
    let split : drop by (w ++ rest) ≡ drop by w ++ rest = drop-append-le by w rest (omega arith) in
    let long : len (drop by w) ≡ m.m1 = length-drop by w ∙ omega arith in
    rw (split, take-append-le m.m1 (drop by w) rest (omega arith))
    (window_states-drop m.m1 (records m) m.now (m.m1 + by) by m.m1 (omega arith)
    ∙ rw e (sym (window_states-lasts m.m1 (records m) slot m.m1))
    ∙ sym (left_fresh m (clock slot) z refl))

-- ---- a distance and a wipe, in a window with room behind it

module _ (m : Channel) (n : ℕ) (size : n ≡ m.m1 + 32) where
  -- it has as many slots as the map
  room : n - 32 ≡ m.m1
  room = omega arith

  -- a distance: the states by the other stations' records, raised by the station's
  distance_fresh : (s : ℕ) (d : Distance) (limit : Float) → call_refusal m (distance s d limit) ≡ 0 → (xs : List ℕ)
      → xs ≡ holds_only n (window_states m.m1 (keep (λ r. not (owned_by s r)) (records m)) m.now (n - 32))
      → let l = leaves m (distance s d limit) in zero_from (n - 32) (raised l.m1 (keep (owned_by s) (records l)) m.now xs) ≡ holds_only n (fresh_map l)
  unfolding table_of
  distance_fresh s d limit z xs e =
      let others : Rec → Bool = λ r. not (owned_by s r) in
      let far = set_far s (far_octet (is_far d limit)) in
      let rs = map far (records m) in
      let same : keep others rs ≡ keep others (records m) =
      keep-map others far (λ r. refl) (records m) ∙ map-keep others far (λ r h. set_far-other s (far_octet (is_far d limit)) r h) (records m) in
      let c = distance s d limit in
      ap (λ (k : ℕ). zero_from (n - 32) (raised k (keep (owned_by s) (records (leaves m c))) m.now xs)) (left-numbers m c z refl).0
      ∙ ap (λ (ys : List Rec). zero_from (n - 32) (raised m.m1 (keep (owned_by s) ys) m.now xs)) (left-records m c z refl)
      ∙ window_parts m.m1 (owned_by s) rs m.now n xs (e ∙ ap (λ (ys : List Rec). holds_only n (window_states m.m1 ys m.now (n - 32))) (sym same))
      ∙ ap (holds_only n) (ap (window_states m.m1 rs m.now) room ∙ sym (left_fresh m c z refl))

-- a wipe leaves the states by the other stations' records
wipe_fresh : (m : Channel) (s : ℕ) → call_refusal m (wipe s) ≡ 0
    → fresh_map (leaves m (wipe s)) ≡ window_states m.m1 (keep (λ r. not (owned_by s r)) (records m)) m.now m.m1
unfolding table_of
wipe_fresh m s z = left_fresh m (wipe s) z refl

-- ---- the map that an accepted call leaves, by what the functions hold then

module _ (m : Channel) (p : List ℕ) (sized : len p ≡ m.m1) where
  -- a clock that leaves slots of the map: the window from its slot on
  pub clock_left : (slot by n : ℕ) {k : ℕ} {t : State} {b : List ℕ} → Gives m (clock slot) (call_said (Ok k)) t b
      → n ≡ m.m1 + by + 32 → m.now + by ≡ slot → (xs : List ℕ) → xs ≡ holds_only n (window_states m.m1 (records m) m.now (n - 32))
      → take (len p) (drop by xs) ≡ fresh_map (leaves m (clock slot))
  clock_left slot by n g size at xs e =
      let room : n - 32 ≡ m.m1 + by = omega arith in
      let w = window_states m.m1 (records m) m.now in
      ap (λ (k : ℕ). take k (drop by xs)) sized
      ∙ ap (λ (ys : List ℕ). take m.m1 (drop by ys)) (e ∙ ap (λ (k : ℕ). holds_only n (w k)) room)
      ∙ clock_moved m slot by (gives_accepted g) at (replicate (n - len (w (m.m1 + by))) 0)

  -- any other: the states worked out anew
  pub clock_anew : (slot n : ℕ) {k : ℕ} {t : State} {b : List ℕ} → Gives m (clock slot) (call_said (Ok k)) t b → n ≡ m.m1 + 32
      → (ys : List ℕ) → ys ≡ holds_only n (window_states t.m1 (records (channel t b)) slot (n - 32))
      → copied_over ys p ≡ fresh_map (leaves m (clock slot))
  unfolding table_of fresh_map
  clock_anew slot n g size ys e =
      let l = leaves m (clock slot) in
      let k = left-numbers m (clock slot) (gives_accepted g) refl in
      let room : n - 32 ≡ m.m1 = omega arith in
      let f : holds_only n (window_states l.m1 (records l) slot (n - 32)) ≡ holds_only n (fresh_map l) =
      ap (holds_only n) (ap (λ (i : ℕ). window_states l.m1 (records l) slot i) (room ∙ sym k.0) ∙ ap (λ (i : ℕ). window_states l.m1 (records l) i l.m1) (sym k.1)) in
      ap (λ (xs : List ℕ). copied_over xs p) (e ∙ ap (λ (u : Channel). holds_only n (window_states u.m1 (records u) slot (n - 32))) (gives_leaves g) ∙ f)
      ∙ copied_over_window l n p (sized ∙ sym k.0)

  -- a reserve: the map raised by the record that it added
  pub reserve_left : (q : Request) {k : ℕ} {t : State} {b : List ℕ} → Gives m (reserve q) (call_said (Ok k)) t b → p ≡ fresh_map m
      → raised t.m1 (drop m.count (records (channel t b))) t.now p ≡ fresh_map (leaves m (reserve q))
  unfolding table_of fresh_map
  reserve_left q g e =
      let zero = gives_accepted g in
      let x = new_record m.now q in
      let k = left-numbers m (reserve q) zero refl in
      let added : drop m.count (records (leaves m (reserve q))) ≡ x ∷ [] =
      ap (drop m.count) (left-records m (reserve q) zero refl) ∙ drop_at (records m) (x ∷ []) m.count (sound_parts m (accepted_sound m (reserve q) zero)).counted in
      ap (λ (u : Channel). raised u.m1 (drop m.count (records u)) u.now p) (gives_leaves g)
      ∙ rw (added, k.0, k.1, e) (window_states_append m.m1 (records m) (x ∷ []) m.now m.m1)
      ∙ sym (left_fresh m (reserve q) zero refl)

  -- and what it leaves lies below 2^32, with a map of no fewer than 32 slots
  pub reserve_fits : (q : Request) {k : ℕ} {t : State} {b : List ℕ} → Gives m (reserve q) (call_said (Ok k)) t b → (32 ≤ len p) × (t.now + len p ≤ 4294967295)
  unfolding table_of
  reserve_fits q g =
      let zero = gives_accepted g in
      let h = accepted_sound m (reserve q) zero in
      let k = sound_m1 m h in
      let e = ap (λ (u : Channel). u.now) (gives_leaves g) ∙ (left-numbers m (reserve q) zero refl).1 in
      (omega arith, omega (arith, (sound_parts m h).now_most))

  -- a window holds the states by the other stations' records
  abbrev pub HasOthers : ℕ → List ℕ → Type 0
  HasOthers s w = w ≡ holds_only (len p + 32) (window_states m.m1 (keep (λ r. not (owned_by s r)) (records m)) m.now (len p))

  -- a distance: they are raised by the station's
  pub distance_left : (s : ℕ) (d : Distance) (limit : Float) {k : ℕ} {t : State} {b : List ℕ} → Gives m (distance s d limit) (call_said (Ok k)) t b
      → (w ys : List ℕ) → HasOthers s w → ys ≡ zero_from (len w - 32) (raised t.m1 (keep (owned_by s) (records (channel t b))) m.now w)
      → copied_over ys p ≡ fresh_map (leaves m (distance s d limit))
  unfolding table_of
  distance_left s d limit {k} {t} {b} g w ys e f =
      let c = distance s d limit in
      let n = len p + 32 in
      let l = leaves m c in
      let zero = gives_accepted g in
      let others = keep (λ r. not (owned_by s r)) (records m) in
      let room : len p ≡ n - 32 = omega arith in
      ap (λ (zs : List ℕ). copied_over zs p)
      (f
      ∙ ap (λ (k : ℕ). zero_from (k - 32) (raised t.m1 (keep (owned_by s) (records (channel t b))) m.now w)) (window_long m.m1 m.now (len p) others w e)
      ∙ ap (λ (u : Channel). zero_from (n - 32) (raised u.m1 (keep (owned_by s) (records u)) m.now w)) (gives_leaves g)
      ∙ distance_fresh m n (omega arith) s d limit zero w (e ∙ ap (λ (k : ℕ). holds_only n (window_states m.m1 others m.now k)) room))
      ∙ copied_over_window l n p (sized ∙ sym (left-numbers m c zero refl).0)

  -- a wipe: they are left
  pub wipe_left : (s : ℕ) {k : ℕ} {t : State} {b : List ℕ} → Gives m (wipe s) (call_said (Ok k)) t b → (w : List ℕ) → HasOthers s w
      → copied_over w p ≡ fresh_map (leaves m (wipe s))
  unfolding table_of
  wipe_left s g w e =
      let n = len p + 32 in
      let zero = gives_accepted g in
      let others = window_states m.m1 (keep (λ r. not (owned_by s r)) (records m)) m.now in
      ap (λ (zs : List ℕ). copied_over zs p) (e ∙ ap (holds_only n) (ap others sized ∙ sym (wipe_fresh m s zero)))
      ∙ copied_over_window (leaves m (wipe s)) n p (sized ∙ sym (left-numbers m (wipe s) zero refl).0)
