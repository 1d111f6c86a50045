-- The calls over records, without octets: each leaves a sound table sound. Assumes nothing.
use Prim.Native.Nat.{ℕ, ◌+◌, ◌^◌, ◌≤◌, zero-le}
use native.Mathlib.Nat.{le_trans}
use native.Mathlib.Omega.{arith}
use mathlib.Core.Path.{◌≡◌, refl, sym, ap, ◌∙◌}
use mathlib.Core.Bool.{Bool, true, false, cond, not, ◌&&◌, and-eq-true_iff}
use mathlib.Core.List.{List, [], ◌∷◌}
use lib.IntN.{ℤ}
use lib.Dec.{leb, ltb, eqb}
use lib.ListN.{length as len, length-append, length-map}
use borrow.Author.Tests.{ltb-false, leb-false, eqb-false, lt-ltb, le-ltb, le-leb}
use Rattle.octets.specs.Lists.{keep, every}
use Rattle.octets.specs.Refusals.{outside}
use Rattle.octets.specs.Complement.{twos_of, beyond127, octet_of}
use Rattle.octets.proofs.Lists.{every-keep, every_kept, every_append, every_map, every-sub, every-and, length-keep}
use Rattle.octets.proofs.Refusals.{first_of-zero, or_eq_false, outside-false, answer_elim}
use Rattle.octets.proofs.Complement.{signed_of-twos_of, beyond127-signed_of, twos_octet, octet_of-within}
use Rattle.distance.specs.Distances.{is_far}
use Rattle.record.specs.declared.Rec.{Rec}
use Rattle.series.specs.Series.{further_from, further_before, last_slot}
use Rattle.series.proofs.Series.{further_before_sum, own-≤-last_slot}
use Rattle.sound.specs.Sound.{in_range, not_below0, lasts, good}
use Rattle.table.specs.declared.Request.{Request}
use Rattle.table.specs.Table.{Table, Said, Call, clock, reserve, distance, wipe, look, far_octet, new_record, set_far, owned_by, call_tests, changed, with_records}
use Rattle.trace.specs.Records.{Sound, refusal_on, left_on}

-- a slot state or a search leaves the table, refused or not
pub left_on-look : (t : Table) (f : Table → Said) → left_on t (look f) ≡ t
unfolding left_on
left_on-look t f = answer_elim t (λ _. t) (λ u. u ≡ t) (refusal_on t (look f)) (λ _. refl) (λ _. refl)

-- ---- a sound table

-- what a good record is at any time
abbrev standing : ℕ → Rec → Bool
standing m1 r = in_range r && not_below0 m1 r

-- each record of a sound table is that
all_standing : (t : Table) → Sound t → every (standing t.m1) t.records ≡ true
all_standing t k =
    every-sub (good t.m1 t.now) (standing t.m1) (λ r h. ((and-eq-true_iff (standing t.m1 r) (lasts t.m1 t.now r)).0 h).0) t.records k.all_good

-- so it is in range
pub all_in_range : (t : Table) → Sound t → every in_range t.records ≡ true
all_in_range t k =
    every-sub (standing t.m1) in_range (λ r h. ((and-eq-true_iff (in_range r) (not_below0 t.m1 r)).0 h).0) t.records (all_standing t k)

-- a sound table is sound with other records that are good and have room
sound_with : (t : Table) (rs : List Rec) → Sound t → len rs ≤ t.capacity → every (good t.m1 t.now) rs ≡ true → Sound (with_records t rs)
sound_with t rs k l g = record { m1_fits = k.m1_fits; capacity_fits = k.capacity_fits; now_most = k.now_most; room = l; all_good = g }

-- ---- the records that reserve and distance write

-- far as it is written is 0 or 1
far_octet-most : (far : Bool) → leb (far_octet far) 1 ≡ true
far_octet-most true = refl
far_octet-most false = refl

-- bo as it is written is an octet, and not 128
bo_octet : (z : ℤ) → beyond127 z ≡ false → (ltb (octet_of z) 256 ≡ true) × (eqb (octet_of z) 128 ≡ false)
bo_octet z h =
    let f = (twos_octet z h).fits in
    rw (octet_of-within z h) (lt-ltb (twos_of z) 256 f, sym (beyond127-signed_of (twos_of z) f) ∙ ap beyond127 (signed_of-twos_of z h) ∙ h)

-- what a reserve adds is good: the request's tests are the ranges of a record, and a further series not before now is not below 0
new_record-good : (t : Table) (q : Request) → Sound t → refusal_on t (reserve q) ≡ 0 → good t.m1 t.now (new_record t.now q) ≡ true
unfolding in_range lasts
new_record-good t q k h =
    let r = new_record t.now q in
    let p = first_of-zero (call_tests t (reserve q)) refl h in
    let nine = or_eq_false (ltb 3 q.superframes) (outside 1 32 q.length) p.1.1.1.0 in
    let five = outside-false 2 255 q.bs p.1.1.1.1.0 in
    let six = bo_octet q.bo p.1.1.1.1.1.0 in
    let late = ltb-false (further_from t.m1 r) (t.now + 128) (sym (further_before_sum t.m1 r t.now (omega arith)) ∙ p.1.1.1.1.1.1.0) in
    let some = eqb-false q.superframes 0 p.1.1.0 in
    let long = outside-false 1 32 q.length nine.1 in
    rw (
      lt-ltb q.station (2 ^ 27) (leb-false (2 ^ 27) q.station p.0),
      le-leb (t.now + q.bs) 1_000_000_255 (omega (arith, k.now_most)),
      p.1.0,
      le-ltb q.superframes 1 (omega arith),
      nine.0,
      nine.1,
      far_octet-most (is_far q.distance q.limit),
      six.0,
      six.1,
      further_before_sum t.m1 r 0 zero-le,
      le-ltb (further_from t.m1 r) 128 (omega arith),
    )
    (le-leb t.now (last_slot t.m1 r) (omega (arith, own-≤-last_slot t.m1 r)))

-- and so it is after a distance, the station's own or as it was
far-most : (own far : Bool) (held : ℕ) → leb held 1 ≡ true → leb (cond own (far_octet far) held) 1 ≡ true
far-most true far held h = far_octet-most far
far-most false far held h = h

-- far rewritten, a good record stays good
set_far-good : (m1 now s : ℕ) (far : Bool) (r : Rec) → good m1 now r ≡ true → good m1 now (set_far s (far_octet far) r) ≡ true
unfolding in_range further_before lasts last_slot
set_far-good m1 now s far r h =
    let p = simp and-eq-true_iff at h in
    let i = p.0.0 in
    let b = i.0.0 in
    simp and-eq-true_iff ((((((b.0.0, far-most (owned_by s r) far r.far b.0.1), b.1), i.0.1), i.1), p.0.1), p.1)

-- ---- a call

-- an accepted call leaves a sound table sound
pub sound-changed : (t : Table) (c : Call) → Sound t → refusal_on t c ≡ 0 → Sound (changed t c)
sound-changed t (clock slot) k h =
    let p = first_of-zero (call_tests t (clock slot)) refl h in
    let still = standing t.m1 in
    let stay = lasts t.m1 slot in
    record {
      m1_fits = k.m1_fits;
      capacity_fits = k.capacity_fits;
      now_most = ltb-false 1_000_000_000 slot p.1.0;
      room = le_trans (length-keep stay t.records) k.room;
      all_good = every-and still stay (keep stay t.records) (every-keep still stay t.records (all_standing t k)) (every_kept stay t.records);
    }
sound-changed t (reserve q) k h =
    let p = first_of-zero (call_tests t (reserve q)) refl h in
    let not_full = eqb-false (len t.records) t.capacity p.1.1.1.1.1.1.1.1.1.0 in
    sound_with t _ k
    (rw length-append (omega (arith, k.room)))
    (rw (every_append (good t.m1 t.now) t.records (new_record t.now q ∷ []), k.all_good, new_record-good t q k h))
sound-changed t (distance s d limit) k h =
    let g = good t.m1 t.now in
    sound_with t _ k
    (rw length-map k.room)
    (every_map g g (set_far s (far_octet (is_far d limit))) (set_far-good t.m1 t.now s (is_far d limit)) t.records k.all_good)
sound-changed t (wipe s) k h =
    let p : Rec → Bool = λ r. not (owned_by s r) in
    sound_with t _ k
    (le_trans (length-keep p t.records) k.room)
    (every-keep (good t.m1 t.now) p t.records k.all_good)
sound-changed t (look f) k h = k

-- and so does any call
pub sound-left_on : (t : Table) (c : Call) → Sound t → Sound (left_on t c)
unfolding left_on
sound-left_on t c k = answer_elim (changed t c) (λ _. t) Sound (refusal_on t c) (sound-changed t c k) (λ _. k)
