-- Over records, for any set `gone` of stations: a sequence, with their records taken out at its end, is the sequence without their calls.
-- One law for each call; the sequence is a law of machines. Assumes nothing.
use Prim.Native.Nat.{ℕ}
use native.Mathlib.Omega.{arith}
use mathlib.Core.Path.{◌≡◌, refl, sym, ap, ◌∙◌}
use mathlib.Core.Bool.{Bool, true, false, not, and-eq-true_iff, true≢false, false≢true}
use mathlib.Core.List.{List, [], ◌∷◌, ◌++◌, append-nil}
use lib.Dec.{eqb}
use lib.ListN.{length as len}
use borrow.Author.Tests.{eqb-true, eqb-false, ne_eqb, not-true}
use Rattle.octets.specs.Lists.{keep, has}
use Rattle.octets.specs.Refusals.{first_of}
use Rattle.octets.proofs.Lists.{keep_comm, keep-sub, keep_append, keep-map, map-keep, has-keep, length-keep}
use Rattle.octets.proofs.Refusals.{first_of_last, answer_elim, answer-map}
use Rattle.distance.specs.Distances.{is_far}
use Rattle.record.specs.declared.Rec.{Rec}
use Rattle.sound.specs.Sound.{lasts}
use Rattle.table.specs.declared.Request.{Request}
use Rattle.table.specs.Table.{Table, Call, clock, reserve, distance, wipe, look, far_octet, new_record, same, owned_by, set_far, request_tests, changed, with_records}
use Rattle.trace.specs.Sequences.{names, others, others_had_room}
use Rattle.trace.specs.Records.{Sound, refusal_on, left_on, said_on, on_records}
use Rattle.trace.proofs.Machine.{Untraced}
use Rattle.trace.proofs.Kept.{left_on-look, sound-left_on}

module _ (gone : ℕ → Bool) where
  -- a record of a station that stays
  abbrev pub of_others : Rec → Bool
  of_others r = not (gone r.station)

  -- the table without the records of the stations that go
  abbrev pub left : Table → Table
  left t = with_records t (keep of_others t.records)

  -- a station that stays has records that stay
  owned_by-of_others : (s : ℕ) → gone s ≡ false → (r : Rec) → owned_by s r ≡ true → of_others r ≡ true
  owned_by-of_others s g r e = rw (eqb-true r.station s e, g)

  -- and so has a reservation of its own
  same-of_others : (a : Rec) → gone a.station ≡ false → (r : Rec) → same a r ≡ true → of_others r ≡ true
  unfolding same
  same-of_others a g r e =
      let p = simp and-eq-true_iff at e in
      let q : a.station ≡ r.station = search eqb-true in
      rw (← q, g)

  -- a record that stays is of no station that goes
  of_others-not-owned_by : (s : ℕ) → gone s ≡ true → (r : Rec) → of_others r ≡ true → owned_by s r ≡ false
  of_others-not-owned_by s g r e =
      ne_eqb r.station s λ q. true≢false (sym g ∙ ap gone (sym q) ∙ not-true (gone r.station) e)

  -- ---- a call of a station that goes: nothing of it is left

  -- where it is accepted
  gone_changed : (t : Table) (c : Call) → names gone c ≡ true → left (changed t c) ≡ left t
  gone_changed t (clock slot) g = absurd (false≢true g)
  gone_changed t (reserve q) g =
      ap (with_records t) (rw (keep_append of_others t.records (new_record t.now q ∷ []), g) (append-nil (keep of_others t.records)))
  gone_changed t (distance s d limit) g =
      let far = set_far s (far_octet (is_far d limit)) in
      ap (with_records t) (keep-map of_others far (λ r. refl) t.records ∙ map-keep of_others far (λ r e. rw (of_others-not-owned_by s g r e)) t.records)
  gone_changed t (wipe s) g =
      ap (with_records t) (keep-sub of_others (λ r. not (owned_by s r)) (λ r e. rw (of_others-not-owned_by s g r e)) t.records)
  gone_changed t (look f) g = absurd (false≢true g)

  -- accepted or refused
  gone_left_on : (t : Table) (c : Call) → names gone c ≡ true → left (left_on t c) ≡ left t
  unfolding left_on
  gone_left_on t c g = answer_elim (changed t c) (λ _. t) (λ u. left u ≡ left t) (refusal_on t c) (λ _. gone_changed t c g) (λ _. refl)

  -- ---- any other call: it does the same to what is left

  -- where it is accepted
  kept_changed : (t : Table) (c : Call) → names gone c ≡ false → changed (left t) c ≡ left (changed t c)
  kept_changed t (clock slot) g =
      ap (λ rs. record { m1 = t.m1; now = slot; capacity = t.capacity; records = rs }) (keep_comm (lasts t.m1 slot) of_others t.records)
  kept_changed t (reserve q) g = ap (with_records t) (rw (keep_append of_others t.records (new_record t.now q ∷ []), g))
  kept_changed t (distance s d limit) g =
      ap (with_records t) (sym (keep-map of_others (set_far s (far_octet (is_far d limit))) (λ r. refl) t.records))
  kept_changed t (wipe s) g = ap (with_records t) (keep_comm (λ r. not (owned_by s r)) of_others t.records)
  kept_changed t (look f) g = refl

  -- fewer records leave room where there was some
  kept_room : (t : Table) → Sound t → eqb (len t.records) t.capacity ≡ false → eqb (len (left t).records) t.capacity ≡ false
  kept_room t k e =
      ne_eqb (len (left t).records) t.capacity
      (omega (arith, length-keep of_others t.records, eqb-false (len t.records) t.capacity e, k.room))

  -- a reserve's tests but the last, which is 17
  abbrev early : Table → Request → List (ℕ × Bool)
  early t q = request_tests t.m1 t.now q ++ ((16, has (same (new_record t.now q)) t.records) ∷ [])

  -- none of them depends on a record that goes
  early-left : (t : Table) (q : Request) → gone q.station ≡ false → early (left t) q ≡ early t q
  early-left t q g = rw (has-keep (same (new_record t.now q)) of_others (same-of_others (new_record t.now q) g) t.records)

  -- so a reserve gets the same refusal, unless it was refused because the table was full
  reserve_refusal : (t : Table) (q : Request) → Sound t → gone q.station ≡ false → others_had_room gone (reserve q, said_on t (reserve q)) ≡ true
      → refusal_on (left t) (reserve q) ≡ refusal_on t (reserve q)
  unfolding said_on
  reserve_refusal t q k g r =
      let full = eqb-false (refusal_on t (reserve q)) 17 (not-true (eqb (refusal_on t (reserve q)) 17) (rw g at r)) in
      ap (λ xs. first_of (xs ++ ((17, eqb (len (left t).records) t.capacity) ∷ []))) (early-left t q g)
      ∙ first_of_last 17 (early t q) (eqb (len t.records) t.capacity) (eqb (len (left t).records) t.capacity) full (kept_room t k)

  -- the same refusal leaves the same table
  refusal_on-left_on : (t : Table) (c : Call) → names gone c ≡ false → refusal_on (left t) c ≡ refusal_on t c → left_on (left t) c ≡ left (left_on t c)
  unfolding left_on
  refusal_on-left_on t c g e = rw (e, kept_changed t c g) (answer-map (changed t c) (λ _. t) left (refusal_on t c))

  module _ (t : Table) (k : Sound t) where
    kept_left_on : (c : Call) → names gone c ≡ false → others_had_room gone (c, said_on t c) ≡ true → left_on (left t) c ≡ left (left_on t c)
    kept_left_on (clock slot) g r = refusal_on-left_on t (clock slot) g refl
    kept_left_on (reserve q) g r = refusal_on-left_on t (reserve q) g (reserve_refusal t q k g r)
    kept_left_on (distance s d limit) g r = refusal_on-left_on t (distance s d limit) g refl
    kept_left_on (wipe s) g r = refusal_on-left_on t (wipe s) g refl
    kept_left_on (look f) g r = left_on-look (left t) f ∙ ap left (sym (left_on-look t f))

    -- a station that stays is told the same
    kept_said_on : (c : Call) → names (others gone) c ≡ true → others_had_room gone (c, said_on t c) ≡ true → said_on (left t) c ≡ said_on t c
    unfolding said_on
    kept_said_on (clock slot) n r = absurd (false≢true n)
    kept_said_on (reserve q) n r = rw (reserve_refusal t q k (not-true (gone q.station) n) (unfold said_on in r))
    kept_said_on (distance s d limit) n r = rw (keep-sub (owned_by s) of_others (owned_by-of_others s (not-true (gone s) n)) t.records)
    kept_said_on (wipe s) n r = rw (keep-sub (owned_by s) of_others (owned_by-of_others s (not-true (gone s) n)) t.records)
    kept_said_on (look f) n r = absurd (false≢true n)

  -- ---- two tables side by side

  -- a station that goes is none of the others
  names-others : (c : Call) → names gone c ≡ true → names (others gone) c ≡ false
  names-others (clock slot) g = refl
  names-others (reserve q) g = rw g
  names-others (distance s d limit) g = rw g
  names-others (wipe s) g = rw g
  names-others (look f) g = refl

  -- two sound tables alike: the second has the records of the stations that stay
  abbrev pub Alike : Table → Table → Type 0
  Alike t u = Sound t × (u ≡ left t)

  pub untraced : Untraced on_records Alike (names gone) (names (others gone)) (others_had_room gone)
  untraced =
      record {
        gone = λ t u c a g. (sound-left_on t c a.0, a.1 ∙ sym (gone_left_on t c g));
        kept = λ t u c a g r. (sound-left_on t c a.0, rw a.1 (kept_left_on t a.0 c g r));
        told = λ t u c a n r. rw a.1 (kept_said_on t a.0 c n r);
        apart = names-others;
      }
