-- The state that a host forms from an answer over C, and how it tells a refusal. Assumes nothing.
use Prim.Native.Nat.{ℕ, ◌+◌, ◌-◌, ◌%◌, ◌<◌, ◌≤◌, zero-le}
use native.Mathlib.Nat.{mod-lt}
use native.Mathlib.Omega.{arith}
use mathlib.Core.Path.{◌≡◌, refl, sym, ap, ◌∙◌}
use mathlib.Core.Bool.{Bool, true, false, cond, not, true≢false}
use mathlib.Core.List.{List, [], ◌∷◌, ◌++◌, map}
use lib.Dec.{leb}
use lib.ListN.{length as len, get_or, length-append, length-map}
use borrow.Author.Tests.{le-leb, lt-leb}
use Rattle.std.proofs.Common.{Option, Some, None}
use Rattle.octets.specs.Lists.{keep}
use Rattle.octets.specs.Refusals.{first_of, answer, outside}
use Rattle.octets.proofs.Lists.{length-keep-not}
use Rattle.octets.proofs.Refusals.{by_refusal, first_of-zero, outside-false, answer_elim, answer-refused, answer_accepted}
use Rattle.codec.specs.Rates.{Lookup, rate_tests, refused_lookup}
use Rattle.codec.proofs.Rates.{bad_list_entry}
use Rattle.record.specs.declared.Rec.{Rec}
use Rattle.distance.specs.Distances.{is_far}
use Rattle.sound.specs.Sound.{Channel, records, lasts}
use Rattle.sound.proofs.Sound.{SoundParts, sound_parts}
use Rattle.table.specs.declared.State.{State}
use Rattle.slots.specs.declared.Slot.{Slot}
use Rattle.slots.specs.declared.Slot.TheVariants.{Free, Reusable, Taken}
use Rattle.table.specs.Table.{Call, clock, reserve, distance, wipe, look, is_look, new_record, far_octet, owned_by, set_far, changed, reported}
use Rattle.table.specs.Memory.{channel, state_of, table_of, channel_of}
use Rattle.slots.specs.Slots.{SlotAnswer, Is, Refused, slot_answer, state_number, slot_said}
use Rattle.table.proofs.Memory.{length_kept}
use Rattle.daylog.specs.declared.LoggedCall.{LoggedCall}
use Rattle.daylog.specs.declared.LoggedCall.TheVariants.{Clock, Reserve, SetDistance, Wipe}
use Rattle.daylog.specs.Entries.{log_record_of, call_in, by_call}
use Rattle.daylog.proofs.Entries.{call_in_elim}
use Rattle.slotmap.specs.Map.{Mapped, with_map, map_refusal, map_leaves, map_says, open_map_refusal, open_map_leaves, map_entry_says, map_entry_leaves}
use Rattle.slotmap.proofs.Given.{map_leaves-refused}
use Rattle.search.specs.Search.{Picked, searched, picked}
use Rattle.search.proofs.Answers.{found-fits}
use Rattle.gemthatch.specs.OverC.{over_c, call_number, entry_number}
use Rattle.gemthatch.specs.Claims.{moved, formed, formed_by_entry, StateFormed, EntryFormed, StateOpened, RefusalTold, ReportedSmall, EntrySmall, FoundSmall, SlotSmall, RateSmall, PickSmall}
use Rattle.gemthatch.proofs.MapCalls.{accepted_fit, accepted_made, look-leaves}

-- ---- over_c

-- an accepted number stands as it is
over_c_accepted : (number : ℕ) → over_c 0 number ≡ number
unfolding over_c answer
over_c_accepted number = refl

-- a refusal from 2,000,000,000 on
over_c-refused : (call_refusal number : ℕ) → (call_refusal ≡ 0 → ⊥) → over_c call_refusal number ≡ 2_000_000_000 + call_refusal
unfolding over_c
over_c-refused call_refusal number h = sym (answer-refused number (λ n. 2_000_000_000 + n) {n = call_refusal} refl h)

pub refusal_told : RefusalTold
refusal_told call_refusal number h =
    by_refusal call_refusal
    (λ z. rw (z, over_c_accepted number, lt-leb 2_000_000_000 number h))
    (λ z. rw (over_c-refused call_refusal number z, le-leb 2_000_000_000 (2_000_000_000 + call_refusal) (omega arith)) (omega arith))

-- ---- numbers are small

-- a call that is not refused was made on a sound table
accepted_held : (x : Mapped) (c : Call) → map_refusal x c ≡ 0 → SoundParts x.channel
accepted_held x c z = sound_parts x.channel (accepted_fit x c z).0

-- and so reports no more than its records
reported-most : (m : Channel) (c : Call) → is_look c ≡ false → SoundParts m → reported (table_of m) c ≤ 2048
unfolding table_of
reported-most m (clock slot) h k = omega (arith, length_kept m k (λ r. not (lasts m.m1 slot r)), k.room, k.capacity-most)
reported-most m (reserve q) h k = zero-le
reported-most m (distance s d limit) h k = omega (arith, length_kept m k (owned_by s), k.room, k.capacity-most)
reported-most m (wipe s) h k = omega (arith, length_kept m k (owned_by s), k.room, k.capacity-most)
reported-most m (look f) h k = absurd (true≢false h)

pub reported_small : ReportedSmall
unfolding map_says
reported_small x c h =
    answer_elim (reported (table_of x.channel) c) (λ _. 0) (λ n. n ≤ 2048) (map_refusal x c) (λ z. reported-most x.channel c h (accepted_held x c z)) (λ _. zero-le)

-- whatever call is in a log record
by_call_small : (x : Mapped) (e : Option LoggedCall) → (by_call e (map_says x) (record { refusal = 23; number = 0 })).number ≤ 2048
by_call_small x (Some (Clock slot)) = reported_small x (clock slot) refl
by_call_small x (Some (Reserve q)) = reported_small x (reserve q) refl
by_call_small x (Some (SetDistance s d limit)) = reported_small x (distance s d limit) refl
by_call_small x (Some (Wipe s)) = reported_small x (wipe s) refl
by_call_small x None = zero-le

pub entry_small : EntrySmall
unfolding map_entry_says
entry_small x o = by_call_small x (call_in o)

pub found_small : FoundSmall
unfolding searched
found_small x q places = (found-fits x q places).1

-- no slot's state has a number above 2
state_number_small : (x : Slot) → state_number x ≤ 2
state_number_small Free = zero-le
state_number_small Reusable = omega arith
state_number_small Taken = omega arith

slot_said_small : (x : SlotAnswer) → (slot_said x).number ≤ 2
slot_said_small (Is x) = state_number_small x
slot_said_small (Refused n) = zero-le

pub slot_small : SlotSmall
slot_small m slot = slot_said_small (slot_answer m slot)

pub rate_small : RateSmall
unfolding rate_tests
rate_small rates code =
    answer_elim (record { refusal = 0; number = get_or rates code 0 }) refused_lookup (λ (f : Lookup). f.number ≤ 60) (first_of (rate_tests rates code))
    (λ z. bad_list_entry rates code (first_of-zero (rate_tests rates code) refl z).0)
    (λ _. zero-le)

pub pick_small : PickSmall
unfolding picked
pick_small n r =
    answer_elim (record { refusal = 0; place = r % n }) (λ k. record { refusal = k; place = 0 }) (λ (p : Picked). p.place < 16) (first_of ((20, outside 1 16 n) ∷ []))
    (λ z. let k = outside-false 1 16 n (first_of-zero ((20, outside 1 16 n) ∷ []) refl z).0 in omega (arith, mod-lt r k.0, k.1))
    (λ _. omega arith)

-- ---- the state formed

module _ (s : State) (b p : List ℕ) where
  -- the table that the call is made on
  abbrev given : Channel
  given = channel s b

  -- and the map lent with it
  abbrev x : Mapped
  x = with_map s b p

  -- the state at a time, with so many records
  abbrev then : ℕ → ℕ → State
  then t n = record { m1 = s.m1; now = t; count = n }

  -- by what an accepted call reports
  moved_written : (c : Call) → is_look c ≡ false → SoundParts given → moved s c (reported (table_of given) c) ≡ state_of (channel_of (changed (table_of given) c))
  unfolding table_of channel_of
  moved_written (clock slot) h k =
      let live = lasts s.m1 slot in
      let over : Rec → Bool = λ r. not (live r) in
      let e : s.count - len (keep over (records given)) ≡ len (keep live (records given)) = omega (arith, k.counted, length-keep-not live over (λ r. refl) (records given)) in
      ap (then slot) e
  moved_written (reserve q) h k =
      let e : s.count + 1 ≡ len (records given ++ (new_record s.now q ∷ [])) = rw (length-append, k.counted) in
      ap (then s.now) e
  moved_written (distance station d limit) h k =
      let e : s.count ≡ len (map (set_far station (far_octet (is_far d limit))) (records given)) = rw (length-map, k.counted) in
      ap (then s.now) e
  moved_written (wipe station) h k =
      let others : Rec → Bool = λ r. not (owned_by station r) in
      let e : s.count - len (keep (owned_by station) (records given)) ≡ len (keep others (records given)) = omega (arith, k.counted, length-keep-not (owned_by station) others (λ r. refl) (records given)) in
      ap (then s.now) e
  moved_written (look f) h k = absurd (true≢false h)

  -- by a call's one number, accepted or refused
  formed_made : (c : Call) → is_look c ≡ false → formed s c (call_number x c) ≡ state_of (map_leaves x c).channel
  unfolding call_number map_says
  formed_made c h = by_refusal (map_refusal x c) accepted refused
    where
      accepted : map_refusal x c ≡ 0 → formed s c (call_number x c) ≡ state_of (map_leaves x c).channel
      accepted z =
          let k = accepted_held x c z in
          let n = reported (table_of given) c in
          let g = accepted_made x c z h in
          let e : call_number x c ≡ n = ap (λ w. over_c w.refusal w.number) (sym g.0) ∙ over_c_accepted n in
          rw (e, lt-leb 2_000_000_000 n (omega (arith, reported-most given c h k)), ← g.1) (moved_written c h k)

      refused : (map_refusal x c ≡ 0 → ⊥) → formed s c (call_number x c) ≡ state_of (map_leaves x c).channel
      refused z =
          let r = map_refusal x c in
          let e : call_number x c ≡ 2_000_000_000 + r = over_c-refused r (map_says x c).number z in
          rw (e, le-leb 2_000_000_000 (2_000_000_000 + r) (omega arith)) (ap (λ (y : Mapped). state_of y.channel) (map_leaves-refused x c z))

pub state_formed : StateFormed
state_formed s b p (clock slot) = formed_made s b p (clock slot) refl
state_formed s b p (reserve q) = formed_made s b p (reserve q) refl
state_formed s b p (distance station d limit) = formed_made s b p (distance station d limit) refl
state_formed s b p (wipe station) = formed_made s b p (wipe station) refl
state_formed s b p (look f) = go (leb 2_000_000_000 (call_number (with_map s b p) (look f))) ∙ sym (ap state_of (look-leaves (with_map s b p) f))
  where
    go : (t : Bool) → cond t s s ≡ s
    go true = refl
    go false = refl

pub entry_formed : EntryFormed
unfolding entry_number map_entry_says map_entry_leaves call_number
entry_formed s b p o =
    call_in_elim Formed o (rw (over_c-refused 23 0 (omega arith)))
    (λ h. rw h (state_formed s b p (clock (log_record_of o).slot)))
    (λ h q. rw h (state_formed s b p (reserve q)))
    (λ h station d limit. rw h (state_formed s b p (distance station d limit)))
    (λ h station. rw h (state_formed s b p (wipe station)))
  where
    -- what is claimed where a call is in the octets
    Formed : Option LoggedCall → Type 0
    Formed e =
        let x = with_map s b p in
        let a = by_call e (map_says x) (record { refusal = 23; number = 0 }) in
        formed_by_entry s o (over_c a.refusal a.number) ≡ state_of (by_call e (map_leaves x) x).channel

pub state_opened : StateOpened
unfolding open_map_leaves
state_opened m1 b p =
    by_refusal (open_map_refusal m1 b p)
    (λ z. rw (z, over_c_accepted 0) (ap (λ (y : Mapped). state_of y.channel) (answer_accepted _ _ {m = 0} refl)))
    (λ z.
    rw (over_c-refused (open_map_refusal m1 b p) 0 z, le-leb 2_000_000_000 (2_000_000_000 + open_map_refusal m1 b p) (omega arith))
    (ap (λ (y : Mapped). state_of y.channel) (answer-refused _ _ {n = open_map_refusal m1 b p} refl z)))
