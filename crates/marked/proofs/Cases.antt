-- The marked cases: over octets those of a table are what they are over records, and all of them by computing. Assumes nothing.
use Prim.Native.Nat.{ℕ, ◌+◌, ◌<◌, ◌≤◌}
use mathlib.Core.Path.{◌≡◌, refl, sym, ap, ◌∙◌, fun_ext}
use mathlib.Core.Bool.{true}
use mathlib.Core.List.{List, [], ◌∷◌, map}
use lib.IntN.{pos, negsuc}
use lib.ListN.{take, drop, set}
use lib.Ieee.{of_int, neg, add, mul, le}
use borrow.Author.Tests.{leb-true, eqb-false}
use Rattle.octets.specs.Refusals.{first_of, answer}
use Rattle.octets.specs.Complement.{octet_of}
use Rattle.octets.specs.Octets.{little}
use Rattle.codec.specs.NineOctets.{field_tests, read_tests}
use Rattle.codec.specs.Parameters.{m1_row, fits}
use Rattle.record.specs.declared.Rec.{Rec}
use Rattle.record.specs.Record.{packed, three_zeros}
use Rattle.record.proofs.Packed.{packed_one}
use Rattle.series.specs.Series.{some_below, in_block, in_series, further_before, in_further, reserves, last_slot}
use Rattle.sound.specs.Sound.{Channel, records, lasts, sound}
use Rattle.table.specs.Table.{Table, Call, clock}
use Rattle.table.specs.Memory.{channel_of, leaves, says, opened}
use Rattle.slots.specs.Slots.{SlotAnswer, state_by, slot_state, slot_answer, slot_on}
use Rattle.slots.specs.Window.{slot_state_number, window_states}
use Rattle.trace.specs.Machine.{runs}
use Rattle.trace.specs.Records.{Sound, left_on, said_on, on_records}
use Rattle.trace.proofs.Machine.{runs-good, runs_refined}
use Rattle.trace.proofs.Written.{records-channel_of, sound-channel_of, leaves-records, refined, empty, room_for_one-sound, room_for_one-runs}
use Rattle.slotmap.specs.Map.{with_fresh}
use Rattle.slotmap.proofs.Demand3.{on_a_fresh_map}
use Rattle.search.specs.declared.Query.{Query}
use Rattle.search.specs.Search.{level0, level1, qualifying, listed, states_of, search_tests, search_refusal, found}
use Rattle.distance.specs.declared.Distance.TheVariants.{Unknown, Range}
use Rattle.distance.specs.Distances.{num}
use Rattle.marked.specs.Marked.{calls_t, after_calls, map_after_calls, shortly, blocks, around, Marked}
use Rattle.marked.proofs.Searches.{slot_answer-channel_of, search_refusal-channel_of, found-channel_of, fresh_map_part, search_refusal-wrong}

-- ---- a table with room for one record, over records

module _ (m1 : ℕ) (h : fits m1_row m1 ≡ true) (cs : List Call) where
  -- the table after calls
  abbrev held : Table
  held = runs on_records (empty m1 1) cs

  sound-held : Sound held
  sound-held = runs-good refined (empty m1 1) cs (room_for_one-sound m1 h)

  -- the octets are its
  written : after_calls m1 cs ≡ channel_of held
  written = room_for_one-runs m1 h cs

  -- ---- what is asked of it

  stored : records (after_calls m1 cs) ≡ held.records
  stored = rw written (records-channel_of held sound-held)

  octets : (after_calls m1 cs).memory ≡ (channel_of held).memory
  octets = ap (λ (m : Channel). m.memory) written

  judged : (slot : ℕ) → slot_answer (after_calls m1 cs) slot ≡ slot_on held slot
  judged slot = rw written (slot_answer-channel_of held slot sound-held)

  all_judged : (slots : List ℕ) → map (slot_answer (after_calls m1 cs)) slots ≡ map (slot_on held) slots
  all_judged slots = ap (λ (f : ℕ → SlotAnswer). map f slots) (fun_ext judged)

  told : (c : Call) → says (after_calls m1 cs) c ≡ said_on held c
  told c = rw written (refined.says held c sound-held)

  timed : (slot : ℕ) → (leaves (after_calls m1 cs) (clock slot)).now ≡ (left_on held (clock slot)).now
  unfolding channel_of
  timed slot = rw written (ap (λ (m : Channel). m.now) (refined.leaves held (clock slot) sound-held))

  swept : (slot : ℕ) → records (leaves (after_calls m1 cs) (clock slot)) ≡ (left_on held (clock slot)).records
  swept slot = rw written (leaves-records held sound-held (clock slot))

  -- ---- and with the map

  -- it is the fresh one
  with_map : map_after_calls m1 cs ≡ with_fresh (channel_of held)
  with_map =
      let first : sound (opened m1 (packed 1 [])) ≡ true = rw (room_for_one-runs m1 h []) (sound-channel_of (empty m1 1) (room_for_one-sound m1 h)) in
      runs_refined on_a_fresh_map (opened m1 (packed 1 [])) cs first ∙ ap with_fresh written

  -- what a search finds goes by the records
  searched : (q : Query) → found (map_after_calls m1 cs) q 3 ≡ answer (first_of (search_tests held q 3)) (listed (states_of held) q) (λ _. [])
  searched q = rw with_map (found-channel_of held sound-held q 3)

  -- and so does its refusal
  refused : (q : Query) → search_refusal (map_after_calls m1 cs) q 3 ≡ first_of (search_tests held q 3)
  refused q = rw with_map (search_refusal-channel_of held sound-held q 3)

  -- and so do the map's octets
  drawn : (d n : ℕ) → d + n ≤ held.m1 → take n (drop d (map_after_calls m1 cs).map) ≡ window_states held.m1 held.records (held.now + d) n
  drawn d n l = rw with_map (fresh_map_part held sound-held d n l)

  -- with another octet at a place a search is refused 25
  wrong : (i x : ℕ) → i < held.m1 → (x ≡ slot_state_number held.m1 held.records (held.now + i) → ⊥) → (q : Query)
      → search_refusal (record { channel = (map_after_calls m1 cs).channel; map = set (map_after_calls m1 cs).map i x }) q 3 ≡ 25
  wrong i x l other q = rw with_map (search_refusal-wrong held sound-held i x l other q 3)

-- the calls that bring T near, far, and near with bo 10
abbrev near : List Call
near = calls_t (pos 0) Unknown

abbrev far : List Call
far = calls_t (pos 0) (Range (num 150))

abbrev moved : List Call
moved = calls_t (pos 10) Unknown

-- T with bo 10
abbrev moved_t : Rec
moved_t = record { station = 1; first = 105; rate = 3; superframes = 2; length = 5; far = 0; bo = 10; zeros = three_zeros }

-- the figures of M1 fit
fit4500 : fits m1_row 4500 ≡ true
unfolding fits
fit4500 = refl

fit60 : fits m1_row 60 ≡ true
unfolding fits
fit60 = refl

-- ---- the cases

pub marked : Marked
unfolding answer read_tests field_tests octet_of of_int neg add mul le left_on said_on lasts last_slot slot_state state_by reserves in_series in_further further_before some_below in_block level0 level1 qualifying listed channel_of little
marked =
    record {
      p1 = refl;
      p2 = refl;
      p2_address = refl;
      p3 = refl;
      p4 = refl;
      p5 = ap (map (last_slot 4500)) (stored 4500 fit4500 near);
      p6_104 = judged 4500 fit4500 near 104;
      p6_110 = judged 4500 fit4500 near 110;
      p6_105 = judged 4500 fit4500 near 105;
      p6_109 = judged 4500 fit4500 near 109;
      p7_kept = (told 4500 fit4500 near (clock 7609), timed 4500 fit4500 near 7609, swept 4500 fit4500 near 7609 ∙ sym (stored 4500 fit4500 near));
      p7_gone = (told 4500 fit4500 near (clock 7610), timed 4500 fit4500 near 7610, swept 4500 fit4500 near 7610);
      p8 = searched 4500 fit4500 near (blocks 105 111);
      p9 = searched 4500 fit4500 far (blocks 105 111);
      p10 = refused 4500 fit4500 near (blocks 105 105);
      p11_far = refl;
      p11_not_far = refl;
      offset_blocks = (
        all_judged 4500 fit4500 moved (around 105),
        all_judged 4500 fit4500 moved (around 1605),
        all_judged 4500 fit4500 moved (around 3105),
        all_judged 4500 fit4500 moved (around 4605),
        all_judged 4500 fit4500 moved (around 6105),
        all_judged 4500 fit4500 moved (around 7605),
        all_judged 4500 fit4500 moved (around 9115),
        all_judged 4500 fit4500 moved (around 10615),
        all_judged 4500 fit4500 moved (around 12115),
      );
      offset_last = ap (map (last_slot 4500)) (stored 4500 fit4500 moved);
      offset_octets = octets 4500 fit4500 moved ∙ packed_one moved_t;
      offset_kept = (told 4500 fit4500 moved (clock 12119), timed 4500 fit4500 moved 12119, swept 4500 fit4500 moved 12119 ∙ sym (stored 4500 fit4500 moved));
      offset_gone = (told 4500 fit4500 moved (clock 12120), timed 4500 fit4500 moved 12120, swept 4500 fit4500 moved 12120);
      early_accepted = told 60 fit60 [] (shortly (negsuc 61));
      early_refused = told 60 fit60 [] (shortly (negsuc 62));
      ends_before = ap (map (last_slot 60)) (stored 60 fit60 (shortly (negsuc 61) ∷ []));
      begins_before = judged 60 fit60 (shortly (negsuc 61) ∷ []) 0;
      map_near = drawn 4500 fit4500 near 4 7 (leb-true 11 4500 refl);
      map_far = drawn 4500 fit4500 far 4 7 (leb-true 11 4500 refl);
      map_wrong = wrong 4500 fit4500 near 5 1 (leb-true 6 4500 refl) (eqb-false 1 2 refl) (blocks 105 111);
    }
