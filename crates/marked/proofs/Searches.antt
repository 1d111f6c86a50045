-- A slot state or a search of a written table goes by its records, and so does the fresh map. Assumes nothing.
use Prim.Native.Nat.{ℕ, ◌+◌, ◌<◌, ◌≤◌}
use native.Mathlib.Omega.{arith}
use mathlib.Core.Path.{◌≡◌, sym, ap, ◌∙◌}
use mathlib.Core.Bool.{false}
use mathlib.Core.List.{List, []}
use lib.ListN.{take, drop, get_or, set}
use lib.Seq.{get_or-set_same}
use Rattle.octets.specs.Refusals.{first_of, answer}
use Rattle.octets.proofs.Refusals.{by_test}
use Rattle.table.specs.Table.{Table}
use Rattle.table.specs.Memory.{channel_of}
use Rattle.slots.specs.Slots.{slot_answer, slot_on}
use Rattle.slots.specs.Window.{slot_state_number, window_states}
use Rattle.slots.proofs.Looks.{slot_sound}
use Rattle.slots.proofs.Parts.{window_states-drop}
use Rattle.trace.specs.Records.{Sound}
use Rattle.trace.proofs.Written.{table_of-channel_of, records-channel_of, sound-channel_of}
use Rattle.slotmap.specs.Map.{Mapped, fresh_map, is_fresh, with_fresh}
use Rattle.slotmap.proofs.Fresh.{fresh_size, fresh_slots, is_fresh-true, is_fresh-with_fresh}
use Rattle.search.specs.declared.Query.{Query}
use Rattle.search.specs.Search.{listed, states_of, search_tests, search_refusal, found}

-- a slot's state
pub slot_answer-channel_of : (t : Table) (slot : ℕ) → Sound t → slot_answer (channel_of t) slot ≡ slot_on t slot
slot_answer-channel_of t slot k = slot_sound (channel_of t) slot (sound-channel_of t k) ∙ ap (λ u. slot_on u slot) (table_of-channel_of t k)

module _ (t : Table) (k : Sound t) where
  module _ (q : Query) (places : ℕ) where
    -- a search's refusal, with the fresh map
    pub search_refusal-channel_of : search_refusal (with_fresh (channel_of t)) q places ≡ first_of (search_tests t q places)
    unfolding search_refusal
    search_refusal-channel_of = rw (sound-channel_of t k, is_fresh-with_fresh (channel_of t), table_of-channel_of t k)

    -- and what it finds
    pub found-channel_of : found (with_fresh (channel_of t)) q places ≡ answer (first_of (search_tests t q places)) (listed (states_of t) q) (λ _. [])
    unfolding found
    found-channel_of = rw (search_refusal-channel_of, table_of-channel_of t k)

  -- the fresh map's octets from a place on
  pub fresh_map_part : (d n : ℕ) → d + n ≤ t.m1 → take n (drop d (fresh_map (channel_of t))) ≡ window_states t.m1 t.records (t.now + d) n
  unfolding fresh_map channel_of
  fresh_map_part d n h = window_states-drop t.m1 _ t.now t.m1 d n h ∙ rw (records-channel_of t k)

  module _ (i x : ℕ) (inside : i < t.m1) (other : x ≡ slot_state_number t.m1 t.records (t.now + i) → ⊥) where
    -- the table with one octet of that map changed
    abbrev wrong : Mapped
    wrong = record { channel = channel_of t; map = set (fresh_map (channel_of t)) i x }

    -- no other map is right
    wrong_stale : is_fresh wrong ≡ false
    unfolding channel_of
    wrong_stale =
        by_test (is_fresh wrong)
        (λ f.
        absurd
        (other
        (sym (get_or-set_same (fresh_map (channel_of t)) i x 0 (omega (arith, fresh_size (channel_of t))))
        ∙ ap (λ (xs : List ℕ). get_or xs i 0) (is_fresh-true wrong f)
        ∙ fresh_slots (channel_of t) i inside
        ∙ rw (records-channel_of t k))))
        (λ f. f)

    -- so a search is refused 25
    pub search_refusal-wrong : (q : Query) (places : ℕ) → search_refusal wrong q places ≡ 25
    unfolding search_refusal
    search_refusal-wrong q places = rw (sound-channel_of t k, wrong_stale)
