-- The answer by a right map is the answer by the table, where the blocks lie wholly in the map's slots. Assumes nothing.
use Prim.Native.Nat.{ℕ, ◌+◌, ◌-◌, ◌<◌, ◌≤◌}
use native.Mathlib.Omega.{arith}
use mathlib.Core.Path.{◌≡◌, ap, ◌∙◌}
use mathlib.Core.Bool.{true}
use lib.ListN.{get_or, drop}
use lib.Seq.{get_or-drop}
use borrow.Author.Tests.{leb-true}
use Rattle.sound.specs.Sound.{records}
use Rattle.table.specs.Memory.{table_of}
use Rattle.slots.specs.Slots.{slot_state, state_number}
use Rattle.slotmap.specs.Map.{Mapped, is_fresh}
use Rattle.slotmap.proofs.Fresh.{is_fresh-true, fresh_slots}
use Rattle.search.specs.declared.Query.{Query}
use Rattle.search.specs.Search.{slot_of, states_in, map_states, states_of, listed}
use Rattle.search.specs.Claims.{ListedInMap}
use Rattle.search.proofs.Window.{window_alone}
use Rattle.search.proofs.ByOctets.{slot_of-number}

module _ (x : Mapped) (fresh : is_fresh x ≡ true) where
  -- a right map says the state of each of its slots
  in_map_lem : (slot : ℕ) → x.channel.now ≤ slot → slot < x.channel.now + x.channel.m1 → map_states x slot ≡ states_of (table_of x.channel) slot
  unfolding table_of
  in_map_lem slot l k =
      let m = x.channel in
      let i = slot - m.now in
      let s : m.now + i ≡ slot = omega arith in
      ap slot_of (rw (is_fresh-true x fresh) (fresh_slots m i (omega arith)) ∙ ap (λ (t : ℕ). state_number (slot_state m.m1 (records m) t)) s)
      ∙ slot_of-number (slot_state m.m1 (records m) slot)

  module _ (q : Query) (late : x.channel.now ≤ q.lo) where
    -- the map from lo's octet on says the same
    from_lo : (slot : ℕ) → q.lo ≤ slot → slot < q.hi + q.length → states_in (drop (q.lo - x.channel.now) x.map) q.lo slot ≡ map_states x slot
    from_lo slot l k =
        let at : q.lo - x.channel.now + (slot - q.lo) ≡ slot - x.channel.now = omega arith in
        ap slot_of (get_or-drop (q.lo - x.channel.now) x.map (slot - q.lo) 0 ∙ ap (λ (i : ℕ). get_or x.map i 0) at)

    -- so the same starts are listed, by the map and by the table
    listed-map : q.hi + q.length ≤ x.channel.now + x.channel.m1 → listed (map_states x) q ≡ listed (states_of (table_of x.channel)) q
    listed-map inside = (window_alone (map_states x) (states_of (table_of x.channel)) q (λ slot l k. in_map_lem slot (omega arith) (omega arith))).0

    -- and by the octets from lo's on
    pub listed-from_lo : q.hi + q.length ≤ x.channel.now + x.channel.m1
        → listed (states_in (drop (q.lo - x.channel.now) x.map) q.lo) q ≡ listed (states_of (table_of x.channel)) q
    listed-from_lo inside = (window_alone (states_in (drop (q.lo - x.channel.now) x.map) q.lo) (map_states x) q from_lo).0 ∙ listed-map inside

pub listed_in_map : ListedInMap
listed_in_map x q fresh late inside = listed-map x fresh q late (leb-true (q.hi + q.length) (x.channel.now + x.channel.m1) inside)
