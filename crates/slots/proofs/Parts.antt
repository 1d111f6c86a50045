-- Windows raised by a part of the records after another part. Assumes nothing.
use Prim.Native.Nat.{ℕ, suc, ◌+◌, ◌-◌, ◌<◌, ◌≤◌, max}
use native.Mathlib.Omega.{arith}
use mathlib.Core.Path.{◌≡◌, refl, sym, ap, ◌∙◌}
use mathlib.Core.Bool.{Bool, true, false, cond, not, ◌||◌, and-eq-true_iff, false≢true}
use mathlib.Core.List.{List, [], ◌∷◌, ◌++◌}
use lib.ListN.{length, take, drop, replicate, length-drop}
use lib.Seq.{ext_get_or, get_or-take, get_or-drop, take_at, length-take-le}
use Rattle.octets.specs.Lists.{keep, every}
use Rattle.octets.specs.Octets.{zero_from, holds_only}
use Rattle.octets.proofs.Zeros.{length-holds_only}
use Rattle.record.specs.declared.Rec.{Rec}
use Rattle.series.specs.Series.{reserves}
use Rattle.slots.specs.Window.{slot_state_number, window_states, raised}
use Rattle.slots.proofs.Numbers.{mark_at, number-none, number_next, number_append}
use Rattle.slots.proofs.Window.{length-window_states, get_or-window_states, length-raised, raised-zeros}

-- ---- one slot

module _ (m1 slot : ℕ) where
  -- the number by the records that pass a test and by those that do not: the higher is the number by all
  pub slot_state_number_parts : (p : Rec → Bool) (rs : List Rec)
      → max (slot_state_number m1 (keep (λ r. not (p r)) rs) slot) (slot_state_number m1 (keep p rs) slot) ≡ slot_state_number m1 rs slot
  slot_state_number_parts p [] = rw (number-none m1 slot) (omega arith)
  slot_state_number_parts p (r ∷ rs) = rw (number_next m1 slot r rs) (go (p r) (slot_state_number_parts p rs))
    where
      go : (b : Bool) → max (slot_state_number m1 (keep (λ x. not (p x)) rs) slot) (slot_state_number m1 (keep p rs) slot) ≡ slot_state_number m1 rs slot
          → max (slot_state_number m1 (cond (not b) (r ∷ keep (λ x. not (p x)) rs) (keep (λ x. not (p x)) rs)) slot) (slot_state_number m1 (cond b (r ∷ keep p rs) (keep p rs)) slot)
          ≡ max (mark_at m1 r slot) (slot_state_number m1 rs slot)
      go true i = rw (number_next m1 slot r (keep p rs)) (omega arith)
      go false i = rw (number_next m1 slot r (keep (λ x. not (p x)) rs)) (omega arith)

  -- of the records in hand, those that fail the test do not reserve the slot: they don't count
  pub slot_state_number-keep-every : (p : Rec → Bool) (rs : List Rec) → every (λ r. p r || not (reserves m1 r slot)) rs ≡ true
      → slot_state_number m1 (keep p rs) slot ≡ slot_state_number m1 rs slot
  slot_state_number-keep-every p [] h = refl
  slot_state_number-keep-every p (r ∷ rs) h =
      let t = (and-eq-true_iff (p r || not (reserves m1 r slot)) (every (λ x. p x || not (reserves m1 x slot)) rs)).0 h in
      rw (number_next m1 slot r rs) (go (p r) (reserves m1 r slot) refl t.0 (slot_state_number-keep-every p rs t.1))
    where
      go : (b c : Bool) → reserves m1 r slot ≡ c → (b || not c) ≡ true → slot_state_number m1 (keep p rs) slot ≡ slot_state_number m1 rs slot
          → slot_state_number m1 (cond b (r ∷ keep p rs) (keep p rs)) slot ≡ max (mark_at m1 r slot) (slot_state_number m1 rs slot)
      go true c e k i = number_next m1 slot r (keep p rs) ∙ rw i
      go false true e k i = absurd (false≢true k)
      go false false e k i = rw (e, i) (omega arith)

  -- records that do not reserve the slot don't count
  pub slot_state_number-keep : (p : Rec → Bool) (rs : List Rec) → ((r : Rec) → p r ≡ false → reserves m1 r slot ≡ false)
      → slot_state_number m1 (keep p rs) slot ≡ slot_state_number m1 rs slot
  slot_state_number-keep p rs h = slot_state_number-keep-every p rs (all rs)
    where
      one : (r : Rec) (b : Bool) → p r ≡ b → (b || not (reserves m1 r slot)) ≡ true
      one r true e = refl
      one r false e = rw (h r e)

      all : (xs : List Rec) → every (λ r. p r || not (reserves m1 r slot)) xs ≡ true
      all [] = refl
      all (x ∷ xs) = rw (one x (p x) refl, all xs)

-- ---- a window

module _ (m1 : ℕ) where
  -- raised by records, and then by more: raised by both
  pub raised_append : (rs more : List Rec) (lo : ℕ) (xs : List ℕ) → raised m1 more lo (raised m1 rs lo xs) ≡ raised m1 (rs ++ more) lo xs
  unfolding raised
  raised_append rs more lo [] = refl
  raised_append rs more lo (x ∷ xs) =
      let e : max (max x (slot_state_number m1 rs lo)) (slot_state_number m1 more lo) ≡ max x (slot_state_number m1 (rs ++ more) lo) = rw (number_append m1 lo rs more) (omega arith) in
      let i = raised_append rs more (lo + 1) xs in
      λ j. e j ∷ i j

  -- a window's states raised by more records are those by both
  pub window_states_append : (rs more : List Rec) (lo n : ℕ) → raised m1 more lo (window_states m1 rs lo n) ≡ window_states m1 (rs ++ more) lo n
  window_states_append rs more lo n = rw (← raised-zeros m1 rs lo n, raised_append rs more lo (replicate n 0)) (raised-zeros m1 (rs ++ more) lo n)

  -- where the records of two tables make the same of each slot, the states are the same
  pub window_states_agree : (rs rs' : List Rec) (lo n : ℕ) → ((i : ℕ) → i < n → slot_state_number m1 rs (lo + i) ≡ slot_state_number m1 rs' (lo + i))
      → window_states m1 rs lo n ≡ window_states m1 rs' lo n
  window_states_agree rs rs' lo n h =
      ext_get_or 0 (window_states m1 rs lo n) (window_states m1 rs' lo n) (length-window_states m1 rs lo n ∙ sym (length-window_states m1 rs' lo n)) (λ i l.
      let k : i < n = rw (length-window_states m1 rs lo n) at l in
      get_or-window_states m1 rs lo n i k ∙ h i k ∙ sym (get_or-window_states m1 rs' lo n i k))

  -- the states by the records that fail a test, raised by those that pass, are those by all
  pub window_states_parts : (p : Rec → Bool) (rs : List Rec) (lo n : ℕ)
      → raised m1 (keep p rs) lo (window_states m1 (keep (λ r. not (p r)) rs) lo n) ≡ window_states m1 rs lo n
  window_states_parts p rs lo n =
      window_states_append (keep (λ r. not (p r)) rs) (keep p rs) lo n
      ∙ window_states_agree (keep (λ r. not (p r)) rs ++ keep p rs) rs lo n (λ i l. number_append m1 (lo + i) (keep (λ r. not (p r)) rs) (keep p rs) ∙ slot_state_number_parts m1 (lo + i) p rs)

  -- some slots of a window are a window of their own
  pub window_states-drop : (rs : List Rec) (lo n d k : ℕ) → d + k ≤ n → take k (drop d (window_states m1 rs lo n)) ≡ window_states m1 rs (lo + d) k
  window_states-drop rs lo n d k h =
      let all = window_states m1 rs lo n in
      let e : length (take k (drop d all)) ≡ k = length-take-le k (drop d all) (rw (length-drop, length-window_states m1 rs lo n) (omega arith)) in
      ext_get_or 0 (take k (drop d all)) (window_states m1 rs (lo + d) k) (e ∙ sym (length-window_states m1 rs (lo + d) k)) (λ i l.
      let f : i < k = rw e at l in
      let a : lo + (d + i) ≡ lo + d + i = omega arith in
      get_or-take k (drop d all) i 0 f ∙ get_or-drop d all i 0 ∙ get_or-window_states m1 rs lo n (d + i) (omega arith) ∙ ap (slot_state_number m1 rs) a ∙ sym (get_or-window_states m1 rs (lo + d) k i f))

  -- ---- with room behind it

  -- octets before others, raised
  pub raised_both : (rs : List Rec) (lo : ℕ) (xs ys : List ℕ) → raised m1 rs lo (xs ++ ys) ≡ raised m1 rs lo xs ++ raised m1 rs (lo + length xs) ys
  unfolding raised
  raised_both rs lo [] ys = let e : lo + 0 ≡ lo = omega arith in rw e
  raised_both rs lo (x ∷ xs) ys =
      let e : lo + 1 + length xs ≡ lo + suc (length xs) = omega arith in
      ap (λ (zs : List ℕ). max x (slot_state_number m1 rs lo) ∷ zs) (raised_both rs (lo + 1) xs ys ∙ ap (λ (k : ℕ). raised m1 rs (lo + 1) xs ++ raised m1 rs k ys) e)

  -- octets with room behind them, raised, and the room made 0
  room_raised : (rs : List Rec) (lo n k : ℕ) (xs : List ℕ) → length xs ≡ k → k ≤ n → zero_from k (raised m1 rs lo (holds_only n xs)) ≡ holds_only n (raised m1 rs lo xs)
  room_raised rs lo n k xs e h =
      let room = replicate {A = ℕ} (n - length xs) 0 in
      let l : length (raised m1 rs lo xs) ≡ k = length-raised m1 rs lo xs ∙ e in
      let all : length (raised m1 rs lo (holds_only n xs)) ≡ n = length-raised m1 rs lo (holds_only n xs) ∙ length-holds_only n xs (omega arith) in
      let front : take k (raised m1 rs lo (holds_only n xs)) ≡ raised m1 rs lo xs =
      ap (take k) (raised_both rs lo xs room) ∙ take_at (raised m1 rs lo xs) (raised m1 rs (lo + length xs) room) k l in
      rw (front, all, l)

  -- a window with room that holds the states by the records that fail a test, raised by those that pass, and its room made 0: it holds the states by
  -- all
  pub window_parts : (p : Rec → Bool) (rs : List Rec) (lo n : ℕ) (xs : List ℕ) → xs ≡ holds_only n (window_states m1 (keep (λ r. not (p r)) rs) lo (n - 32))
      → zero_from (n - 32) (raised m1 (keep p rs) lo xs) ≡ holds_only n (window_states m1 rs lo (n - 32))
  window_parts p rs lo n xs e =
      ap (λ (ys : List ℕ). zero_from (n - 32) (raised m1 (keep p rs) lo ys)) e
      ∙ room_raised (keep p rs) lo n (n - 32) (window_states m1 (keep (λ r. not (p r)) rs) lo (n - 32)) (length-window_states m1 (keep (λ r. not (p r)) rs) lo (n - 32)) (omega arith)
      ∙ ap (holds_only n) (window_states_parts p rs lo (n - 32))
