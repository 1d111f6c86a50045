-- A window's octets as lists: raised, and with the room behind them made 0. Assumes nothing.
use Prim.Native.Nat.{ℕ, zero, suc, ◌+◌, ◌-◌, ◌<◌, ◌≤◌, min, max}
use native.Mathlib.Omega.{arith}
use mathlib.Core.Path.{◌≡◌, refl, sym, ap, ◌∙◌}
use mathlib.Core.List.{List, [], ◌∷◌}
use lib.ListN.{length, get_or, take, replicate, length-take}
use lib.Seq.{ext_get_or, get_or-take}
use Rattle.octets.specs.Octets.{zero_from, holds_only}
use Rattle.record.specs.declared.Rec.{Rec}
use Rattle.slots.specs.Window.{slot_state_number, window_states, raised}

-- ---- the slot states of a window

-- so many as there are slots
pub length-window_states : (m1 : ℕ) (rs : List Rec) (first n : ℕ) → length (window_states m1 rs first n) ≡ n
length-window_states m1 rs first zero = refl
length-window_states m1 rs first (suc n) = ap suc (length-window_states m1 rs (first + 1) n)

-- each is its slot's
pub get_or-window_states : (m1 : ℕ) (rs : List Rec) (first n i : ℕ) → i < n → get_or (window_states m1 rs first n) i 0 ≡ slot_state_number m1 rs (first + i)
get_or-window_states m1 rs first zero i h = absurd (omega arith)
get_or-window_states m1 rs first (suc n) zero h = let e : first + 0 ≡ first = omega arith in rw e
get_or-window_states m1 rs first (suc n) (suc i) h =
    let e : first + 1 + i ≡ first + suc i = omega arith in
    get_or-window_states m1 rs (first + 1) n i (omega arith) ∙ ap (slot_state_number m1 rs) e

-- ---- raised

module _ (m1 : ℕ) (rs : List Rec) where
  -- as many as they were
  pub length-raised : (lo : ℕ) (xs : List ℕ) → length (raised m1 rs lo xs) ≡ length xs
  unfolding raised
  length-raised lo [] = refl
  length-raised lo (x ∷ xs) = ap suc (length-raised (lo + 1) xs)

  -- each to its slot's number
  get_or-raised : (lo : ℕ) (xs : List ℕ) (i : ℕ) → i < length xs → get_or (raised m1 rs lo xs) i 0 ≡ max (get_or xs i 0) (slot_state_number m1 rs (lo + i))
  unfolding raised
  get_or-raised lo [] i h = absurd (omega arith)
  get_or-raised lo (x ∷ xs) zero h = let e : lo + 0 ≡ lo = omega arith in rw e
  get_or-raised lo (x ∷ xs) (suc i) h =
      let e : lo + 1 + i ≡ lo + suc i = omega arith in
      get_or-raised (lo + 1) xs i (omega arith) ∙ ap (λ (slot : ℕ). max (get_or xs i 0) (slot_state_number m1 rs slot)) e

  -- octets of which the first n are raised, and the rest made 0
  pub raised_room : (lo n : ℕ) (xs out : List ℕ) → length out ≡ length xs
      → ((i : ℕ) → i < n → i < length xs → get_or out i 0 ≡ max (get_or xs i 0) (slot_state_number m1 rs (lo + i))) → zero_from n out ≡ zero_from n (raised m1 rs lo xs)
  raised_room lo n xs out e h =
      let d : length out ≡ length (raised m1 rs lo xs) = e ∙ sym (length-raised lo xs) in
      let t : take n out ≡ take n (raised m1 rs lo xs) =
      ext_get_or 0 (take n out) (take n (raised m1 rs lo xs)) (rw (length-take n out, length-take n (raised m1 rs lo xs), d)) (λ i l.
      let k : i < min n (length out) = rw length-take at l in
      get_or-take n out i 0 (omega arith) ∙ h i (omega arith) (omega arith) ∙ sym (get_or-take n (raised m1 rs lo xs) i 0 (omega arith) ∙ get_or-raised lo xs i (omega arith))) in
      rw (t, d)

  -- zeros raised are the states
  pub raised-zeros : (lo n : ℕ) → raised m1 rs lo (replicate n 0) ≡ window_states m1 rs lo n
  unfolding raised
  raised-zeros lo zero = refl
  raised-zeros lo (suc n) =
      let e : max 0 (slot_state_number m1 rs lo) ≡ slot_state_number m1 rs lo = omega arith in
      let i = raised-zeros (lo + 1) n in
      λ j. e j ∷ i j

  -- the first of so many slots are a window's of fewer
  pub take-window_states : (lo n k : ℕ) → k ≤ n → take k (window_states m1 rs lo n) ≡ window_states m1 rs lo k
  take-window_states lo n zero h = refl
  take-window_states lo zero (suc k) h = absurd (omega arith)
  take-window_states lo (suc n) (suc k) h = ap (λ (xs : List ℕ). slot_state_number m1 rs lo ∷ xs) (take-window_states (lo + 1) n k (omega arith))

  -- octets that were 0, raised, and the room behind them made 0: the states of a window
  pub window_room : (lo n : ℕ) → zero_from (n - 32) (raised m1 rs lo (replicate n 0)) ≡ holds_only n (window_states m1 rs lo (n - 32))
  window_room lo n =
      rw (raised-zeros lo n, take-window_states lo n (n - 32) (omega arith), length-window_states m1 rs lo n, length-window_states m1 rs lo (n - 32))
