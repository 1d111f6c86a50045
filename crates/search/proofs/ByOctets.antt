-- The answer by the octets of a window is the answer by the states whose numbers they are. Assumes nothing.
use Prim.Native.Nat.{ℕ, zero, suc, ◌+◌, ◌-◌, ◌<◌, ◌≤◌}
use native.Mathlib.Omega.{arith}
use mathlib.Core.Path.{◌≡◌, refl, ap, ◌∙◌}
use mathlib.Core.List.{List, ◌∷◌, ◌++◌, append_assoc, map}
use lib.ListN.{get_or, take, replicate}
use Rattle.octets.specs.Lists.{from}
use Rattle.octets.specs.Octets.{holds_only}
use Rattle.slots.specs.declared.Slot.{Slot}
use Rattle.slots.specs.declared.Slot.TheVariants.{Free, Reusable, Taken}
use Rattle.slots.specs.Slots.{state_number}
use Rattle.search.specs.declared.Query.{Query}
use Rattle.search.specs.Search.{listed, slot_of, states_in}
use Rattle.search.proofs.Window.{window_alone}

-- the number of a state says the state
pub slot_of-number : (x : Slot) → slot_of (state_number x) ≡ x
unfolding slot_of
slot_of-number Free = refl
slot_of-number Reusable = refl
slot_of-number Taken = refl

-- what stands at a place of a row
row_at : (f : ℕ → ℕ) (s n : ℕ) (rest : List ℕ) (i : ℕ) → i < n → get_or (map f (from s n) ++ rest) i 0 ≡ f (s + i)
row_at f s zero rest i h = absurd (omega arith)
row_at f s (suc n) rest zero h = ap f (omega arith)
row_at f s (suc n) rest (suc i) h = row_at f (s + 1) n rest i (omega arith) ∙ ap f (omega arith)

-- some of a run of zeros
pub take-replicate : (n m : ℕ) → n ≤ m → take {A = ℕ} n (replicate m 0) ≡ replicate n 0
take-replicate zero m h = refl
take-replicate (suc n) zero h = absurd (omega arith)
take-replicate (suc n) (suc m) h = ap (λ (xs : List ℕ). 0 ∷ xs) (take-replicate n m (omega arith))

module _ (states : ℕ → Slot) (q : Query) (n places : ℕ) (rest : List ℕ) (e : n ≡ q.hi - q.lo + q.length) where
  -- the numbers of the states of the query's n slots, zeros behind them, and whatever comes then
  abbrev octets : List ℕ
  octets = holds_only places (map (λ slot. state_number (states slot)) (from q.lo n)) ++ rest

  -- they say each slot's state
  in_window : (slot : ℕ) → q.lo ≤ slot → slot < q.hi + q.length → states_in octets q.lo slot ≡ states slot
  in_window slot l k =
      let s : q.lo + (slot - q.lo) ≡ slot = omega arith in
      ap slot_of (rw append_assoc (row_at (λ t. state_number (states t)) q.lo n _ (slot - q.lo) (omega arith)) ∙ ap (λ (t : ℕ). state_number (states t)) s)
      ∙ slot_of-number (states slot)

  -- so the same starts are listed
  pub listed_window : listed (states_in octets q.lo) q ≡ listed states q
  listed_window = (window_alone (states_in octets q.lo) states q in_window).0
