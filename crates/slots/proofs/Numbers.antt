-- The number of a slot's state, by one record and then others, and octets raised to it. Assumes nothing.
use Prim.Native.Nat.{ℕ, ◌≤◌, max}
use native.Mathlib.Omega.{arith}
use mathlib.Core.Path.{◌≡◌, refl}
use mathlib.Core.Bool.{Bool, true, false, cond, ◌&&◌, and-true}
use mathlib.Core.List.{List, [], ◌∷◌, ◌++◌}
use Rattle.octets.specs.Lists.{keep, every}
use Rattle.record.specs.declared.Rec.{Rec}
use Rattle.series.specs.Series.{reserves}
use Rattle.slots.specs.declared.Slot.{Slot}
use Rattle.slots.specs.declared.Slot.TheVariants.{Free, Reusable, Taken}
use Rattle.slots.specs.Slots.{record_far, holders, state_by, slot_state, state_number}
use Rattle.slots.specs.Window.{slot_state_number}
use Rattle.slots.specs.Steps.{mark_of}

-- ---- the number of a slot's state

-- a holder before others
number_cons : (r : Rec) (hs : List Rec) → state_number (state_by (r ∷ hs)) ≡ max (mark_of r.far) (state_number (state_by hs))
unfolding state_by
number_cons r [] = rw and-true (go (record_far r))
  where
    go : (b : Bool) → state_number (cond b Reusable Taken) ≡ max (cond b 1 2) 0
    go true = refl
    go false = refl
number_cons r (x ∷ hs) = go (record_far r) (every record_far (x ∷ hs))
  where
    go : (a b : Bool) → state_number (cond (a && b) Reusable Taken) ≡ max (cond a 1 2) (state_number (cond b Reusable Taken))
    go true true = refl
    go true false = refl
    go false true = refl
    go false false = refl

-- the mark that a record leaves at a slot, 0 where it does not reserve it
abbrev pub mark_at : ℕ → Rec → ℕ → ℕ
mark_at m1 r slot = cond (reserves m1 r slot) (mark_of r.far) 0

module _ (m1 slot : ℕ) where
  -- without a record every slot is free
  pub number-none : slot_state_number m1 [] slot ≡ 0
  unfolding slot_state state_by
  number-none = refl

  -- a record before others
  pub number_next : (r : Rec) (rs : List Rec) → slot_state_number m1 (r ∷ rs) slot ≡ max (mark_at m1 r slot) (slot_state_number m1 rs slot)
  unfolding slot_state
  number_next r rs = go (reserves m1 r slot)
    where
      go : (b : Bool) → state_number (state_by (cond b (r ∷ holders m1 rs slot) (holders m1 rs slot))) ≡ max (cond b (mark_of r.far) 0) (state_number (state_by (holders m1 rs slot)))
      go true = number_cons r (holders m1 rs slot)
      go false = omega arith

  -- a record before others of which those that pass a test are kept
  pub number-keep_next : (p : Rec → Bool) (r : Rec) (rs : List Rec)
      → slot_state_number m1 (keep p (r ∷ rs)) slot ≡ max (cond (p r && reserves m1 r slot) (mark_of r.far) 0) (slot_state_number m1 (keep p rs) slot)
  number-keep_next p r rs = go (p r)
    where
      go : (b : Bool) → slot_state_number m1 (cond b (r ∷ keep p rs) (keep p rs)) slot ≡ max (cond (b && reserves m1 r slot) (mark_of r.far) 0) (slot_state_number m1 (keep p rs) slot)
      go true = number_next r (keep p rs)
      go false = omega arith

  -- records before others
  pub number_append : (rs more : List Rec) → slot_state_number m1 (rs ++ more) slot ≡ max (slot_state_number m1 rs slot) (slot_state_number m1 more slot)
  number_append [] more = rw number-none (omega arith)
  number_append (r ∷ rs) more =
      let a = number_append rs more in
      let b = number_next r (rs ++ more) in
      let c = number_next r rs in
      omega arith

-- no number is above 2
pub number-≤ : (x : Slot) → state_number x ≤ 2
number-≤ Free = omega arith
number-≤ Reusable = omega arith
number-≤ Taken = omega arith

-- ---- octets raised

-- an octet that was marked by a record, and is raised to what others make of its slot
pub marked_then : (b : Bool) (x mark s : ℕ) → max (cond b (max x mark) x) s ≡ max x (max (cond b mark 0) s)
marked_then true x mark s = omega arith
marked_then false x mark s = omega arith

-- a mark lowers no octet
pub marked-≥ : (b : Bool) (x mark : ℕ) → x ≤ cond b (max x mark) x
marked-≥ true x mark = omega arith
marked-≥ false x mark = omega arith
