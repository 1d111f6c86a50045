-- A slot's state worked out record after record. Assumes nothing.
use Prim.Native.Nat.{ℕ}
use mathlib.Core.Path.{◌≡◌, refl}
use mathlib.Core.Bool.{Bool, true, false, cond, not, ◌&&◌, ◌||◌, true≢false, false≢true}
use mathlib.Core.List.{List, [], ◌∷◌}
use Rattle.octets.specs.Lists.{every}
use Rattle.record.specs.declared.Rec.{Rec}
use Rattle.series.specs.Series.{reserves}
use Rattle.slots.specs.declared.Slot.{Slot}
use Rattle.slots.specs.declared.Slot.TheVariants.{Free, Reusable, Taken}
use Rattle.slots.specs.Slots.{record_far, state_by, holders}
use Rattle.slots.specs.Steps.{holds_more}

-- the state where `any` says that far records reserve the slot already, and hs are the holders still to come
unfoldable pub judged : Bool → List Rec → Slot
judged false hs = state_by hs
judged true hs = cond (every record_far hs) Reusable Taken

-- before the first record
pub judged-start : (hs : List Rec) → state_by hs ≡ judged false hs
unfolding judged
judged-start hs = refl

-- after the last
pub judged_end : (any : Bool) → judged any [] ≡ cond any Reusable Free
unfolding judged state_by
judged_end true = refl
judged_end false = refl

module _ (m1 slot : ℕ) (any : Bool) (r : Rec) (rs : List Rec) where
  -- a near holder settles it
  pub judged-near : (holds_more m1 slot any r && not (record_far r)) ≡ true → judged any (holders m1 (r ∷ rs) slot) ≡ Taken
  unfolding judged state_by holds_more
  judged-near h = go any (reserves m1 r slot) (record_far r) refl h
    where
      go : (any a b : Bool) → record_far r ≡ b → ((not (any && b) && a) && not b) ≡ true → judged any (cond a (r ∷ holders m1 rs slot) (holders m1 rs slot)) ≡ Taken
      go true true false e h = rw e
      go false true false e h = rw e
      go true true true e h = absurd (false≢true h)
      go false true true e h = absurd (false≢true h)
      go true false true e h = absurd (false≢true h)
      go true false false e h = absurd (false≢true h)
      go false false b e h = absurd (false≢true h)

  -- any other record is a far holder or none
  pub judged_next : (holds_more m1 slot any r && not (record_far r)) ≡ false → judged any (holders m1 (r ∷ rs) slot) ≡ judged (any || holds_more m1 slot any r) (holders m1 rs slot)
  unfolding judged state_by holds_more
  judged_next h = go any (reserves m1 r slot) (record_far r) refl h
    where
      go : (any a b : Bool) → record_far r ≡ b → ((not (any && b) && a) && not b) ≡ false
          → judged any (cond a (r ∷ holders m1 rs slot) (holders m1 rs slot)) ≡ judged (any || (not (any && b) && a)) (holders m1 rs slot)
      go true true true e h = rw e
      go false true true e h = rw e
      go true true false e h = absurd (true≢false h)
      go false true false e h = absurd (true≢false h)
      go true false b e h = refl
      go false false b e h = refl
