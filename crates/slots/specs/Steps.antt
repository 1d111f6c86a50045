-- What the private functions ask and promise: the code's own steps. Nothing that a caller of the crate has to believe.
use Rattle.std.specs.Prelude.{ℕ, ◌+◌, ◌*◌, ◌/◌, ◌≤◌, ◌<◌, max, ◌≡◌, Bool, true, cond, not, ◌&&◌, ◌||◌, List, leb, ltb, eqb, length, get_or}
use Rattle.std.proofs.Math.Seq.{slice}
use Rattle.record.specs.declared.Rec.{Rec}
use Rattle.record.specs.Record.{all_records}
use Rattle.series.specs.Series.{some_below, in_block, has_further, further_from, reserves}
use Rattle.table.specs.Table.{owned_by}
use Rattle.slots.specs.declared.Part.{Part}
use Rattle.slots.specs.declared.Part.TheVariants.{All, From, Own, Others}
use Rattle.slots.specs.declared.block_series.Series.{Series}
use Rattle.slots.specs.declared.Superframes.{Superframes}
use Rattle.slots.specs.declared.Bounds.{Bounds}
use Rattle.slots.specs.Slots.{record_far}
use Rattle.slots.specs.Window.{slot_state_number, window_slots}

-- ---- the judge

-- a record that reserves a slot, but for a far one where `any` says that far ones do already
unfoldable pub holds_more : ℕ → ℕ → Bool → Rec → Bool
holds_more m1 slot any r = not (any && record_far r) && reserves m1 r slot

-- ---- marks

-- the mark of a record: 1 far, 2 near
abbrev pub mark_of : ℕ → ℕ
mark_of far = cond (eqb far 1) 1 2

-- a place from one up to another
abbrev pub from_up_to : ℕ → ℕ → ℕ → Bool
from_up_to from to i = leb from i && ltb i to

-- of the first n octets those at the places that pass are raised to the mark, and the others are as they were
pub record MarkedWhere (n mark : ℕ) (p : ℕ → Bool) (xs ys : List ℕ) : Type 0 where
  pub at : (i : ℕ) → i < n → get_or ys i 0 ≡ cond (p i) (max (get_or xs i 0) mark) (get_or xs i 0)

-- of a window from lo on the slots that pass are marked
abbrev pub MarkedSlots : ℕ → ℕ → (ℕ → Bool) → List ℕ → List ℕ → Type 0
MarkedSlots lo mark p xs ys = MarkedWhere (window_slots xs) mark (λ i. p (lo + i)) xs ys

-- the first n octets are at a mark or above it
pub record AtLeast (n mark : ℕ) (xs : List ℕ) : Type 0 where
  pub at : (i : ℕ) → i < n → mark ≤ get_or xs i 0

-- octets have the room behind a window, and it begins so early that sums of its slots fit
pub record WindowFits (lo : ℕ) (out : List ℕ) : Type 0 where
  pub early : lo ≤ 4294967423
  pub room : 32 ≤ length out

-- ---- a series of blocks

-- one of n blocks of so many slots, at a spacing from a start on, holds the slot
abbrev pub some_hold : ℕ → ℕ → ℕ → ℕ → ℕ → Bool
some_hold start spacing length n slot = some_below n (λ j. in_block (start + j * spacing) length slot)

-- one of its first n blocks does
abbrev pub first_hold : Series → ℕ → ℕ → Bool
first_hold s n slot = some_hold s.start s.spacing s.length n slot

-- one of its blocks does
abbrev pub holds : Series → ℕ → Bool
holds s slot = first_hold s s.blocks slot

-- one of its first n blocks that start from a slot on and before a stop does
abbrev pub first_between : ℕ → ℕ → Series → ℕ → ℕ → Bool
first_between next stop s n slot = some_below n (λ j. from_up_to next stop (s.start + j * s.spacing) && in_block (s.start + j * s.spacing) s.length slot)

-- one of its blocks that do
abbrev pub holds_between : ℕ → ℕ → Series → ℕ → Bool
holds_between next stop s slot = first_between next stop s s.blocks slot

-- its blocks lie apart, and each fits a width that the room behind a window has
pub record Apart (width : ℕ) (s : Series) : Type 0 where
  pub apart : s.length < s.spacing
  pub narrow : s.length ≤ width
  pub fits : width ≤ 32

-- a block starts at a slot once so many are gone; none does where all are
pub record Starts (s : Series) (slot : ℕ) : Type 0 where
  pub gone : ℕ
  pub some : gone ≤ s.blocks
  pub at : slot ≡ s.start + gone * s.spacing

-- of a window from lo on, those that are gone are marked, and the next starts at lo or behind it
pub record BegunBlock (lo : ℕ) (s : Series) (mark : ℕ) (xs ys : List ℕ) (next : ℕ) : Type 0 where
  pub starts : Starts s next
  pub ahead : lo ≤ next
  pub marked : MarkedWhere (length xs) mark (λ i. first_hold s starts.gone (lo + i)) xs ys

-- ---- a record's superframes, with 128 added to every slot

-- one that starts at a slot holds another
abbrev pub superframe_holds : ℕ → Rec → ℕ → ℕ → Bool
superframe_holds spacing r start slot = some_hold start spacing r.length r.rate slot

-- one of its own holds a slot, or the further one does
abbrev pub held_lifted : ℕ → Rec → ℕ → Bool
held_lifted m1 r slot =
    some_below r.superframes (λ k. superframe_holds (m1 / r.rate) r (r.first + 128 + k * m1) slot)
    || (has_further r && superframe_holds (m1 / r.rate) r (further_from m1 r) slot)

-- of so many, the first from a slot on and over at another, each before the bounds is over before lo, and none behind them begins before an end
pub record Between (lo end from over m1 asked : ℕ) (b : Bounds) : Type 0 where
  pub some : b.behind ≤ asked
  pub most : b.first ≤ b.behind
  pub past : (k : ℕ) → k < b.first → over + k * m1 ≤ lo
  pub ahead : (k : ℕ) → b.behind ≤ k → k < asked → end ≤ from + k * m1

-- where number k of those that are left starts
abbrev pub left_at : Superframes → ℕ → ℕ
left_at l k = cond (ltb k l.own) (l.from + k * l.m1) l.next

-- one of those that are left, up to number n, holds a slot
abbrev pub held_left : ℕ → Rec → Superframes → ℕ → ℕ → Bool
held_left spacing r l n slot = some_below n (λ k. leb l.first k && superframe_holds spacing r (left_at l k) slot)

-- the first is not behind them all; they are so few, and their numbers so small, that sums of them fit
pub record Few (l : Superframes) : Type 0 where
  pub some : l.first ≤ l.all
  pub few : l.all ≤ 256
  pub early : l.from ≤ 4294967423
  pub further : l.next ≤ 1099511627775

-- ---- the records of a table

-- those of a memory from i up to n
abbrev pub records_from : ℕ → ℕ → List ℕ → List Rec
records_from i n m = slice i n (all_records m)

-- the place that a part begins at
abbrev pub begins_at : Part → ℕ
begins_at All = 0
begins_at (From k) = k
begins_at (Own s) = 0
begins_at (Others s) = 0

-- whether it has a record that stands there or behind that
abbrev pub takes : Part → Rec → Bool
takes All r = true
takes (From k) r = true
takes (Own s) r = owned_by s r
takes (Others s) r = not (owned_by s r)

-- the first n octets are raised to the numbers of the slots from lo on
pub record Raised (n m1 : ℕ) (rs : List Rec) (lo : ℕ) (xs ys : List ℕ) : Type 0 where
  pub at : (i : ℕ) → i < n → get_or ys i 0 ≡ max (get_or xs i 0) (slot_state_number m1 rs (lo + i))
