-- A sound table is read back from its octets, so the calls over octets are the calls over records. Assumes nothing.
use Prim.Native.Nat.{ℕ, zero-le}
use mathlib.Core.Path.{◌≡◌, refl, sym, ap, ◌∙◌}
use mathlib.Core.Bool.{true, not, and-eq-true_iff}
use mathlib.Core.List.{List, [], ◌∷◌}
use lib.ListN.{length as len}
use borrow.Author.Tests.{le-leb, not-false}
use Rattle.octets.specs.Refusals.{within}
use Rattle.octets.proofs.Refusals.{first_of-zero, answer-map}
use Rattle.codec.specs.Parameters.{m1_row, fits}
use Rattle.record.specs.Record.{capacity, whole}
use Rattle.record.proofs.Packed.{whole-packed, capacity-packed, all_records-packed, rest-packed, packed_none, packed-all_records}
use Rattle.sound.specs.Sound.{Channel, records, size_fits, numbers_fit, sound}
use Rattle.sound.proofs.Sound.{sound_parts}
use Rattle.sound.proofs.Ranges.{all_fit}
use Rattle.table.specs.Table.{Table, Call, clock, reserve, distance, wipe, look, changed}
use Rattle.table.specs.Memory.{table_of, channel_of, call_refusal, acts, leaves, says, open_refusal, opened}
use Rattle.table.proofs.Calls.{call_refusal-sound}
use Rattle.trace.specs.Machine.{runs}
use Rattle.trace.specs.Sequences.{on_octets}
use Rattle.trace.specs.Records.{Sound, refusal_on, left_on, said_on, on_records}
use Rattle.trace.specs.Claims.{ReadBack, WrittenBack, Refined, room_for_one}
use Rattle.trace.proofs.Machine.{runs_refined}
use Rattle.trace.proofs.Kept.{left_on-look, all_in_range, sound-left_on}

-- ---- records read back

-- a sound table is read back from its octets
pub table_of-channel_of : (t : Table) → Sound t → table_of (channel_of t) ≡ t
unfolding table_of channel_of records
table_of-channel_of t k =
    let c = capacity-packed t.capacity t.records k.room in
    let e = all_records-packed t.capacity t.records k.room (all_fit t.records (all_in_range t k)) in
    λ i. record { m1 = t.m1; now = t.now; capacity = c i; records = e i }

-- its records alone
pub records-channel_of : (t : Table) → Sound t → records (channel_of t) ≡ t.records
unfolding table_of
records-channel_of t k = ap (λ u. u.records) (table_of-channel_of t k)

-- ---- soundness over octets and over records

-- a table that is sound over records is so over octets
pub sound-channel_of : (t : Table) → Sound t → sound (channel_of t) ≡ true
unfolding sound numbers_fit channel_of records
sound-channel_of t k =
    let cap = t.capacity in
    let rs = t.records in
    rw (
      whole-packed cap rs k.room,
      capacity-packed cap rs k.room,
      k.capacity_fits,
      k.m1_fits,
      le-leb t.now 1_000_000_000 k.now_most,
      le-leb (len rs) cap k.room,
      all_records-packed cap rs k.room (all_fit rs (all_in_range t k)),
      k.all_good,
      rest-packed cap rs,
    )

-- and the other way round
pub sound-table_of : (m : Channel) → sound m ≡ true → Sound (table_of m)
unfolding table_of
sound-table_of m h =
    let k = sound_parts m h in
    record { m1_fits = k.m1_fits; capacity_fits = k.capacity_fits; now_most = k.now_most; room = rw k.counted k.room; all_good = k.all_good }

pub read_back : ReadBack
read_back t k = (sound-channel_of t k, table_of-channel_of t k)

pub written_back : WrittenBack
unfolding table_of channel_of records
written_back m b h =
    let k = sound_parts m h in
    let e = packed-all_records m.memory m.count b k.whole-records k.room k.clear in
    (sound-table_of m h, λ i. record { m1 = m.m1; now = m.now; count = k.counted i; memory = e i })

-- ---- a call

module _ (t : Table) (k : Sound t) where
  -- a call gets the same refusal
  call_refusal-channel_of : (c : Call) → call_refusal (channel_of t) c ≡ refusal_on t c
  call_refusal-channel_of c = call_refusal-sound (channel_of t) c (sound-channel_of t k) ∙ ap (λ u. refusal_on u c) (table_of-channel_of t k)

  -- a call that changes the table leaves the octets of the changed one
  acts-channel_of : (c : Call) → acts (channel_of t) c ≡ channel_of (left_on t c)
  unfolding left_on
  acts-channel_of c = rw (call_refusal-channel_of c, table_of-channel_of t k) (answer-map (changed t c) (λ _. t) channel_of (refusal_on t c))

  -- any call leaves the octets of what it leaves over records
  pub leaves-channel_of : (c : Call) → leaves (channel_of t) c ≡ channel_of (left_on t c)
  unfolding leaves
  leaves-channel_of (clock slot) = acts-channel_of (clock slot)
  leaves-channel_of (reserve q) = acts-channel_of (reserve q)
  leaves-channel_of (distance s d limit) = acts-channel_of (distance s d limit)
  leaves-channel_of (wipe s) = acts-channel_of (wipe s)
  leaves-channel_of (look f) = ap channel_of (sym (left_on-look t f))

  -- whose records are read back
  pub leaves-records : (c : Call) → records (leaves (channel_of t) c) ≡ (left_on t c).records
  leaves-records c = rw (leaves-channel_of c) (records-channel_of (left_on t c) (sound-left_on t c k))

  -- a call gets the same answer
  says-channel_of : (c : Call) → says (channel_of t) c ≡ said_on t c
  unfolding says said_on
  says-channel_of c = rw (call_refusal-channel_of c, table_of-channel_of t k)

pub refined : Refined
refined = record { leaves = λ t c k. leaves-channel_of t k c; says = λ t c k. says-channel_of t k c; kept = λ t c k. sound-left_on t c k }

-- ---- an accepted opening

-- the table that it leaves, of a capacity
abbrev pub empty : ℕ → ℕ → Table
empty m1 cap = record { m1 = m1; now = 0; capacity = cap; records = [] }

module _ (m1 : ℕ) (b : List ℕ) (o : open_refusal m1 b ≡ 0) where
  -- M1 fits its row, and the memory is a whole number of records, 1 to 2,048
  open_fits : (fits m1_row m1 ≡ true) × (whole b ≡ true) × (within 1 2048 (capacity b) ≡ true)
  unfolding open_refusal
  open_fits =
      let p = first_of-zero ((10, not (fits m1_row m1)) ∷ (1, not (size_fits b)) ∷ []) refl o in
      let size = (and-eq-true_iff (whole b) (within 1 2048 (capacity b))).0 (not-false (size_fits b) p.1.0) in
      (not-false (fits m1_row m1) p.0, size.0, size.1)

  -- the table that it leaves is sound
  pub sound_empty : Sound (empty m1 (capacity b))
  sound_empty =
      record { m1_fits = open_fits.0; capacity_fits = open_fits.2; now_most = zero-le; room = zero-le; all_good = refl }

  -- the octets left are those of the empty table
  pub opened-channel_of : opened m1 b ≡ channel_of (empty m1 (capacity b))
  unfolding channel_of
  opened-channel_of = rw (packed_none b open_fits.1)

-- ---- the tables of the cases, with room for one record

-- their memory has this capacity
room_for_one-capacity : capacity room_for_one ≡ 1
room_for_one-capacity = capacity-packed 1 [] zero-le

module _ (m1 : ℕ) (h : fits m1_row m1 ≡ true) where
  -- the opening is accepted
  room_for_one_accepted : open_refusal m1 room_for_one ≡ 0
  unfolding open_refusal
  room_for_one_accepted = rw (h, whole-packed 1 [] zero-le, room_for_one-capacity)

  -- it is sound
  pub room_for_one-sound : Sound (empty m1 1)
  room_for_one-sound = rw room_for_one-capacity at (sound_empty m1 room_for_one room_for_one_accepted)

  -- a sequence on it goes by records
  pub room_for_one-runs : (cs : List Call) → runs on_octets (opened m1 room_for_one) cs ≡ channel_of (runs on_records (empty m1 1) cs)
  room_for_one-runs cs = rw (opened-channel_of m1 room_for_one room_for_one_accepted, room_for_one-capacity, runs_refined refined (empty m1 1) cs room_for_one-sound)
