-- What soundness says, part by part. Assumes nothing.
use Prim.Native.Nat.{◌-◌, ◌%◌, ◌≤◌}
use mathlib.Core.Path.{◌≡◌}
use mathlib.Core.Bool.{true, ◌&&◌, and-eq-true_iff}
use lib.Dec.{eqb}
use lib.ListN.{length}
use lib.Seq.{length-take-le}
use borrow.Author.Tests.{leb-true}
use Rattle.octets.specs.Lists.{every}
use Rattle.octets.specs.Refusals.{within}
use Rattle.octets.specs.Octets.{zeros}
use Rattle.octets.proofs.Refusals.{within-true}
use Rattle.codec.specs.Parameters.{m1_row, fits}
use Rattle.record.specs.Record.{capacity, whole, rest, all_records}
use Rattle.record.proofs.Images.{length-all_records}
use Rattle.sound.specs.Sound.{Channel, records, numbers_fit, good, sound}

-- what holds of a sound table
pub record SoundParts (m : Channel) : Type 0 where
  pub capacity_fits : within 1 2048 (capacity m.memory) ≡ true
  pub capacity-most : capacity m.memory ≤ 2048
  pub m1_fits : fits m1_row m.m1 ≡ true
  pub now_most : m.now ≤ 1_000_000_000
  pub room : m.count ≤ capacity m.memory
  pub counted : length (records m) ≡ m.count
  pub all_good : every (good m.m1 m.now) (records m) ≡ true
  pub whole-records : whole m.memory ≡ true
  pub clear : zeros (rest m.count m.memory) ≡ true

-- there are as many records as the count says
count_records : (m : Channel) → m.count ≤ capacity m.memory → length (records m) ≡ m.count
unfolding records
count_records m h = length-take-le m.count (all_records m.memory) (rw length-all_records h)

-- the size and the numbers beside the records, part by part
numbers_fit_lem : (m : Channel) → numbers_fit m ≡ true
    → (whole m.memory ≡ true) × (within 1 2048 (capacity m.memory) ≡ true) × (fits m1_row m.m1 ≡ true)
    × (m.now ≤ 1_000_000_000) × (m.count ≤ capacity m.memory)
unfolding numbers_fit
numbers_fit_lem m h =
    let p = simp and-eq-true_iff at h in (
      p.0.0.0.0,
      p.0.0.0.1,
      p.0.0.1,
      leb-true m.now 1_000_000_000 p.0.1,
      leb-true m.count (capacity m.memory) p.1,
    )

-- no M1 that fits is above 15,360
pub m1_most : (m : Channel) → numbers_fit m ≡ true → m.m1 ≤ 15360
unfolding fits
m1_most m h =
    let p = (and-eq-true_iff (within 60 15360 m.m1) (eqb ((m.m1 - 60) % 60) 0)).0 (numbers_fit_lem m h).2 in
    (within-true 60 15360 m.m1 p.0).1

-- a table that is sound has all of it
pub sound_parts : (m : Channel) → sound m ≡ true → SoundParts m
unfolding sound
sound_parts m h =
    let b = m.memory in
    let s = (and-eq-true_iff (numbers_fit m && every (good m.m1 m.now) (records m)) (zeros (rest m.count b))).0 h in
    let g = (and-eq-true_iff (numbers_fit m) (every (good m.m1 m.now) (records m))).0 s.0 in
    let n = numbers_fit_lem m g.0 in
    record {
      capacity_fits = n.1;
      capacity-most = (within-true 1 2048 (capacity b) n.1).1;
      m1_fits = n.2;
      now_most = n.3;
      room = n.4;
      counted = count_records m n.4;
      all_good = g.1;
      whole-records = n.0;
      clear = s.1;
    }
