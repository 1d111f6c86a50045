-- The records of a memory still to come in a loop. Assumes nothing.
use Prim.Native.Nat.{ℕ, ◌+◌, ◌<◌, ◌≤◌}
use native.Mathlib.Numerals.{add-one}
use native.Mathlib.Omega.{arith}
use mathlib.Core.Path.{◌≡◌}
use mathlib.Core.List.{List, [], ◌∷◌}
use lib.ListN.{get_or, take, length-take, drop_of_length-le}
use lib.Seq.{slice, slice-cons}
use Rattle.record.specs.declared.Rec.{Rec}
use Rattle.record.specs.Record.{blank, capacity, all_records}
use Rattle.record.proofs.Images.{length-all_records}

-- the records of a memory from i to n
abbrev pub to_come : ℕ → ℕ → List ℕ → List Rec
to_come i n m = slice i n (all_records m)

-- record i, and those after it
pub to_come_next : (i n : ℕ) (m : List ℕ) → i < n → n ≤ capacity m → to_come i n m ≡ get_or (all_records m) i blank ∷ to_come (i + 1) n m
to_come_next i n m h k = rw add-one (slice-cons i n (all_records m) blank h (rw length-all_records k))

-- none is left
pub to_come-none : (i n : ℕ) (m : List ℕ) → n ≤ i → to_come i n m ≡ []
to_come-none i n m h = drop_of_length-le (take n (all_records m)) {i = i} (omega (arith, length-take n (all_records m)))
