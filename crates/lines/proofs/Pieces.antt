-- An input that comes in pieces of whole groups. Assumes nothing.
use Prim.Native.Nat.{ℕ, zero, suc, ◌+◌, ◌*◌, ◌/◌, ◌%◌, ◌≤◌}
use mathlib.Core.Path.{◌≡◌, refl}
use mathlib.Core.List.{List, ◌++◌, append_assoc, append-nil}
use native.Mathlib.Nat.{add-zero, add-suc}
use native.Mathlib.Omega.{arith}
use lib.ListN.{length, drop, length-append, length-drop}
use lib.Seq.{take-append-le, drop-append-le, drop-append-add}
use Rattle.lines.specs.Listing.{group, groups, first_lines, all_lines}

module _ (s t : List ℕ) where
  -- a group within the first piece
  group_first : (k : ℕ) → k * 9 + 9 ≤ length s → group (s ++ t) k ≡ group s k
  group_first k h =
      rw (drop-append-le (k * 9) s t (omega arith), take-append-le 9 (drop (k * 9) s) t (rw length-drop (omega arith)))

  -- a group of the second
  group-second : (m k : ℕ) → length s ≡ m * 9 → group (s ++ t) (m + k) ≡ group t k
  group-second m k e =
      let f : (m + k) * 9 ≡ length s + k * 9 = omega arith in
      rw (f, drop-append-add)

  -- the lines of groups within the first piece
  first_lines_first : (n : ℕ) → n * 9 ≤ length s → first_lines n (s ++ t) ≡ first_lines n s
  unfolding first_lines
  first_lines_first zero h = refl
  first_lines_first (suc n) h = rw (first_lines_first n (omega arith), group_first n (omega arith))

  -- the lines of all of the first, and of groups of the second
  first_lines-second : (m n : ℕ) → length s ≡ m * 9 → first_lines (m + n) (s ++ t) ≡ first_lines m s ++ first_lines n t
  unfolding first_lines
  first_lines-second m zero e = rw (add-zero, append-nil) (first_lines_first m (omega arith))
  first_lines-second m (suc n) e = rw (add-suc m n, first_lines-second m n e, group-second m n e, append_assoc)

-- the lines of both
pub pieces : (s t : List ℕ) → length s % 9 ≡ 0 → all_lines (s ++ t) ≡ all_lines s ++ all_lines t
pieces s t h =
    let e : length s ≡ groups s * 9 = omega arith in
    let f : (length s + length t + 8) / 9 ≡ groups s + groups t = omega arith in
    rw (length-append, f) (first_lines-second s t (groups s) (groups t) e)
