-- Lines that are written one piece of whole groups after another. Assumes nothing.
use Rattle.std.proofs.Common.{◌≡◌, ◌*◌, ℕ, List, [], ◌++◌, Option, Some, None, sym, ap, ◌∙◌, arith, length, append_assoc, append-nil}
use Rattle.std.specs.Io.KnownBytes.{Appends}
use Rattle.lines.specs.Listing.{all_lines, first_lines}
use Rattle.lines.proofs.Pieces.{pieces}

-- ---- any octets

-- nothing is written yet
pub appends_none : (a : Option (List ℕ)) → Appends a a []
appends_none None = tt
appends_none (Some x) = sym (append-nil x)

-- some, and then others
pub appends_then : (a b c : Option (List ℕ)) (x y : List ℕ) → Appends a b x → Appends b c y → Appends a c (x ++ y)
appends_then None b c x y p q = tt
appends_then (Some u) None c x y p q = absurd p
appends_then (Some u) (Some v) None x y p q = absurd q
appends_then (Some u) (Some v) (Some w) x y p q = q ∙ ap (λ l. l ++ y) p ∙ append_assoc u x y

-- ---- lines

-- no group, no line
pub lines_none : (a : Option (List ℕ)) → Appends a a (all_lines [])
unfolding first_lines
lines_none a = appends_none a

-- the lines of whole groups, and of what follows them
pub lines_then : (a b c : Option (List ℕ)) (x y : List ℕ) (n : ℕ) → length x ≡ n * 9 → Appends a b (all_lines x) → Appends b c (all_lines y) → Appends a c (all_lines (x ++ y))
lines_then a b c x y n whole p q = rw (pieces x y (omega arith)) (appends_then a b c (all_lines x) (all_lines y) p q)
