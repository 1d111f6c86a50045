-- The lines stand behind the header. Assumes nothing.
use Rattle.std.proofs.Common.{ℕ, List, Option, Result, OnOk, IfSome}
use Rattle.std.specs.Io.KnownBytes.{Appends}
use Rattle.lines.specs.Listing.{header, all_lines, listing}
use Rattle.lines.proofs.Appended.{appends_then}
use Rattle.pieces.proofs.Written.{on_known}

pub lines_behind : {T E : Type 0} (r : Result T E) (known a b c : Option (List ℕ)) → Appends a b header
    → OnOk r (IfSome known (λ xs. Appends b c (all_lines xs))) → OnOk r (IfSome known (λ xs. Appends a c (listing xs)))
lines_behind r known a b c head p =
    on_known r known (λ xs. Appends b c (all_lines xs)) (λ xs. Appends a c (listing xs)) (λ xs q. appends_then a b c header (all_lines xs) head q) p
