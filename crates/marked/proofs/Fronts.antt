-- An output list that holds an answer only has it at its front. Assumes nothing.
use Rattle.std.proofs.Common.{ℕ, ◌≡◌, ◌≤◌, List, Ok, length, take, ap, arith, length-append}
use Rattle.std.proofs.Math.Seq.{take-append_seam}
use Rattle.octets.specs.Octets.{holds_only}
use Rattle.search.specs.declared.Query.{Query}
use Rattle.search.specs.Search.{found, searched, list_after}
use Rattle.table.specs.Memory.{call_said}
use Rattle.slotmap.specs.Map.{Mapped}

-- with n numbers in the answer, the first n can be lent
abbrev pub StandsInFront : ℕ → List ℕ → Type 0
StandsInFront n out = (n ≤ length out) × (n ≡ length (take n out))

-- a list of so many places, with n numbers in the answer
pub counts_only : (places n : ℕ) (answer out : List ℕ) → n ≡ length answer → out ≡ holds_only places answer → StandsInFront n out
counts_only places n answer out e f = rw (f, e) (rw length-append (omega arith), rw take-append_seam)

-- so has a search's list what was found
pub counts_found : (x : Mapped) (q : Query) (places : ℕ) (n : ℕ) (out : List ℕ) → call_said (Ok n) ≡ searched x q places → out ≡ list_after x q places → StandsInFront n out
unfolding searched list_after
counts_found x q places n out e f = counts_only places n (found x q places) out (ap (λ y. y.number) e) f
