-- What follows of a call that went well. Assumes nothing.
use Rattle.std.proofs.Common.{ℕ, List, Option, Some, None, Result, Ok, Err, OnOk, IfSome}

-- what is known of it, of the octets that the reader had
pub on_known : {T E : Type 0} (r : Result T E) (known : Option (List ℕ)) (P Q : List ℕ → Type 0) → ((xs : List ℕ) → P xs → Q xs)
    → OnOk r (IfSome known P) → OnOk r (IfSome known Q)
on_known (Err e) known P Q f p = tt
on_known (Ok v) None P Q f p = tt
on_known (Ok v) (Some xs) P Q f p = f xs p
