-- What octets ask for, by their operation. Assumes nothing.
use Rattle.std.proofs.Common.{ℕ, ◌≡◌, List, [], ◌∷◌, Option, Some, None, eqb, length as len}
use Rattle.std.proofs.lemmas.Bool.{cond_both}
use lib.Ieee.{Float}
use borrow.Author.Tests.{eqb-true}
use Rattle.octets.specs.Octets.{zeros}
use Rattle.distance.specs.declared.Distance.{Distance}
use Rattle.table.specs.declared.Request.{Request}
use Rattle.daylog.specs.declared.LoggedCall.{LoggedCall}
use Rattle.daylog.specs.declared.LoggedCall.TheVariants.{Clock, Reserve, SetDistance, Wipe}
use Rattle.daylog.specs.Entries.{log_record_of, where_zero, call_in}

-- both ways to go on from a call where the unused fields are 0
where_zero_lem : (P : Option LoggedCall → Type 0) (unused : List ℕ) (call : LoggedCall) → P None → P (Some call) → P (where_zero unused call)
where_zero_lem P unused call none f = cond_both (zeros unused) (Some call) None P (λ _. f) (λ _. none)

-- the ways to go on from the call in octets: none, or one by the operation
pub call_in_elim : (P : Option LoggedCall → Type 0) (o : List ℕ) → P None
    → ((log_record_of o).operation ≡ 1 → P (Some (Clock (log_record_of o).slot)))
    → ((log_record_of o).operation ≡ 2 → (q : Request) → P (Some (Reserve q)))
    → ((log_record_of o).operation ≡ 3 → (s : ℕ) (d : Distance) (limit : Float) → P (Some (SetDistance s d limit)))
    → ((log_record_of o).operation ≡ 4 → (s : ℕ) → P (Some (Wipe s)))
    → P (call_in o)
unfolding call_in
call_in_elim P o none c r d w =
    let f = log_record_of o in
    let series : List ℕ → List ℕ = λ others. f.rate ∷ f.superframes ∷ f.length ∷ f.bo ∷ others in
    cond_both (eqb (len o) 24) _ _ P
    (λ _.
    cond_both (eqb f.operation 1) _ _ P (λ h. where_zero_lem P (series (f.station ∷ f.distance ∷ f.limit ∷ f.closing ∷ [])) _ none (c (eqb-true _ 1 h)))
    (λ _. cond_both (eqb f.operation 2) _ _ P (λ h. where_zero_lem P (f.closing ∷ []) _ none (r (eqb-true _ 2 h) _))
    (λ _. cond_both (eqb f.operation 3) _ _ P (λ h. where_zero_lem P (series (f.slot ∷ f.closing ∷ [])) _ none (d (eqb-true _ 3 h) _ _ _))
    (λ _. cond_both (eqb f.operation 4) _ _ P (λ h. where_zero_lem P (series (f.slot ∷ f.distance ∷ f.limit ∷ f.closing ∷ [])) _ none (w (eqb-true _ 4 h) _))
    (λ _. none)))))
    (λ _. none)
