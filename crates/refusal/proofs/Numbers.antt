-- The numbers of the refusals: none is 0, none is above 34, and each is one refusal's alone.
use Rattle.std.proofs.Common.{ℕ, ◌≡◌, ◌<◌, ◌≤◌, lit<, lit≤, refl, sym, ◌∙◌, ap, arith, Result, Ok, Err, cond, eqb}
use Rattle.refusal.specs.declared.Refusal.{Refusal}
use Rattle.refusal.specs.declared.Refusal.TheVariants.{Size, ExtendedId, Code, Roff, Bs, Bo, RateList, Address, Field, Figure, NotSound, Behind, Late, Rate, NoSuperframes, Held, Full, Limit, SearchRange, Wanted, NoStart, Parameter, Entry, Early, Map, Destination}
use Rattle.refusal.specs.Refusals.{number_of, Tells}

pub not_zero : (e : Refusal) → 0 < number_of e
not_zero Size = lit< tt
not_zero ExtendedId = lit< tt
not_zero Code = lit< tt
not_zero Roff = lit< tt
not_zero Bs = lit< tt
not_zero Bo = lit< tt
not_zero RateList = lit< tt
not_zero Address = lit< tt
not_zero Field = lit< tt
not_zero Figure = lit< tt
not_zero NotSound = lit< tt
not_zero Behind = lit< tt
not_zero Late = lit< tt
not_zero Rate = lit< tt
not_zero NoSuperframes = lit< tt
not_zero Held = lit< tt
not_zero Full = lit< tt
not_zero Limit = lit< tt
not_zero SearchRange = lit< tt
not_zero Wanted = lit< tt
not_zero NoStart = lit< tt
not_zero Parameter = lit< tt
not_zero Entry = lit< tt
not_zero Early = lit< tt
not_zero Map = lit< tt
not_zero Destination = lit< tt

pub at_most_34 : (e : Refusal) → number_of e ≤ 34
at_most_34 Size = lit≤ tt
at_most_34 ExtendedId = lit≤ tt
at_most_34 Code = lit≤ tt
at_most_34 Roff = lit≤ tt
at_most_34 Bs = lit≤ tt
at_most_34 Bo = lit≤ tt
at_most_34 RateList = lit≤ tt
at_most_34 Address = lit≤ tt
at_most_34 Field = lit≤ tt
at_most_34 Figure = lit≤ tt
at_most_34 NotSound = lit≤ tt
at_most_34 Behind = lit≤ tt
at_most_34 Late = lit≤ tt
at_most_34 Rate = lit≤ tt
at_most_34 NoSuperframes = lit≤ tt
at_most_34 Held = lit≤ tt
at_most_34 Full = lit≤ tt
at_most_34 Limit = lit≤ tt
at_most_34 SearchRange = lit≤ tt
at_most_34 Wanted = lit≤ tt
at_most_34 NoStart = lit≤ tt
at_most_34 Parameter = lit≤ tt
at_most_34 Entry = lit≤ tt
at_most_34 Early = lit≤ tt
at_most_34 Map = lit≤ tt
at_most_34 Destination = lit≤ tt

pub numbered : (e : Refusal) → number_of e ≡ 0 → ⊥
numbered e h = let z = not_zero e in omega arith

-- the refusal of a number
named : ℕ → Refusal
named n =
    cond (eqb n 1) Size (
    cond (eqb n 2) ExtendedId (
    cond (eqb n 3) Code (
    cond (eqb n 4) Roff (
    cond (eqb n 5) Bs (
    cond (eqb n 6) Bo (
    cond (eqb n 7) RateList (
    cond (eqb n 8) Address (
    cond (eqb n 9) Field (
    cond (eqb n 10) Figure (
    cond (eqb n 11) NotSound (
    cond (eqb n 12) Behind (
    cond (eqb n 13) Late (
    cond (eqb n 14) Rate (
    cond (eqb n 15) NoSuperframes (
    cond (eqb n 16) Held (
    cond (eqb n 17) Full (
    cond (eqb n 18) Limit (
    cond (eqb n 19) SearchRange (
    cond (eqb n 20) Wanted (
    cond (eqb n 21) NoStart (
    cond (eqb n 22) Parameter (
    cond (eqb n 23) Entry (
    cond (eqb n 24) Early (
    cond (eqb n 25) Map (
    Destination)))))))))))))))))))))))))

named-number_of : (e : Refusal) → named (number_of e) ≡ e
named-number_of Size = unfold named in refl
named-number_of ExtendedId = unfold named in refl
named-number_of Code = unfold named in refl
named-number_of Roff = unfold named in refl
named-number_of Bs = unfold named in refl
named-number_of Bo = unfold named in refl
named-number_of RateList = unfold named in refl
named-number_of Address = unfold named in refl
named-number_of Field = unfold named in refl
named-number_of Figure = unfold named in refl
named-number_of NotSound = unfold named in refl
named-number_of Behind = unfold named in refl
named-number_of Late = unfold named in refl
named-number_of Rate = unfold named in refl
named-number_of NoSuperframes = unfold named in refl
named-number_of Held = unfold named in refl
named-number_of Full = unfold named in refl
named-number_of Limit = unfold named in refl
named-number_of SearchRange = unfold named in refl
named-number_of Wanted = unfold named in refl
named-number_of NoStart = unfold named in refl
named-number_of Parameter = unfold named in refl
named-number_of Entry = unfold named in refl
named-number_of Early = unfold named in refl
named-number_of Map = unfold named in refl
named-number_of Destination = unfold named in refl

pub one_number : (a b : Refusal) → number_of a ≡ number_of b → a ≡ b
one_number a b e = sym (named-number_of a) ∙ ap named e ∙ named-number_of b

-- any two results that tell the same are equal
pub told_once : {A : Type 0} (r q : Result A Refusal) (refusal : ℕ) (value : A) → Tells r refusal value → Tells q refusal value → r ≡ q
told_once (Ok x) (Ok y) n v r q = ap Ok (r.1 ∙ sym q.1)
told_once (Ok x) (Err e) n v r q = let z = not_zero e in absurd (omega (arith, r.0, q))
told_once (Err e) (Ok x) n v r q = let z = not_zero e in absurd (omega (arith, q.0, r))
told_once (Err e) (Err f) n v r q = ap Err (one_number e f (sym r ∙ q))
