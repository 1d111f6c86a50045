-- Laws of `counted_all`: what a tally tells after a row of calls. Assumes nothing.
use Prim.Native.Nat.{ℕ, suc, ◌+◌, min}
use native.Mathlib.Nat.{add-zero, zero-add, add-suc, suc-add}
use native.Mathlib.Omega.{arith}
use mathlib.Core.Path.{◌≡◌, sym, ap, ◌∙◌}
use mathlib.Core.Bool.{Bool, true, false, cond, not}
use mathlib.Core.List.{List, [], ◌∷◌}
use lib.Dec.{eqb}
use lib.ListN.{length}
use Rattle.octets.specs.Lists.{keep}
use Rattle.octets.specs.Refusals.{answer}
use Rattle.tally.specs.declared.Tally.{Tally}
use Rattle.tally.specs.Calls.{one_more, counted}
use Rattle.tally.specs.Claims.{counted_all, is_accepted, TellsHowMany}

-- a tally of so many accepted and so many refused calls
abbrev told : ℕ → ℕ → Tally
told a r = record { accepted = min a 4_294_967_295; refused = min r 4_294_967_295 }

-- one more of a count that may have stopped
one_more_min : (n : ℕ) → one_more (min n 4_294_967_295) ≡ min (suc n) 4_294_967_295
one_more_min n = omega arith

-- those of these that are refused
abbrev refused : List ℕ → List ℕ
refused ns = keep (λ n. not (is_accepted n)) ns

-- each call of a row counts as what it is
counted_all_lem : (ns : List ℕ) (a r : ℕ) → counted_all (told a r) ns ≡ told (a + length (keep is_accepted ns)) (r + length (refused ns))
unfolding counted answer
counted_all_lem [] a r = rw (add-zero a, add-zero r)
counted_all_lem (n ∷ ns) a r = go (eqb n 0) (counted_all_lem ns)
  where
    go : (b : Bool) → ((x y : ℕ) → counted_all (told x y) ns ≡ told (x + length (keep is_accepted ns)) (y + length (refused ns)))
        → counted_all (cond b (record { accepted = one_more (min a 4_294_967_295); refused = (told a r).refused }) (record { accepted = (told a r).accepted; refused = one_more (min r 4_294_967_295) })) ns
        ≡ told (a + length (cond b (n ∷ keep is_accepted ns) (keep is_accepted ns))) (r + length (cond (not b) (n ∷ refused ns) (refused ns)))
    go true rest = rw (one_more_min a, add-suc a) (rest (suc a) r ∙ rw (suc-add a))
    go false rest = rw (one_more_min r, add-suc r) (rest a (suc r) ∙ rw (suc-add r))

-- so a tally begun at 0 tells how many were accepted and how many refused
pub counted_all_told : TellsHowMany
counted_all_told ns =
    let none : min 0 4_294_967_295 ≡ 0 = omega arith in
    ap (λ (n : ℕ). counted_all (record { accepted = n; refused = n }) ns) (sym none)
    ∙ counted_all_lem ns 0 0
    ∙ rw (zero-add (length (keep is_accepted ns)), zero-add (length (refused ns)))
