-- The refusal of a rate lookup by the tests that led to it, and what a result tells of it. Assumes nothing.
use Prim.Native.Nat.{ℕ, zero, suc, ◌≤◌, ◌<◌, zero-le}
use mathlib.Core.Path.{◌≡◌, refl, ◌∙◌, ap}
use mathlib.Core.Bool.{true, false, not, and-eq-true_iff}
use mathlib.Core.List.{List, [], ◌∷◌}
use native.Mathlib.Omega.{arith}
use borrow.Author.Tests.{eq-eqb, ne_eqb, eqb-true, eqb-false, le-leb, leb-true, not-false}
use lib.Dec.{leb, eqb}
use lib.ListN.{length, get_or}
use Rattle.octets.specs.Lists.{every}
use Rattle.octets.specs.Refusals.{first_of}
use Rattle.std.proofs.Common.{Result}
use Rattle.refusal.specs.declared.Refusal.{Refusal}
use Rattle.refusal.specs.Refusals.{Tells}
use Rattle.octets.proofs.Refusals.{Tells-answer, by_test, or_eq_false}
use Rattle.codec.specs.NineOctets.{bad_code}
use Rattle.codec.specs.Rates.{Lookup, bad_list, rate_tests, refused_lookup, rate_lookup}

-- ---- a list that is not bad

-- it has sixteen entries, 0 at 7, 14 and 15, and none above 60
pub bad_list-false : (rates : List ℕ) → bad_list rates ≡ false → (length rates ≡ 16) × (get_or rates 7 0 ≡ 0) × (get_or rates 14 0 ≡ 0) × (get_or rates 15 0 ≡ 0) × (every (λ r. leb r 60) rates ≡ true)
unfolding bad_list
bad_list-false rates h =
    let p15 = or_eq_false _ _ h in
    let p14 = or_eq_false _ _ p15.0 in
    let p7 = or_eq_false _ _ p14.0 in
    let p16 = or_eq_false _ _ p7.0 in
    (same _ _ p16.0, same _ _ p7.1, same _ _ p14.1, same _ _ p15.1, not-false _ p16.1)
  where
    same : (a b : ℕ) → not (eqb a b) ≡ false → a ≡ b
    same a b e = eqb-true a b (not-false (eqb a b) e)

-- so at every code it has at most 60
pub bad_list_entry : (rates : List ℕ) (code : ℕ) → bad_list rates ≡ false → get_or rates code 0 ≤ 60
bad_list_entry rates code h = go rates code (bad_list-false rates h).4
  where
    go : (rs : List ℕ) (n : ℕ) → every (λ r. leb r 60) rs ≡ true → get_or rs n 0 ≤ 60
    go [] n e = zero-le
    go (x ∷ xs) zero e = leb-true x 60 ((and-eq-true_iff (leb x 60) (every (λ r. leb r 60) xs)).0 e).0
    go (x ∷ xs) (suc n) e = go xs n ((and-eq-true_iff (leb x 60) (every (λ r. leb r 60) xs)).0 e).1

-- and 0 at every code up to 15 that is bad
bad_code_entry : (rates : List ℕ) (code : ℕ) → bad_list rates ≡ false → code ≤ 15 → bad_code code ≡ true → get_or rates code 0 ≡ 0
bad_code_entry rates code h l k =
    let p = bad_list-false rates h in
    by_test (eqb code 7) (at 7 p.1) (λ f.
    by_test (eqb code 14) (at 14 p.2) (λ g.
    at 15 p.3 (eq-eqb code 15 (omega (arith, l, leb-true 14 code (rw f at k), eqb-false code 14 g)))))
  where
    at : (n : ℕ) → get_or rates n 0 ≡ 0 → eqb code n ≡ true → get_or rates code 0 ≡ 0
    at n z e = ap (λ (m : ℕ). get_or rates m 0) (eqb-true code n e) ∙ z

-- ---- which refusal

module _ (rates : List ℕ) (code : ℕ) where
  -- 7 for a bad list
  pub rate_7 : bad_list rates ≡ true → 7 ≡ first_of (rate_tests rates code)
  unfolding rate_tests
  rate_7 h = simp h

  module _ (h : bad_list rates ≡ false) where
    -- 3 for a bad code
    rate_3_code : bad_code code ≡ true → 3 ≡ first_of (rate_tests rates code)
    unfolding rate_tests
    rate_3_code k = simp (h, k)

    -- so for a code above 15
    pub rate_3_high : 15 < code → 3 ≡ first_of (rate_tests rates code)
    rate_3_high l = rate_3_code (simp (ne_eqb code 7 (λ e. omega arith), le-leb 14 code (omega arith)))

    -- 3 for a code whose entry is 0
    rate_3_entry : bad_code code ≡ false → get_or rates code 0 ≡ 0 → 3 ≡ first_of (rate_tests rates code)
    unfolding rate_tests
    rate_3_entry k z = simp (h, k, eq-eqb _ _ z)

    -- none for any other
    rate_0 : bad_code code ≡ false → (get_or rates code 0 ≡ 0 → ⊥) → 0 ≡ first_of (rate_tests rates code)
    unfolding rate_tests
    rate_0 k z = simp (h, k, ne_eqb _ _ z)

    -- up to 15 the entry alone tells: 3 where it is 0
    pub rate_3 : code ≤ 15 → get_or rates code 0 ≡ 0 → 3 ≡ first_of (rate_tests rates code)
    rate_3 l z = by_test (bad_code code) rate_3_code (λ k. rate_3_entry k z)

    -- and none where it is not
    pub rate_found : code ≤ 15 → (get_or rates code 0 ≡ 0 → ⊥) → 0 ≡ first_of (rate_tests rates code)
    rate_found l z = by_test (bad_code code) (λ k. absurd (z (bad_code_entry rates code h l k))) (λ k. rate_0 k z)

-- ---- what results tell

-- what a result tells of the tests of a rate and the entry, it tells of the lookup
pub tells_rate : (rates : List ℕ) (code : ℕ) (r : Result ℕ Refusal) → Tells r (first_of (rate_tests rates code)) (get_or rates code 0)
    → Tells r (rate_lookup rates code).refusal (rate_lookup rates code).number
tells_rate rates code r h = Tells-answer _ refused_lookup (λ (x : Lookup). x.refusal) (λ (x : Lookup). x.number) refl (λ n. refl) r (first_of (rate_tests rates code)) h
