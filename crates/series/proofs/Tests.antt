-- Tests that agree. Assumes nothing.
use Rattle.std.proofs.Common.{◌≡◌, ℕ, ◌<◌, Bool, true, false, not, ltb, leb, sym, refl, ◌∙◌, ltb-true, le-ltb, lt-ltb, leb-false, leb-true}
use Rattle.octets.proofs.Refusals.{by_test}

-- a test that cannot pass fails
pub fails : (a : Bool) → (a ≡ true → ⊥) → a ≡ false
fails true f = absurd (f refl)
fails false f = refl

-- two tests of which each passes where the other does
pub agree : (a b : Bool) → (a ≡ true → b ≡ true) → (b ≡ true → a ≡ true) → a ≡ b
agree true b f g = sym (f refl)
agree false true f g = g refl
agree false false f g = refl

-- two orders that say the same
pub ltb-same : (a b c d : ℕ) → (a < b → c < d) → (c < d → a < b) → ltb a b ≡ ltb c d
ltb-same a b c d f g = agree (ltb a b) (ltb c d) (λ h. lt-ltb c d (f (ltb-true a b h))) (λ h. lt-ltb a b (g (ltb-true c d h)))

-- what is not below is at least
pub leb-not : (a b : ℕ) → leb a b ≡ not (ltb b a)
leb-not a b =
    by_test (leb a b) (λ e. e ∙ rw (le-ltb b a (leb-true a b e))) (λ e. e ∙ rw (lt-ltb b a (leb-false a b e)))
