-- Laws of machines: a sequence on one that refines another, real calls, and calls that leave no trace. Assumes nothing.
use mathlib.Core.Path.{◌≡◌, refl, ap, ◌∙◌}
use mathlib.Core.Bool.{Bool, true, false, not, and-eq-true_iff}
use mathlib.Core.List.{List, [], ◌∷◌}
use Rattle.octets.specs.Lists.{keep, every}
use Rattle.octets.proofs.Refusals.{by_test}
use Rattle.trace.specs.Machine.{Machine, runs, transcript, Made, none, made, Settles, Refines}

-- ---- a machine that refines another

module _ {S T C W : Type 0} {k : Machine S C W} {l : Machine T C W} {write : T → S} {Good : T → Type 0} (f : Refines k l write Good) where
  -- what a sequence leaves is good
  pub runs-good : (t : T) (cs : List C) → Good t → Good (runs l t cs)
  runs-good t [] g = g
  runs-good t (c ∷ cs) g = runs-good (l.leaves t c) cs (f.kept t c g)

  -- it leaves the same
  pub runs_refined : (t : T) (cs : List C) → Good t → runs k (write t) cs ≡ write (runs l t cs)
  runs_refined t [] g = refl
  runs_refined t (c ∷ cs) g = ap (λ u. runs k u cs) (f.leaves t c g) ∙ runs_refined (l.leaves t c) cs (f.kept t c g)

  -- and says the same
  pub transcript_refined : (t : T) (cs : List C) → Good t → transcript k (write t) cs ≡ transcript l t cs
  transcript_refined t [] g = refl
  transcript_refined t (c ∷ cs) g = rw (f.says t c g, f.leaves t c g, transcript_refined (l.leaves t c) cs (f.kept t c g))

-- ---- real calls

module _ {S C W : Type 0} (k : Machine S C W) {P : S → C → W → S → Type 0} (p : Settles k P) where
  -- calls that were made ran as the machine says
  pub made_runs : {s t : S} {cs : List C} {es : List (C × W)} → Made P s cs t es → (t ≡ runs k s cs) × (es ≡ transcript k s cs)
  made_runs none = (refl, refl)
  made_runs (made {s = s} {t = t} {c = c} {cs = cs} {w = w} q d) =
      let e = p s t c w q in
      let i = made_runs d in
      (i.0 ∙ ap (λ u. runs k u cs) e.0, rw (i.1, e.0, e.1))

-- ---- calls that leave no trace

-- Two runs side by side, the first of all calls, the second without those that go: what two states have in common, `Alike s t`, is kept by
-- every call of the first that passes the premise, and the calls that count are answered alike.
pub record Untraced {S C W : Type 0} (k : Machine S C W) (Alike : S → S → Type 0) (goes counts : C → Bool) (premise : C × W → Bool) : Type 0 where
  pub gone : (s t : S) (c : C) → Alike s t → goes c ≡ true → Alike (k.leaves s c) t
  pub kept : (s t : S) (c : C) → Alike s t → goes c ≡ false → premise (c, k.says s c) ≡ true → Alike (k.leaves s c) (k.leaves t c)
  pub told : (s t : S) (c : C) → Alike s t → counts c ≡ true → premise (c, k.says s c) ≡ true → k.says t c ≡ k.says s c
  pub apart : (c : C) → goes c ≡ true → counts c ≡ false

module _ {S C W : Type 0} {k : Machine S C W} {Alike : S → S → Type 0} {goes counts : C → Bool} {premise : C × W → Bool} (u : Untraced k Alike goes counts premise) where
  -- what is left has the same in common
  pub runs_untraced : (s t : S) (cs : List C) → Alike s t → every premise (transcript k s cs) ≡ true
      → Alike (runs k s cs) (runs k t (keep (λ c. not (goes c)) cs))
  runs_untraced s t [] a r = a
  runs_untraced s t (c ∷ cs) a r =
      let p = (and-eq-true_iff (premise (c, k.says s c)) (every premise (transcript k (k.leaves s c) cs))).0 r in
      by_test (goes c)
      (λ g. rw g (runs_untraced (k.leaves s c) t cs (u.gone s t c a g) p.1))
      (λ g. rw g (runs_untraced (k.leaves s c) (k.leaves t c) cs (u.kept s t c a g p.0) p.1))

  -- the calls that count got the same answers
  pub transcript_untraced : (s t : S) (cs : List C) → Alike s t → every premise (transcript k s cs) ≡ true
      → keep (λ e. counts e.0) (transcript k s cs) ≡ keep (λ e. counts e.0) (transcript k t (keep (λ c. not (goes c)) cs))
  transcript_untraced s t [] a r = refl
  transcript_untraced s t (c ∷ cs) a r =
      let p = (and-eq-true_iff (premise (c, k.says s c)) (every premise (transcript k (k.leaves s c) cs))).0 r in
      by_test (goes c)
      (λ g. rw (g, u.apart c g, transcript_untraced (k.leaves s c) t cs (u.gone s t c a g) p.1))
      (λ g. rw (g, transcript_untraced (k.leaves s c) (k.leaves t c) cs (u.kept s t c a g p.0) p.1)
      (by_test (counts c) (λ n. rw (n, u.told s t c a n p.0)) (λ n. rw n)))
