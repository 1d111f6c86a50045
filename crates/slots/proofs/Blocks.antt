-- Laws of a series of blocks. Assumes nothing.
use Prim.Native.Nat.{ℕ, zero, suc, ◌+◌, ◌-◌, ◌*◌, ◌/◌, ◌%◌, ◌<◌, ◌≤◌, min}
use native.Mathlib.Nat.{mul-le-mul_right, div-add-mod', mod-lt, lt_of_mul-lt-mul_right}
use native.Mathlib.Numerals.{add-one}
use native.Mathlib.Omega.{arith}
use mathlib.Core.Path.{◌≡◌, refl, sym, ap, ◌∙◌}
use mathlib.Core.Bool.{Bool, true, false, ◌&&◌, ◌||◌, or-true, and-eq-true_iff}
use lib.Dec.{leb, ltb}
use borrow.Author.Tests.{leb-true, ltb-true, ltb-false, le-leb, lt-ltb}
use Rattle.octets.proofs.Refusals.{by_test}
use Rattle.series.specs.Series.{some_below, in_block}
use Rattle.series.proofs.Tests.{fails, agree}
use Rattle.series.proofs.SomeBelow.{some_below_at, some_below_elim}
use Rattle.series.proofs.Blocks.{in_block-both}
use Rattle.slots.specs.declared.block_series.Series.{Series}
use Rattle.slots.specs.Steps.{some_hold, first_hold, holds, from_up_to, first_between, holds_between, Starts}
use Rattle.slots.proofs.Tests.{block_join}

-- ---- some_below

-- none is below 0
pub some_below-none : (p : ℕ → Bool) → some_below 0 p ≡ false
unfolding some_below
some_below-none p = refl

-- one number more
pub some_below_next : (n : ℕ) (p : ℕ → Bool) → some_below (n + 1) p ≡ (some_below n p || p n)
unfolding some_below
some_below_next n p = rw add-one

-- tests that agree
pub some_below_agree : (n : ℕ) (p q : ℕ → Bool) → ((j : ℕ) → j < n → p j ≡ q j) → some_below n p ≡ some_below n q
unfolding some_below
some_below_agree zero p q h = refl
some_below_agree (suc n) p q h = rw (some_below_agree n p q (λ j l. h j (omega arith)), h n (omega arith))

-- those from k on do not count where none of them passes
some_below_past : (n : ℕ) (p : ℕ → Bool) (k : ℕ) → k ≤ n → ((j : ℕ) → k ≤ j → p j ≡ true → ⊥) → some_below k p ≡ some_below n p
some_below_past n p k h f =
    agree (some_below k p) (some_below n p)
    (some_below_elim k p (λ j l e. some_below_at n p j (omega arith) e))
    (some_below_elim n p (λ j l e. by_test (ltb j k) (λ t. some_below_at k p j (ltb-true j k t) e) (λ t. absurd (f j (ltb-false j k t) e))))

-- ---- blocks that hold no slot

module _ (s : Series) (slot : ℕ) where
  -- where none of the first n blocks has started and is not over
  first_none : (n : ℕ) → ((j : ℕ) → j < n → s.start + j * s.spacing ≤ slot → slot < s.start + j * s.spacing + s.length → ⊥) → first_hold s n slot ≡ false
  first_none n f =
      fails (first_hold s n slot)
      (some_below_elim n (λ j. in_block (s.start + j * s.spacing) s.length slot) (λ j l e.
      let b = in_block-both (s.start + j * s.spacing) s.length slot e in
      f j l b.0 b.1))

  -- blocks that are over before a slot
  none_over : (n : ℕ) → s.length < s.spacing → s.start + n * s.spacing ≤ slot → first_hold s n slot ≡ false
  none_over n h e =
      first_none n (λ j l b m. let d : (j + 1) * s.spacing ≤ n * s.spacing = mul-le-mul_right s.spacing (omega arith) in omega arith)

  -- a series that has not started, or whose last block is over
  pub holds-outside : (s.start ≤ slot → s.start + ((s.blocks - 1) * s.spacing + s.length) ≤ slot) → holds s slot ≡ false
  holds-outside f =
      first_none s.blocks (λ j l b m.
      let d : j * s.spacing ≤ (s.blocks - 1) * s.spacing = mul-le-mul_right s.spacing (omega arith) in
      let o = f (omega arith) in
      omega arith)

-- blocks that hold a slot have started, and the last is not over
pub holds-within : (start spacing length n slot : ℕ) → some_hold start spacing length n slot ≡ true → (start ≤ slot) × (slot < start + ((n - 1) * spacing + length))
holds-within start spacing length n slot =
    some_below_elim n (λ j. in_block (start + j * spacing) length slot) (λ j l e.
    let b = in_block-both (start + j * spacing) length slot e in
    let d : j * spacing ≤ (n - 1) * spacing = mul-le-mul_right spacing (omega arith) in
    (omega arith, omega arith))

-- ---- a series in parts

-- one block more
pub first_next : (s : Series) (n slot : ℕ) → (first_hold s n slot || in_block (s.start + n * s.spacing) s.length slot) ≡ first_hold s (n + 1) slot
first_next s n slot = sym (some_below_next n (λ j. in_block (s.start + j * s.spacing) s.length slot))

-- of a series that started before lo as many blocks are over by then as whole spacings fit in, and one more has begun
pub begun : (lo : ℕ) (s : Series) → s.length < s.spacing → s.start < lo → lo < s.start + s.blocks * s.spacing
    → let n = (lo - s.start) / s.spacing in (n < s.blocks) × (s.start + n * s.spacing ≤ lo) × (lo ≤ s.start + (n + 1) * s.spacing)
begun lo s h b l =
    let e = div-add-mod' (lo - s.start) s.spacing in
    let r : (lo - s.start) % s.spacing < s.spacing = mod-lt (lo - s.start) (omega arith) in
    (lt_of_mul-lt-mul_right s.spacing (omega arith), omega arith, omega arith)

-- of blocks that have begun by a slot only the last may not be over
pub begun-holds : (s : Series) (n slot : ℕ) → s.length < s.spacing → s.start + n * s.spacing ≤ slot → in_block (s.start + n * s.spacing) s.length slot ≡ first_hold s (n + 1) slot
begun-holds s n slot h l = rw (← first_next s n slot, none_over s slot n h l)

-- ---- blocks that start from the start of one on and before a stop

module _ (next stop : ℕ) (s : Series) where
  -- before that one
  pub between-none : (starts : Starts s next) (slot : ℕ) → 0 < s.spacing → first_between next stop s starts.gone slot ≡ false
  between-none starts slot h =
      fails (first_between next stop s starts.gone slot)
      (some_below_elim starts.gone (λ j. from_up_to next stop (s.start + j * s.spacing) && in_block (s.start + j * s.spacing) s.length slot) (λ j l e.
      let d : (j + 1) * s.spacing ≤ starts.gone * s.spacing = mul-le-mul_right s.spacing (omega arith) in
      let f = ((and-eq-true_iff (from_up_to next stop (s.start + j * s.spacing)) (in_block (s.start + j * s.spacing) s.length slot)).0 e).0 in
      omega (arith, leb-true next (s.start + j * s.spacing) ((and-eq-true_iff (leb next (s.start + j * s.spacing)) (ltb (s.start + j * s.spacing) stop)).0 f).0)))

  -- one more
  pub between_next : (n slot : ℕ) → next ≤ s.start + n * s.spacing → s.start + n * s.spacing < stop
      → (first_between next stop s n slot || in_block (s.start + n * s.spacing) s.length slot) ≡ first_between next stop s (n + 1) slot
  between_next n slot l h =
      sym (some_below_next n (λ j. from_up_to next stop (s.start + j * s.spacing) && in_block (s.start + j * s.spacing) s.length slot)
      ∙ rw (le-leb next (s.start + n * s.spacing) l, lt-ltb (s.start + n * s.spacing) stop h))

  -- from one on that does not, none does
  pub between_past : (n slot : ℕ) → n ≤ s.blocks → stop ≤ s.start + n * s.spacing → first_between next stop s n slot ≡ holds_between next stop s slot
  between_past n slot h l =
      some_below_past s.blocks (λ j. from_up_to next stop (s.start + j * s.spacing) && in_block (s.start + j * s.spacing) s.length slot) n h (λ j f e.
      let d : n * s.spacing ≤ j * s.spacing = mul-le-mul_right s.spacing f in
      let g = ((and-eq-true_iff (from_up_to next stop (s.start + j * s.spacing)) (in_block (s.start + j * s.spacing) s.length slot)).0 e).0 in
      omega (arith, ltb-true (s.start + j * s.spacing) stop ((and-eq-true_iff (leb next (s.start + j * s.spacing)) (ltb (s.start + j * s.spacing) stop)).0 g).1))

  -- those before that one, and those that do: before an end no other holds a slot, where the stop is the end or that of the last block
  pub holds-parts : (starts : Starts s next) (end slot : ℕ) → stop ≡ min (s.start + ((s.blocks - 1) * s.spacing + s.length)) end → slot < end
      → (first_hold s starts.gone slot || holds_between next stop s slot) ≡ holds s slot
  holds-parts starts end slot e h =
      agree (first_hold s starts.gone slot || holds_between next stop s slot) (holds s slot)
      (λ t.
      by_test (first_hold s starts.gone slot)
      (some_below_elim starts.gone block (λ j l f. some_below_at s.blocks block j (omega (arith, starts.some)) f))
      (λ u. some_below_elim s.blocks between (λ j l f. some_below_at s.blocks block j l ((and-eq-true_iff (from_up_to next stop (s.start + j * s.spacing)) (block j)).0 f).1) (rw u at t)))
      (some_below_elim s.blocks block (λ j l f.
      by_test (ltb j starts.gone)
      (λ t. rw (some_below_at starts.gone block j (ltb-true j starts.gone t) f))
      (λ t.
      let i = in_block-both (s.start + j * s.spacing) s.length slot f in
      let d : starts.gone * s.spacing ≤ j * s.spacing = mul-le-mul_right s.spacing (ltb-false j starts.gone t) in
      let m : j * s.spacing ≤ (s.blocks - 1) * s.spacing = mul-le-mul_right s.spacing (omega arith) in
      rw (some_below_at s.blocks between j l (rw (le-leb next (s.start + j * s.spacing) (omega (arith, starts.at)), lt-ltb (s.start + j * s.spacing) stop (omega arith)) f))
      (or-true (first_hold s starts.gone slot)))))
    where
      block : ℕ → Bool
      block j = in_block (s.start + j * s.spacing) s.length slot

      between : ℕ → Bool
      between j = from_up_to next stop (s.start + j * s.spacing) && block j

-- ---- blocks that touch or overlap

-- so many and one more are one run
holds_run : (start spacing length slot n : ℕ) → spacing ≤ length
    → some_below (n + 1) (λ j. in_block (start + j * spacing) length slot) ≡ in_block start (n * spacing + length) slot
holds_run start spacing length slot zero h =
    some_below_next 0 (λ j. in_block (start + j * spacing) length slot) ∙ rw (some_below-none (λ j. in_block (start + j * spacing) length slot))
    (let e : start + 0 * spacing ≡ start = omega arith in let d : 0 * spacing + length ≡ length = omega arith in rw (e, d))
holds_run start spacing length slot (suc n) h =
    let e : suc n * spacing ≡ n * spacing + spacing = omega arith in
    let d : start + suc n * spacing + length - start ≡ suc n * spacing + length = omega arith in
    let before : some_below (suc n) (λ j. in_block (start + j * spacing) length slot) ≡ in_block start (n * spacing + length) slot = rw add-one at (holds_run start spacing length slot n h) in
    some_below_next (suc n) (λ j. in_block (start + j * spacing) length slot)
    ∙ ap (λ (b : Bool). b || in_block (start + suc n * spacing) length slot) before
    ∙ block_join start (n * spacing + length) (start + suc n * spacing) length slot (omega arith) (omega arith) (omega arith)
    ∙ ap (λ (m : ℕ). in_block start m slot) d

-- all of a series are
pub holds_all : (s : Series) (slot : ℕ) → s.spacing ≤ s.length → in_block s.start ((s.blocks - 1) * s.spacing + s.length) slot ≡ holds s slot
holds_all s slot l =
    let e : s.blocks - 1 + 1 ≡ s.blocks = omega arith in
    sym (ap (λ (m : ℕ). first_hold s m slot) (sym e) ∙ holds_run s.start s.spacing s.length slot (s.blocks - 1) l)
