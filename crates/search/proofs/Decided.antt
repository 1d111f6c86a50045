-- What the search decides of a start, by how many slots of its block there are up to the last that is not below x. Assumes nothing.
use Prim.Native.Nat.{ℕ, ◌+◌, ◌-◌, ◌<◌, ◌≤◌}
use native.Mathlib.Omega.{arith}
use mathlib.Core.Path.{◌≡◌, sym, ap, ◌∙◌}
use mathlib.Core.Bool.{Bool, true, false, cond}
use mathlib.Core.List.{List}
use lib.Dec.{eqb}
use lib.ListN.{get_or}
use borrow.Author.Tests.{ltb-true, ltb-false, le-leb, eq-eqb}
use Rattle.octets.specs.Lists.{every, from}
use Rattle.octets.proofs.Lists.{every_append, every-sub, every-has, from_append, has-from}
use Rattle.search.specs.declared.Query.{Query}
use Rattle.search.specs.Steps.{octet_below, streak, bound_by}
use Rattle.search.proofs.Streak.{streak-every, streak-≤, streak-stop}
use Rattle.search.proofs.Octets.{slot_below, octet_greater, streak_slots}
use Rattle.search.proofs.Blocks.{block_below, Passed, block_within}

-- ---- the bound

-- it is no more than 2
pub bound-≤ : (kept most : ℕ) → bound_by kept most ≤ 2
bound-≤ kept most = go (eqb kept most)
  where
    go : (b : Bool) → cond b 1 2 ≤ 2
    go true = omega arith
    go false = omega arith

-- and above 1 only while not enough are kept
pub bound_open : (kept most : ℕ) → 1 < bound_by kept most → kept ≡ most → ⊥
bound_open kept most h e = let full : 1 < 1 = rw (eq-eqb kept most e) at h in omega arith

module _ (xs : List ℕ) (q : Query) (s : ℕ) (l : q.lo ≤ s) where
  -- the slot is below x
  abbrev fits : ℕ → ℕ → Bool
  fits = slot_below xs q.lo

  -- ---- of the n slots from s on those up to the last that is not below x: m

  module _ (x n m : ℕ) (e : m ≡ n - streak (octet_below xs x) (s - q.lo) n) where
    -- the slots behind them are a streak
    in_slots : streak (fits x) s n ≡ n - m
    in_slots =
        let same = streak_slots xs q.lo x s n l in
        omega (arith, e, same, streak-≤ (fits x) s n)

    -- they are below x
    rest_below : every (fits x) (from (s + m) (n - m)) ≡ true
    rest_below =
        let all : m + (n - m) ≡ n = omega (arith, e) in
        sym (streak-every (fits x) s m (n - m)) ∙ rw (all, in_slots) (le-leb (n - m) (n - m) (omega arith))

    -- all are, where m is 0
    all_below : m ≡ 0 → every (fits x) (from s n) ≡ true
    all_below h =
        let here : s + m ≡ s = omega arith in
        let all : n - m ≡ n = omega arith in
        rw (here, all) at rest_below

    -- where the streak stops
    before-rest : n - 1 - streak (fits x) s n ≡ m - 1
    before-rest = omega (arith, e, in_slots)

    -- there the last of the m is not
    last_not-below : (m ≡ 0 → ⊥) → fits x (s + (m - 1)) ≡ false
    last_not-below h = rw (← before-rest) (streak-stop (fits x) s n (omega (arith, e, in_slots, h)))

    -- and lies in the block of each start up to it
    pub passes : n ≤ q.length → (m ≡ 0 → ⊥) → Passed xs q x s (s + m)
    passes k h t a b = block_within xs q t x (s + (m - 1)) (omega (arith, h)) (omega (arith, e)) (last_not-below h)

  -- ---- the block's slots up to the last that is not free: n

  module _ (n : ℕ) (e : n ≡ q.length - streak (octet_below xs 1) (s - q.lo) q.length) where
    -- all are free, where n is 0
    pub all_free : n ≡ 0 → block_below xs q 1 s ≡ true
    unfolding block_below
    all_free = all_below 1 q.length n e

    module _ (some : n ≡ 0 → ⊥) where
      -- else one is not
      pub not_all_free : block_below xs q 1 s ≡ false
      not_all_free = passes 1 q.length n e (omega arith) some s (omega arith) (omega (arith, some))

      module _ (x m : ℕ) (f : m ≡ n - streak (octet_below xs x) (s - q.lo) n) (none : m ≡ 0) where
        -- if all of those n are below x, x is above 1
        pub bound_above : 1 < x
        bound_above =
            let last = every-has (fits x) (s + (n - 1)) (from s n) (all_below x n m f none) (has-from s n (s + (n - 1)) (omega arith) (omega (arith, some))) in
            let octet = get_or xs (s + (n - 1) - q.lo) 0 in
            omega (arith, ltb-true octet x last, ltb-false octet 1 (last_not-below 1 q.length n e some))

        -- and by an x of 2 or less no slot of the block is taken
        pub none_taken : x ≤ 2 → block_below xs q 2 s ≡ true
        unfolding block_below
        none_taken h =
            let all : q.length ≡ n + (q.length - n) = omega (arith, e) in
            let front = every-sub (fits x) (fits 2) (λ t. octet_greater (get_or xs (t - q.lo) 0) x 2 h) (from s n) (all_below x n m f none) in
            let rest = every-sub (fits 1) (fits 2) (λ t. octet_greater (get_or xs (t - q.lo) 0) 1 2 (omega arith)) (from (s + n) (q.length - n)) (rest_below 1 q.length n e) in
            ap (λ (k : ℕ). every (fits 2) (from s k)) all ∙ rw (from_append s n (q.length - n), every_append, front, rest)
