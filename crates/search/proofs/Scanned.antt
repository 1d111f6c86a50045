-- What the search has once the starts below a slot are decided: where it begins, passes starts over, lists starts and ends. Assumes nothing.
use Prim.Native.Nat.{ℕ, zero, suc, ◌+◌, ◌-◌, ◌<◌, ◌≤◌}
use native.Mathlib.Omega.{arith}
use mathlib.Core.Path.{◌≡◌, refl, sym, ap, ◌∙◌}
use mathlib.Core.Bool.{Bool, true, false, cond}
use mathlib.Core.List.{List, [], ◌++◌, append-nil}
use lib.Dec.{eqb}
use lib.ListN.{length as len, take, length-take}
use lib.Seq.{take-append-le, take_all}
use borrow.Author.Tests.{eqb-true}
use Rattle.octets.specs.Lists.{keep, from}
use Rattle.octets.proofs.Lists.{keep_append, keep-every, from_append, every-from}
use Rattle.slots.specs.declared.Slot.{Slot}
use Rattle.search.specs.declared.Query.{Query}
use Rattle.search.specs.Search.{level0, level1, listed, states_in}
use Rattle.search.specs.Steps.{bound_by, BehindAre}
use Rattle.search.proofs.Blocks.{block_below, Passed, block_level0, free-level1, passed_level0, passed_level1, untaken-level1}
use Rattle.search.proofs.Behind.{behind_below, behind_not-below}
use Rattle.search.proofs.Listed.{listed-early, listed_all}

-- ---- a list cut after so many

module _ (most : ℕ) (xs : List ℕ) {list : List ℕ} (e : list ≡ take most xs) where
  -- it has no more
  pub cut-≤ : len list ≤ most
  cut-≤ = omega (arith, ap len e, length-take most xs)

  -- with so many it is cut the same where more come behind
  cut_full : len list ≡ most → (ys : List ℕ) → list ≡ take most (xs ++ ys)
  cut_full h ys = e ∙ sym (take-append-le most xs ys (omega (arith, ap len e, length-take most xs)))

  -- with fewer it is all, and takes more behind it
  cut_more : len list < most → (ys : List ℕ) → len (list ++ ys) ≤ most → list ++ ys ≡ take most (xs ++ ys)
  cut_more h ys k =
      let all : list ≡ xs = e ∙ take_all most xs (omega (arith, ap len e, length-take most xs)) in
      ap (λ (l : List ℕ). l ++ ys) all ∙ sym (take_all most (xs ++ ys) (rw all at k))

-- ---- the starts below one

-- the starts below one that pass a test
abbrev pub below : Query → (ℕ → Bool) → ℕ → List ℕ
below q level start = keep level (from q.lo (start - q.lo))

-- of a row in which none passes, none is kept
keep-none : (p : ℕ → Bool) (s n : ℕ) → ((x : ℕ) → s ≤ x → x < s + n → p x ≡ false) → keep p (from s n) ≡ []
keep-none p s zero h = refl
keep-none p s (suc n) h = rw (h s (omega arith) (omega arith)) (keep-none p (s + 1) n (λ x l k. h x (omega arith) (omega arith)))

module _ (q : Query) (level : ℕ → Bool) (start end : ℕ) (l : q.lo ≤ start) (k : start ≤ end) where
  -- the starts below one are those below an earlier one and those in between
  below_more : below q level end ≡ below q level start ++ keep level (from start (end - start))
  below_more =
      let e : end - q.lo ≡ start - q.lo + (end - start) = omega arith in
      let d : q.lo + (start - q.lo) ≡ start = omega arith in
      rw (e, from_append q.lo (start - q.lo) (end - start), keep_append, d)

  -- if none in between passes, the same
  below-same : ((s : ℕ) → start ≤ s → s < end → level s ≡ false) → below q level end ≡ below q level start
  below-same h = below_more ∙ rw (keep-none level start (end - start) (λ s a b. h s a (omega arith)), append-nil)

  -- if all do, they come behind
  below_all : ((s : ℕ) → start ≤ s → s < end → level s ≡ true) → below q level end ≡ below q level start ++ from start (end - start)
  below_all h = below_more ∙ rw (keep-every level (from start (end - start)) (every-from level start (end - start) (λ s a b. h s a (omega arith))))

-- the starts of a query below one are decided: those of level 0 and those of level 1, each cut after wanted
pub record Scanned (states : ℕ → Slot) (q : Query) (start : ℕ) (list later : List ℕ) : Type 0 where
  pub from_lo : q.lo ≤ start
  pub to_hi : start ≤ q.hi + 1
  pub free : list ≡ take q.wanted (below q (level0 states q.length) start)
  pub untaken : later ≡ take q.wanted (below q (level1 states q.length) start)

module _ {states : ℕ → Slot} {q : Query} where
  module _ {start : ℕ} {list later : List ℕ} (s : Scanned states q start list later) where
    -- wanted starts of level 0 are enough
    pub scanned_early : len list ≡ q.wanted → list ≡ listed states q
    scanned_early e = s.free ∙ listed-early states q (start - q.lo) (omega (arith, s.from_lo, s.to_hi)) (omega (arith, ap len s.free))

    -- the level 1 starts behind those of level 0, once every start is decided
    pub scanned_all : q.hi < start → take q.wanted (list ++ later) ≡ listed states q
    scanned_all h =
        let all : start - q.lo ≡ q.hi + 1 - q.lo = omega (arith, s.to_hi) in
        rw (s.free, s.untaken, all) (listed_all states q)

module _ (xs : List ℕ) (q : Query) {start : ℕ} {list later : List ℕ} (s : Scanned (states_in xs q.lo) q start list later) where
  -- level 0 by the states that the octets say
  abbrev is-level0 : ℕ → Bool
  is-level0 = level0 (states_in xs q.lo) q.length

  -- level 1 by them
  abbrev is-level1 : ℕ → Bool
  is-level1 = level1 (states_in xs q.lo) q.length

  -- the starts below another are decided, in the lists given
  abbrev ScannedTo : ℕ → List ℕ → List ℕ → Type 0
  ScannedTo = Scanned (states_in xs q.lo) q

  -- the starts passed over are not level 0, and not level 1 where such are still to be kept
  pub scanned_skip : (end : ℕ) {x : ℕ} → start ≤ end → end ≤ q.hi + 1 → x ≡ bound_by (len later) q.wanted → Passed xs q x start end → ScannedTo end list later
  scanned_skip end ahead to_hi bound passed = go (eqb (len later) q.wanted) refl (rw bound at passed)
    where
      by : (x : ℕ) → 1 ≤ x → Passed xs q x start end → later ≡ take q.wanted (below q is-level1 end) → ScannedTo end list later
      by x h passed untaken =
          record {
            from_lo = omega (arith, s.from_lo);
            to_hi = to_hi;
            free = rw (below-same q is-level0 start end s.from_lo ahead (λ t a b. passed_level0 xs q t x h (passed t a b))) s.free;
            untaken = untaken;
          }

      go : (b : Bool) → eqb (len later) q.wanted ≡ b → Passed xs q (cond b 1 2) start end → ScannedTo end list later
      go true e passed =
          let more = below_more q is-level1 start end s.from_lo ahead in
          by 1 (omega arith) passed (rw more (cut_full q.wanted _ s.untaken (eqb-true (len later) q.wanted e) _))
      go false e passed =
          let same = below-same q is-level1 start end s.from_lo ahead (λ t a b. passed_level1 xs q t (passed t a b)) in
          by 2 (omega arith) passed (rw same s.untaken)

  module _ (m : ℕ) {after : List ℕ} (to_hi : start + m ≤ q.hi + 1) (few : len after ≤ q.wanted) where
    -- the starts found, one all free and the next ones with a free slot behind the block before, are level 0
    pub scanned_free : len list < q.wanted → after ≡ list ++ from start m → block_below xs q 1 start ≡ true → BehindAre xs q 0 start (start + m)
        → ScannedTo (start + m) after later
    scanned_free room on first behind =
        let number : start + m - start ≡ m = omega arith in
        let free = behind_below xs q 0 (start + m) s.from_lo behind 1 (omega arith) first in
        record {
          from_lo = omega (arith, s.from_lo);
          to_hi = to_hi;
          free = on ∙ rw (below_all q is-level0 start (start + m) s.from_lo (omega arith) (λ t a b. sym (block_level0 xs q t) ∙ free t a b), number) (cut_more q.wanted _ s.free room (from start m) (rw on at few));
          untaken = rw (below-same q is-level1 start (start + m) s.from_lo (omega arith) (λ t a b. free-level1 xs q t (free t a b))) s.untaken;
        }

    -- those with a reusable slot behind the block before are level 1, if the first one is
    pub scanned_untaken : len later < q.wanted → after ≡ later ++ from start m → 0 < q.length → block_below xs q 1 start ≡ false → block_below xs q 2 start ≡ true
        → BehindAre xs q 1 start (start + m) → ScannedTo (start + m) list after
    scanned_untaken room on some first first' behind =
        let number : start + m - start ≡ m = omega arith in
        let reserved = behind_not-below xs q 1 (start + m) s.from_lo behind some 1 (omega arith) first in
        let untaken = behind_below xs q 1 (start + m) s.from_lo behind 2 (omega arith) first' in
        record {
          from_lo = omega (arith, s.from_lo);
          to_hi = to_hi;
          free = rw (below-same q is-level0 start (start + m) s.from_lo (omega arith) (λ t a b. passed_level0 xs q t 1 (omega arith) (reserved t a b))) s.free;
          untaken = on ∙ rw (below_all q is-level1 start (start + m) s.from_lo (omega arith) (λ t a b. untaken-level1 xs q t (reserved t a b) (untaken t a b)), number) (cut_more q.wanted _ s.untaken room (from start m) (rw on at few));
        }
