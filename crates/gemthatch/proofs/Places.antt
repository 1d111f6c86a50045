-- A search with more places than it ever fills. Assumes nothing.
use Prim.Native.Nat.{ℕ, ◌-◌}
use native.Mathlib.Omega.{arith}
use mathlib.Core.Path.{◌≡◌, refl, sym, ap, ◌∙◌}
use mathlib.Core.Bool.{false}
use mathlib.Core.List.{List, []}
use lib.Dec.{ltb}
use lib.ListN.{length, take, replicate}
use lib.Seq.{take_at}
use Rattle.std.proofs.Common.{min, Ok, Err}
use borrow.Author.Tests.{ltb-true, ltb-false, lt-ltb, le-ltb}
use Rattle.refusal.specs.declared.Refusal.{Refusal}
use Rattle.refusal.specs.Refusals.{number_of}
use Rattle.refusal.proofs.Numbers.{numbered}
use Rattle.octets.specs.Refusals.{outside}
use Rattle.octets.proofs.Refusals.{by_test, outside-false, answer-refused}
use Rattle.table.specs.Table.{Said}
use Rattle.table.specs.Memory.{call_said}
use Rattle.slotmap.specs.Map.{Mapped}
use Rattle.search.specs.declared.Query.{Query}
use Rattle.search.specs.Search.{search_refusal, found, searched, list_after}

-- at most 16 are wanted, or the search is refused before its places are counted: so more make no difference
module _ (x : Mapped) (q : Query) (places : ℕ) where
  few : outside 1 16 q.wanted ≡ false → ltb (min places 16) q.wanted ≡ ltb places q.wanted
  few e =
      let w = outside-false 1 16 q.wanted e in
      by_test (ltb places q.wanted)
      (λ t. let l = ltb-true places q.wanted t in lt-ltb (min places 16) q.wanted (omega arith) ∙ sym t)
      (λ t. let l = ltb-false places q.wanted t in le-ltb (min places 16) q.wanted (omega arith) ∙ sym t)

  search_refusal-min : search_refusal x q (min places 16) ≡ search_refusal x q places
  unfolding search_refusal
  search_refusal-min = by_test (outside 1 16 q.wanted) (λ w. rw w refl) (λ w. rw (few w) refl)

  pub found-min : found x q (min places 16) ≡ found x q places
  unfolding found
  found-min = rw search_refusal-min refl

  pub searched-min : searched x q (min places 16) ≡ searched x q places
  unfolding searched
  searched-min = rw (search_refusal-min, found-min) refl

  -- ---- what a search tells with so many places

  module _ {m : ℕ} (all : m ≡ min places 16) where
    -- its answer is that with any number of places
    pub told_alike : {w : Said} → w ≡ searched x q m → w ≡ searched x q places
    told_alike e = e ∙ ap (searched x q) all ∙ searched-min

    -- what is found stands in front of its list
    pub told_found : {n : ℕ} {list : List ℕ} → call_said (Ok n) ≡ searched x q m → list ≡ list_after x q m
        → (n ≡ length (found x q places)) × (take n list ≡ found x q places)
    unfolding searched list_after
    told_found {n} {list} e l =
        let f = found x q places in
        let k : n ≡ length f = ap (λ w. w.number) e ∙ ap (λ i. length (found x q i)) all ∙ ap length found-min in
        (k, rw (l, all, found-min, k) (take_at f (replicate (min places 16 - length f) 0) (length f) refl))

    -- and nothing where it is refused
    pub told_none : (e : Refusal) → call_said (Err e) ≡ searched x q m → found x q places ≡ []
    unfolding searched found
    told_none e h =
        let r : search_refusal x q places ≡ number_of e = sym search_refusal-min ∙ sym (ap (λ w. w.refusal) h ∙ ap (λ i. search_refusal x q i) all) in
        sym (answer-refused _ (λ _. []) (sym r) (numbered e))
