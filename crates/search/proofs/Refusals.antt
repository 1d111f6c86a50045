-- What a search answers, by its refusals. Assumes nothing.
use Prim.Native.Nat.{ℕ, ◌-◌, ◌<◌, ◌≤◌}
use mathlib.Core.Path.{◌≡◌, refl, sym, ◌∙◌}
use mathlib.Core.Bool.{true, cond, ◌||◌}
use mathlib.Core.List.{[], ◌++◌}
use lib.Dec.{leb, ltb, eqb}
use lib.ListN.{length as len}
use borrow.Author.Tests.{ltb-false, leb-false, not-false, eq-eqb, ne_eqb}
use Rattle.std.proofs.Common.{Ok, Err}
use Rattle.refusal.specs.declared.Refusal.{Refusal}
use Rattle.refusal.specs.declared.Refusal.TheVariants.{NoStart}
use Rattle.refusal.specs.Refusals.{number_of}
use Rattle.refusal.proofs.Numbers.{numbered}
use Rattle.octets.specs.Octets.{holds_only}
use Rattle.octets.specs.Refusals.{first_of}
use Rattle.octets.proofs.Refusals.{first_of_append, first_of-stop, first_of-zero, outside-false, or_eq_false, answer-refused, answer_accepted}
use Rattle.sound.specs.Sound.{sound}
use Rattle.table.specs.Memory.{table_of, call_said}
use Rattle.slotmap.specs.Map.{Mapped, is_fresh, map_tests}
use Rattle.slotmap.proofs.Fresh.{sound_m1}
use Rattle.search.specs.declared.Query.{Query}
use Rattle.search.specs.Search.{states_of, query_tests, slot_tests, search_tests, search_refusal, found, searched, list_after}
use Rattle.search.specs.Steps.{answered}
use Rattle.search.proofs.Listed.{listed-none}

-- a query that no test before 21 refuses wants a start
some_wanted : (m1 now : ℕ) (q : Query) (places : ℕ) → first_of (query_tests m1 now q places) ≡ 0 → 0 < q.wanted
some_wanted m1 now q places z = (outside-false 1 16 q.wanted (first_of-zero (query_tests m1 now q places) refl z).1.1.0).0

-- the list has a place for each start wanted
pub has_room : (m1 now : ℕ) (q : Query) (places : ℕ) → first_of (query_tests m1 now q places) ≡ 0 → q.wanted ≤ places
has_room m1 now q places z = ltb-false places q.wanted (first_of-zero (query_tests m1 now q places) refl z).1.1.1.0

-- and its starts from now on, fewer than M1
pub in_superframe : (m1 now : ℕ) (q : Query) (places : ℕ) → first_of (query_tests m1 now q places) ≡ 0 → (now ≤ q.lo) × (q.hi - q.lo < m1)
in_superframe m1 now q places z =
    let t = first_of-zero (query_tests m1 now q places) refl z in
    let range = or_eq_false (ltb q.lo now || ltb q.hi q.lo || ltb 1_000_000_000 q.hi) (leb m1 (q.hi - q.lo)) t.0 in
    let late = or_eq_false (ltb q.lo now || ltb q.hi q.lo) (ltb 1_000_000_000 q.hi) range.0 in
    let order = or_eq_false (ltb q.lo now) (ltb q.hi q.lo) late.0 in
    (ltb-false q.lo now order.0, leb-false m1 (q.hi - q.lo) range.1)

-- ---- a search of a table with a map

module _ (x : Mapped) (fit : first_of (map_tests x) ≡ 0) where
  -- a table and a map that 11 and 25 let through: the one is sound
  pub fit_sound : sound x.channel ≡ true
  fit_sound = not-false (sound x.channel) (first_of-zero (map_tests x) refl fit).0

  -- and the other is right
  pub fit_fresh : is_fresh x ≡ true
  fit_fresh = not-false (is_fresh x) (first_of-zero (map_tests x) refl fit).1.0

  -- no superframe of a sound table is longer than the longest
  pub fit_m1 : x.channel.m1 ≤ 15360
  fit_m1 = (sound_m1 x.channel fit_sound).1

module _ (x : Mapped) (q : Query) (places : ℕ) where
  -- the refusals for which no slot is looked at
  abbrev pub asked : ℕ
  asked = first_of (query_tests x.channel.m1 x.channel.now q places)

  -- ---- which refusal

  -- 11 or 25
  pub search_refusal_unfit : {n : ℕ} → first_of (map_tests x) ≡ n → (n ≡ 0 → ⊥) → search_refusal x q places ≡ n
  unfolding search_refusal
  search_refusal_unfit e z = first_of-stop (map_tests x) (search_tests (table_of x.channel) q places) (λ k. z (sym e ∙ k)) ∙ e

  module _ (fit : first_of (map_tests x) ≡ 0) where
    -- else its own
    search_refusal_fit : search_refusal x q places ≡ first_of (query_tests x.channel.m1 x.channel.now q places ++ slot_tests (states_of (table_of x.channel)) q)
    unfolding search_refusal table_of
    search_refusal_fit = first_of_append (map_tests x) (search_tests (table_of x.channel) q places) refl fit

    -- the one for which no slot is looked at
    pub search_refusal-asked : {n : ℕ} → asked ≡ n → (n ≡ 0 → ⊥) → search_refusal x q places ≡ n
    search_refusal-asked e z =
        search_refusal_fit ∙ first_of-stop (query_tests x.channel.m1 x.channel.now q places) (slot_tests (states_of (table_of x.channel)) q) (λ k. z (sym e ∙ k)) ∙ e

    -- else by the number found
    search_refusal_looked : asked ≡ 0 → search_refusal x q places ≡ cond (eqb (len (answered x.channel q)) 0) 21 0
    search_refusal_looked z =
        search_refusal_fit
        ∙ rw (
          first_of_append (query_tests x.channel.m1 x.channel.now q places) (slot_tests (states_of (table_of x.channel)) q) refl z,
          listed-none (states_of (table_of x.channel)) q (some_wanted x.channel.m1 x.channel.now q places z),
        )

  -- ---- what is given

  -- a refused search: its number, and a wiped list
  pub refused_gives : (e : Refusal) → search_refusal x q places ≡ number_of e
      → (call_said (Err e) ≡ searched x q places) × (holds_only places [] ≡ list_after x q places)
  unfolding searched list_after found
  refused_gives e h =
      let none : [] ≡ found x q places = answer-refused (answered x.channel q) (λ _. []) (sym h) (numbered e) in
      (rw (← none, h), rw (← none))

  module _ (fit : first_of (map_tests x) ≡ 0) (z : asked ≡ 0) where
    -- none found
    pub none_gives : len (answered x.channel q) ≡ 0 → (call_said (Err NoStart) ≡ searched x q places) × (holds_only places [] ≡ list_after x q places)
    none_gives e = refused_gives NoStart (search_refusal_looked fit z ∙ rw (eq-eqb (len (answered x.channel q)) 0 e))

    -- some found
    pub some_gives : (len (answered x.channel q) ≡ 0 → ⊥)
        → (call_said (Ok (len (answered x.channel q))) ≡ searched x q places) × (holds_only places (answered x.channel q) ≡ list_after x q places)
    unfolding searched list_after found
    some_gives e =
        let r : 0 ≡ search_refusal x q places = sym (search_refusal_looked fit z ∙ rw (ne_eqb (len (answered x.channel q)) 0 e)) in
        let some : answered x.channel q ≡ found x q places = answer_accepted (answered x.channel q) (λ _. []) r in
        (rw (← some, ← r), rw (← some))
