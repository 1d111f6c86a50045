-- What a window's octets are once some of the records have marked them: where the loop over all begins, goes on and ends. Assumes nothing.
use Prim.Native.Nat.{ℕ, ◌+◌, ◌<◌, ◌≤◌, min, max}
use native.Mathlib.Omega.{arith}
use mathlib.Core.Path.{◌≡◌, sym, ap, ◌∙◌}
use mathlib.Core.Bool.{Bool}
use mathlib.Core.List.{List, ◌++◌}
use lib.Dec.{ltb}
use borrow.Author.Tests.{ltb-true, ltb-false}
use Rattle.octets.proofs.Refusals.{by_test}
use lib.ListN.{length, get_or, take, drop, take-append-drop}
use lib.Seq.{take-take, length-take-le, drop-append-le}
use Rattle.octets.specs.Lists.{keep}
use Rattle.octets.proofs.Lists.{keep_append}
use Rattle.record.specs.declared.Rec.{Rec}
use Rattle.record.specs.Record.{capacity, all_records}
use Rattle.record.proofs.Images.{length-all_records}
use Rattle.record.proofs.ToCome.{to_come-none}
use Rattle.slots.specs.Slots.{slot_state}
use Rattle.slots.specs.Window.{slot_state_number}
use Rattle.slots.specs.Steps.{records_from, AtLeast, Raised}
use Rattle.slots.proofs.Numbers.{number-none, number_append, number-≤}

-- the records from i on are those up to another one, and those from there on
records_from_parts : (i k n : ℕ) (m : List ℕ) → i ≤ k → k ≤ n → n ≤ capacity m → records_from i n m ≡ records_from i k m ++ records_from k n m
records_from_parts i k n m h l f =
    let all = all_records m in
    let e : take n all ≡ take k all ++ drop k (take n all) = rw (← take-take k n all l) (sym (take-append-drop k (take n all))) in
    let short : length (take k all) ≡ k = length-take-le k all (rw length-all_records (omega arith)) in
    ap (drop i) e ∙ drop-append-le i (take k all) (drop k (take n all)) (rw short h)

-- from the end of them on there is none, as from any place behind it
records_from_past : (i n : ℕ) (m : List ℕ) → records_from (min i n) n m ≡ records_from i n m
records_from_past i n m =
    by_test (ltb i n)
    (λ t. let e : min i n ≡ i = omega (arith, ltb-true i n t) in rw e)
    (λ t. let e : min i n ≡ n = omega (arith, ltb-false i n t) in rw (e, to_come-none n n m (omega arith), to_come-none i n m (ltb-false i n t)))

-- of octets xs the octets ys are left once the records from a place up to i that pass a test have marked the first n of them: with those to
-- come each is raised to the same. So many of them, from the first on, are taken, and so many are not free
pub record SoFar (n m1 first from held : ℕ) (p : Rec → Bool) (memory xs ys : List ℕ) (i taken reserved : ℕ) : Type 0 where
  pub same : length ys ≡ length xs
  pub taken-≤ : taken ≤ n
  pub reserved-≤ : reserved ≤ n
  pub taken_all : AtLeast taken 2 ys
  pub reserved_all : AtLeast reserved 1 ys
  pub to_come_lem : (j : ℕ) → j < n
      → max (get_or xs j 0) (slot_state_number m1 (keep p (records_from from held memory)) (first + j)) ≡ max (get_or ys j 0) (slot_state_number m1 (keep p (records_from i held memory)) (first + j))

module _ {n m1 first from held : ℕ} {p : Rec → Bool} {memory xs : List ℕ} where
  module _ {ys : List ℕ} {i taken reserved : ℕ} (s : SoFar n m1 first from held p memory xs ys i taken reserved) where
    -- some records more
    pub so_far_next : (k next : ℕ) {zs : List ℕ} → held ≤ capacity memory → next ≡ min k held → i ≤ next → length zs ≡ length ys
        → Raised n m1 (keep p (records_from i next memory)) first ys zs → SoFar n m1 first from held p memory xs zs k taken reserved
    so_far_next k next f e h same raised =
        record {
          same = same ∙ s.same;
          taken-≤ = s.taken-≤;
          reserved-≤ = s.reserved-≤;
          taken_all = record { at = λ j b. rw (raised.at j (omega (arith, s.taken-≤))) (omega (arith, s.taken_all.at j b)) };
          reserved_all = record { at = λ j b. rw (raised.at j (omega (arith, s.reserved-≤))) (omega (arith, s.reserved_all.at j b)) };
          to_come_lem = λ j b.
              let later : records_from next held memory ≡ records_from k held memory = rw e (records_from_past k held memory) in
              s.to_come_lem j b
              ∙ rw (
                records_from_parts i next held memory h (omega (arith, e)) f,
                keep_append p (records_from i next memory) (records_from next held memory),
                number_append m1 (first + j) (keep p (records_from i next memory)) (keep p (records_from next held memory)),
                raised.at j b,
                ← later,
              )
              (omega arith);
        }

    -- the slots seen to be taken and reserved counted anew
    pub so_far_seen : {taken' reserved' : ℕ} → taken' ≤ n → AtLeast taken' 2 ys → reserved' ≤ n → AtLeast reserved' 1 ys → SoFar n m1 first from held p memory xs ys i taken' reserved'
    so_far_seen tn t rn r =
        record { same = s.same; taken-≤ = tn; reserved-≤ = rn; taken_all = t; reserved_all = r; to_come_lem = s.to_come_lem }

    -- no record is left
    pub so_far_all : held ≤ i → Raised n m1 (keep p (records_from from held memory)) first xs ys
    so_far_all h =
        record { at = λ j b. sym (s.to_come_lem j b ∙ rw (to_come-none i held memory h, number-none m1 (first + j)) (omega arith)) }

    -- every slot is taken: no record changes one
    pub so_far_taken : AtLeast n 2 ys → Raised n m1 (keep p (records_from from held memory)) first xs ys
    so_far_taken t =
        record {
          at = λ j b. sym (s.to_come_lem j b ∙ omega (arith, t.at j b, number-≤ (slot_state m1 (keep p (records_from i held memory)) (first + j))));
        }
