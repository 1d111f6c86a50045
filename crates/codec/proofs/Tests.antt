-- What the tests of reading and writing tell of the fields. Assumes nothing.
use Prim.Native.Nat.{ℕ, ◌^◌, ◌≤◌, ◌<◌}
use mathlib.Core.Path.{◌≡◌, refl, sym, ◌∙◌, ap, subst}
use mathlib.Core.Bool.{Bool, true, false, not, ◌||◌}
use mathlib.Core.List.{List, ◌∷◌, ◌++◌}
use native.Mathlib.Omega.{arith}
use borrow.Author.Tests.{eq-eqb, ne_eqb, lt-leb, lt-ltb, le-ltb, leb-false, ltb-false, eqb-true, not-false}
use lib.Dec.{eqb, leb, ltb}
use lib.ListN.{length, replicate}
use Rattle.octets.specs.Complement.{beyond127}
use Rattle.octets.specs.Octets.{AreOctets}
use Rattle.octets.specs.Refusals.{first_of, outside}
use Rattle.std.proofs.Common.{Result}
use Rattle.refusal.specs.declared.Refusal.{Refusal}
use Rattle.refusal.specs.Refusals.{number_of, Tells}
use Rattle.refusal.proofs.Numbers.{numbered}
use Rattle.octets.proofs.Refusals.{first_of_cons, first_of-zero, first_of-most, first_of_append, first_of-stop, answer-refused, answer_accepted, answer-says, Tells-answer, by_test, or_eq_false, outside-false}
use Rattle.codec.specs.declared.Block.{Block}
use Rattle.codec.specs.NineOctets.{Reading, Writing, octet, bits, no_rebroadcast, address_of, destination_of, block_of, bad_code, bad_address, misplaced, field_tests, destination_tests, read_tests, write_tests, reading, refused_reading, octets_of, writing, refused_writing}
use Rattle.codec.specs.Steps.{Fitting}

-- ---- the refusal by the tests that led to it

module _ (s : List ℕ) where
  -- 1 where there are not nine octets
  pub read_1 : (length s ≡ 9 → ⊥) → 1 ≡ first_of (read_tests s)
  unfolding read_tests
  read_1 h = simp (ne_eqb _ _ h)

  -- 2 where the extended ID is another
  pub read_2 : length s ≡ 9 → (bits 8 4 (octet 9 s) ≡ 2 → ⊥) → 2 ≡ first_of (read_tests s)
  unfolding read_tests
  read_2 l h = simp (eq-eqb _ _ l, ne_eqb _ _ h)

  -- else what the fields call for
  pub read_fields : length s ≡ 9 → bits 8 4 (octet 9 s) ≡ 2 → first_of (field_tests (block_of s)) ≡ first_of (read_tests s)
  unfolding read_tests
  read_fields l h = simp (eq-eqb _ _ l, eq-eqb _ _ h)

-- which of 3, 4, 5, 6 the fields call for
module _ (b : Block) where
  pub field_3 : bad_code b.br ≡ true → 3 ≡ first_of (field_tests b)
  unfolding field_tests
  field_3 k = simp k

  module _ (k : bad_code b.br ≡ false) where
    pub field_4 : outside 2 255 b.roff ≡ true → 4 ≡ first_of (field_tests b)
    unfolding field_tests
    field_4 r = simp (k, r)

    module _ (r : outside 2 255 b.roff ≡ false) where
      pub field_5 : outside 2 255 b.bs ≡ true → 5 ≡ first_of (field_tests b)
      unfolding field_tests
      field_5 l = simp (k, r, l)

      module _ (l : outside 2 255 b.bs ≡ false) where
        pub field_6 : beyond127 b.bo ≡ true → 6 ≡ first_of (field_tests b)
        unfolding field_tests
        field_6 o = simp (k, r, l, o)

        pub field_0 : beyond127 b.bo ≡ false → 0 ≡ first_of (field_tests b)
        unfolding field_tests
        field_0 o = simp (k, r, l, o)

-- an octet is too low for a field from 2 on, or fits it
module _ (n : ℕ) where
  -- below 2 it is outside
  pub octet_low : n < 2 → outside 2 255 n ≡ true
  octet_low h = simp (lt-ltb n 2 h)

  -- from 2 on it is not
  pub octet_inside : 2 ≤ n → n < 256 → outside 2 255 n ≡ false
  octet_inside l h = simp (le-ltb n 2 l, le-ltb 255 n (omega arith))

-- where d, blg and bt fit
module _ (b : Block) (d : bad_address b.d ≡ false) (blg-bt : (ltb 31 b.blg || ltb 3 b.bt) ≡ false) where
  -- writing is refused for what reading is, and then for a destination that is misplaced
  write_rest : first_of (field_tests b ++ destination_tests b) ≡ first_of (write_tests b)
  unfolding write_tests
  write_rest = simp (d, blg-bt)

  -- so a refusal of the fields comes first
  pub write_fields : (first_of (field_tests b) ≡ 0 → ⊥) → first_of (field_tests b) ≡ first_of (write_tests b)
  write_fields n = sym (first_of-stop (field_tests b) (destination_tests b) n) ∙ write_rest

  -- and where they call for none, the destination tells
  pub write_destination : first_of (field_tests b) ≡ 0 → first_of (destination_tests b) ≡ first_of (write_tests b)
  unfolding field_tests
  write_destination z = sym (first_of_append (field_tests b) (destination_tests b) refl z) ∙ write_rest

-- ---- the refusal that an answer says

-- a reading says its refusal
pub reading_refusal : (s : List ℕ) → (reading s).refusal ≡ first_of (read_tests s)
reading_refusal s = answer-says _ refused_reading (λ (x : Reading). x.refusal) refl (λ n. refl) (first_of (read_tests s))

-- no reading is refused above 6
pub reading_refusal_most : (s : List ℕ) → (reading s).refusal ≤ 6
unfolding read_tests field_tests
reading_refusal_most s = rw (reading_refusal s) (first_of-most 6 (read_tests s) refl)

-- a writing says its refusal
pub writing_refusal : (b : Block) → (writing b).refusal ≡ first_of (write_tests b)
writing_refusal b = answer-says _ refused_writing (λ (x : Writing). x.refusal) refl (λ n. refl) (first_of (write_tests b))

-- ---- what results tell

-- what a result tells of the tests of reading and the fields, it tells of the reading
pub tells_reading : (s : List ℕ) (r : Result Block Refusal) → Tells r (first_of (read_tests s)) (block_of s)
    → Tells r (reading s).refusal (reading s).block
tells_reading s r h = Tells-answer _ refused_reading (λ (x : Reading). x.refusal) (λ (x : Reading). x.block) refl (λ n. refl) r (first_of (read_tests s)) h

-- and so of a writing
pub tells_writing : (b : Block) (r : Result (List ℕ) Refusal) → Tells r (first_of (write_tests b)) (octets_of b)
    → Tells r (writing b).refusal (writing b).octets
tells_writing b r h = Tells-answer _ refused_writing (λ (x : Writing). x.refusal) (λ (x : Writing). x.octets) refl (λ n. refl) r (first_of (write_tests b)) h

-- one that is refused gives nine zeros
pub zeros_written : (b : Block) (e : Refusal) → first_of (write_tests b) ≡ number_of e → replicate 9 0 ≡ (writing b).octets
zeros_written b e h = ap (λ (x : Writing). x.octets) (answer-refused _ refused_writing {n = number_of e} (sym h) (numbered e))

-- ---- what is not refused

-- fields that are written fit their bits, and the destination is not misplaced
pub write_passed : (b : Block) → first_of (write_tests b) ≡ 0 → Fitting b × (first_of (field_tests b) ≡ 0) × (misplaced b.d b.roff b.bs ≡ false)
unfolding write_tests field_tests
write_passed b h =
    let nine : ℕ × Bool = (9, ltb 31 b.blg || ltb 3 b.bt) in
    let p8 = first_of_cons (8, bad_address b.d) (nine ∷ field_tests b ++ destination_tests b) refl h in
    let p9 = first_of_cons nine (field_tests b ++ destination_tests b) p8.1 p8.2 in
    let f = first_of-zero (field_tests b ++ destination_tests b) refl p9.2 in
    let blg-bt = or_eq_false (ltb 31 b.blg) (ltb 3 b.bt) p9.0 in (
      record {
        d_good = p8.0;
        blg_low = ltb-false 31 b.blg blg-bt.0;
        roff_low = (outside-false 2 255 b.roff f.1.0).1;
        br_low = omega (arith, leb-false 14 b.br (or_eq_false (eqb b.br 7) (leb 14 b.br) f.0).1);
        bs_low = (outside-false 2 255 b.bs f.1.1.0).1;
        bo_in = f.1.1.1.0;
        bt_low = ltb-false 3 b.bt blg-bt.1;
      },
      sym (field_0 b f.0 f.1.0 f.1.1.0 f.1.1.1.0),
      f.1.1.1.1.0,
    )

-- octets that are read are nine, with the right extended ID and good fields
pub read_passed : (s : List ℕ) → first_of (read_tests s) ≡ 0
    → (length s ≡ 9) × (bits 8 4 (octet 9 s) ≡ 2) × (first_of (field_tests (block_of s)) ≡ 0)
unfolding read_tests field_tests
read_passed s h =
    let two : ℕ × Bool = (2, not (eqb (bits 8 4 (octet 9 s)) 2)) in
    let p1 = first_of_cons (1, not (eqb (length s) 9)) (two ∷ field_tests (block_of s)) refl h in
    let p2 = first_of_cons two (field_tests (block_of s)) p1.1 p1.2 in
    (eqb-true _ _ (not-false _ p1.0), eqb-true _ _ (not-false _ p2.0), p2.2)

-- the address of octets has 27 bits
destination_of-good : (s : List ℕ) → AreOctets s → bad_address (destination_of s) ≡ false
destination_of-good s are =
    let d = address_of (octet 1 s) (octet 2 s) (octet 3 s) (octet 4 s) in
    let low : d < 2 ^ 27 = omega (arith, are 0, are 1, are 2) in
    by_test (no_rebroadcast (octet 5 s) (octet 7 s)) (λ e. simp e) (λ e. rw e (lt-leb (2 ^ 27) d low))

-- their destination is the one that roff and bs call for
pub destination_of-placed : (s : List ℕ) → misplaced (destination_of s) (octet 5 s) (octet 7 s) ≡ false
destination_of-placed s = by_test (no_rebroadcast (octet 5 s) (octet 7 s)) (λ e. simp e) (λ e. simp e)

-- the fields of octets fit again
pub block_fitting : (s : List ℕ) → AreOctets s → first_of (field_tests (block_of s)) ≡ 0 → Fitting (block_of s)
unfolding field_tests
block_fitting s are h =
    record {
      d_good = destination_of-good s are;
      blg_low = omega arith;
      roff_low = omega (arith, are 4);
      br_low = omega arith;
      bs_low = omega (arith, are 6);
      bo_in = (first_of-zero (field_tests (block_of s)) refl h).1.1.1.0;
      bt_low = omega arith;
    }

-- and so do those of an accepted reading
pub read_fitting : (s : List ℕ) → AreOctets s → (reading s).refusal ≡ 0 → Fitting (reading s).block
read_fitting s are h =
    let r = sym h ∙ reading_refusal s in
    subst (λ (x : Reading). Fitting x.block) (answer_accepted _ refused_reading r) (block_fitting s are (read_passed s (sym r)).2)
