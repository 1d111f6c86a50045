-- The further series in signed numbers. omega does not read ℤ, so each law turns a fact of ℤ into one of ℕ. Assumes nothing.
use Rattle.std.proofs.Common.{◌≡◌, ℕ, zero, suc, ◌+◌, ◌-◌, ◌<◌, ◌≤◌, Bool, true, false, ◌&&◌, ltb, pos, negsuc, ◌+ℤ◌, sym, refl, ap, zero-le, add_comm, arith, ltb-false, ltb-true, le-ltb, lt-ltb}
use native.Mathlib.Nat.{sub-zero}
use mathlib.Core.Path.{fun_ext}
use lib.IntN.{sub_ℕ, +ℤ_assoc, +ℤ_comm}
use lib.Signed.{lt_z}
use Rattle.octets.specs.Complement.{lifted}
use Rattle.octets.proofs.Complement.{lifted-signed_of}
use Rattle.record.specs.declared.Rec.{Rec}
use Rattle.series.specs.Series.{some_below, start, in_block, in_series, has_further, further_from, further_before, in_further}
use Rattle.series.specs.Claims.{signed_start, in_signed_block, FurtherSigned, BeforeSigned}
use Rattle.series.proofs.Tests.{ltb-same, leb-not}

-- ---- a difference of two numbers

-- a number more
sub_more : (n a b : ℕ) → pos n +ℤ sub_ℕ a b ≡ sub_ℕ (n + a) b
sub_more n a zero = simp (le-ltb a 0 zero-le, le-ltb (n + a) 0 zero-le, sub-zero)
sub_more n a (suc b) = sym (+ℤ_assoc (pos n) (pos a) (negsuc b))

module _ (a b slot : ℕ) where
  -- a slot is below it
  sub_above : lt_z (pos slot) (sub_ℕ a b) ≡ ltb (slot + b) a
  sub_above = go (ltb a b) refl
    where
      go : (t : Bool) → t ≡ ltb a b → lt_z (pos slot) (sub_ℕ a b) ≡ ltb (slot + b) a
      go true e = let l : a < b = ltb-true a b (sym e) in simp (← e) (sym (le-ltb (slot + b) a (omega arith)))
      go false e = let l : b ≤ a = ltb-false a b (sym e) in simp (← e) (ltb-same slot (a - b) (slot + b) a (λ h. omega arith) (λ h. omega arith))

  -- it is below a slot
  sub-below : lt_z (sub_ℕ a b) (pos slot) ≡ ltb a (slot + b)
  sub-below = go (ltb a b) refl
    where
      go : (t : Bool) → t ≡ ltb a b → lt_z (sub_ℕ a b) (pos slot) ≡ ltb a (slot + b)
      go true e = let l : a < b = ltb-true a b (sym e) in simp (← e) (sym (lt-ltb a (slot + b) (omega arith)))
      go false e = let l : b ≤ a = ltb-false a b (sym e) in simp (← e) (ltb-same (a - b) slot a (slot + b) (λ h. omega arith) (λ h. omega arith))

-- a block that starts at it holds these slots
sub_block : (a b length slot : ℕ) → in_block a length (slot + b) ≡ in_signed_block (sub_ℕ a b) length slot
unfolding in_block
sub_block a b length slot =
    rw (+ℤ_comm (sub_ℕ a b) (pos length), sub_more length a b, sub_above a b slot, sub_above (length + a) b slot, leb-not, add_comm a length)

-- ---- the further series

-- where a block of it starts is lifted by 128
signed_start_lem : (m1 : ℕ) (r : Rec) → r.bo < 256 → (j : ℕ) → signed_start m1 r j ≡ sub_ℕ (start m1 r (further_from m1 r) 0 j) 128
signed_start_lem m1 r h j =
    let e : start m1 r r.first r.superframes j + lifted r.bo ≡ start m1 r (further_from m1 r) 0 j = omega arith in
    rw (← lifted-signed_of r.bo h, sub_more (start m1 r r.first r.superframes j) (lifted r.bo) 128, e)

-- its blocks' slots are those of the signed blocks
pub further_signed : FurtherSigned
unfolding in_further in_series some_below
further_signed m1 r slot h =
    ap (λ (p : ℕ → Bool). has_further r && some_below r.rate p)
    (fun_ext (λ j. rw (signed_start_lem m1 r h j) (sub_block (start m1 r (further_from m1 r) 0 j) 128 r.length slot)))

-- it begins where block 0 does
pub before_signed : BeforeSigned
unfolding further_before
before_signed m1 r slot h =
    let e : start m1 r (further_from m1 r) 0 0 ≡ further_from m1 r = omega arith in
    rw (signed_start_lem m1 r h 0, sub-below (start m1 r (further_from m1 r) 0 0) 128 slot, e)
