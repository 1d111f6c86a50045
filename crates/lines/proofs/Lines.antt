-- Laws of a group's line, and of the lines of several groups. Assumes nothing.
use Prim.Native.Nat.{ℕ, ◌+◌, ◌^◌, ◌≤◌}
use mathlib.Core.Path.{◌≡◌, sym}
use mathlib.Core.List.{List, ◌++◌}
use native.Mathlib.Numerals.{add-one}
use native.Mathlib.Omega.{arith}
use borrow.Author.Tests.{leb-false}
use lib.ListN.{length, length-append}
use Rattle.std.proofs.Common.{Ok, Err, false}
use Rattle.refusal.specs.declared.Refusal.{Refusal}
use Rattle.refusal.specs.Refusals.{number_of, Tells}
use Rattle.refusal.proofs.Numbers.{not_zero}
use Rattle.octets.specs.Octets.{AreOctets}
use Rattle.octets.proofs.Complement.{within127}
use Rattle.octets.proofs.Refusals.{answer_accepted, answer-refused, answer_elim}
use Rattle.codec.specs.declared.Destination.{Destination}
use Rattle.codec.specs.declared.Destination.TheVariants.{Address, NoRebroadcast}
use Rattle.codec.specs.declared.Block.{Block}
use Rattle.codec.specs.Steps.{Fitting}
use Rattle.codec.specs.NineOctets.{bad_address, reading}
use Rattle.codec.proofs.Tests.{read_fitting, reading_refusal_most}
use Rattle.lines.specs.Listing.{destination_text, block_line, refused_line, line, group, first_lines, longest}
use Rattle.lines.proofs.Decimal.{length-decimal}
use Rattle.lines.proofs.Signed.{length-signed_decimal}

-- ---- which line

module _ (g : List ℕ) where
  -- an accepted group has the line of its fields
  pub line-block_line : {b : Block} → Tells (Ok b) (reading g).refusal (reading g).block → line g ≡ block_line b
  unfolding line
  line-block_line t = rw t.1 (sym (answer_accepted (block_line (reading g).block) refused_line (sym t.0)))

  -- and any other that of its refusal
  pub line-refused_line : (e : Refusal) → Tells {A = Block} (Err e) (reading g).refusal (reading g).block → line g ≡ refused_line (number_of e)
  unfolding line
  line-refused_line e t =
      let z = not_zero e in
      sym (answer-refused (block_line (reading g).block) refused_line (sym t) (λ k. omega arith))

-- one group more
pub first_lines_next : (n : ℕ) (s : List ℕ) → first_lines (n + 1) s ≡ first_lines n s ++ line (group s n)
unfolding first_lines
first_lines_next n s = rw add-one

-- ---- how long they are

-- what is printed for d has at most nine
destination_text_short : (d : Destination) → bad_address d ≡ false → length (destination_text d) ≤ 9
unfolding destination_text
destination_text_short (Address d) h = omega (arith, length-decimal 8 d (omega (arith, leb-false (2 ^ 27) d h)))
destination_text_short (NoRebroadcast o1 o2 o3) h = omega arith

-- the line of fields that fit is no longer than `longest`
block_line_short : (b : Block) → Fitting b → length (block_line b) ≤ longest
unfolding block_line
block_line_short b f =
    simp length-append
    (omega (
      arith,
      destination_text_short b.d f.d_good,
      length-decimal 1 b.blg (omega (arith, f.blg_low)),
      length-decimal 2 b.roff (omega (arith, f.roff_low)),
      length-decimal 1 b.br (omega (arith, f.br_low)),
      length-decimal 2 b.bs (omega (arith, f.bs_low)),
      length-signed_decimal 2 b.bo (omega (arith, within127 b.bo f.bo_in)),
      length-decimal 0 b.bt (omega (arith, f.bt_low)),
    ))

-- nor is that of a refusal
refused_line_short : (n : ℕ) → n ≤ 6 → length (refused_line n) ≤ longest
unfolding refused_line
refused_line_short n h = simp length-append (omega (arith, length-decimal 0 n (omega arith)))

-- so no line is
pub line-longest : (g : List ℕ) → AreOctets g → length (line g) ≤ longest
unfolding line
line-longest g are =
    answer_elim (block_line (reading g).block) refused_line (λ x. length x ≤ longest) (reading g).refusal
    (λ z. block_line_short (reading g).block (read_fitting g are z))
    (λ n. refused_line_short (reading g).refusal (reading_refusal_most g))
