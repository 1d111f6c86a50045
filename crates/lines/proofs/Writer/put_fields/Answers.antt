-- `lines::Writer::put_fields` meets its contract: seven texts one after another; bo's bits stand for it. Assumes nothing.
use Prim.Native.Nat.{ℕ, ◌+◌, ◌≤◌}
use mathlib.Core.Path.{◌≡◌, ap}
use mathlib.Core.List.{List, [], ◌∷◌, ◌++◌, append_assoc}
use native.Mathlib.Omega.{arith}
use borrow.Author.Rules.{rules}
use lib.ListN.{length, length-append}
use lib.IntN.{ℤ}
use mir.Syntax.{w32}
use mir.Facts.{to_z-of_z}
use Rattle.codec.specs.declared.Block.{Block}
use Rattle.lines.specs.declared.Writer.{Writer}
use Rattle.lines.specs.Text.{signed_decimal}
use Rattle.lines.specs.Listing.{destination_text, block_line}
use Rattle.lines.specs.Steps.{Room, field}
use Rattle.lines.proofs.Wrote.{put_then}
use Rattle.lines.proofs.Writer.put_fields.Goals as goal

-- a signed number, and a space
abbrev signed-field : ℤ → List ℕ
signed-field z = signed_decimal z ++ (32 ∷ [])

-- a block's line is these seven texts
seven : (b : Block)
    → block_line b
    ≡ (destination_text b.d ++ (32 ∷ [])) ++ field b.blg 32 ++ field b.roff 32 ++ field b.br 32 ++ field b.bs 32 ++ signed-field b.bo ++ field b.bt 10
unfolding block_line
seven b = simp append_assoc

-- there is room for them together
all_fit : (w : Writer) (b : Block) → Room w (block_line b)
    → w.at + length (destination_text b.d ++ (32 ∷ [])) + length (field b.blg 32) + length (field b.roff 32) + length (field b.br 32) + length (field b.bs 32)
    + length (signed-field b.bo) + length (field b.bt 10) ≤ length w.octets.now
unfolding block_line
all_fit w b h = simp length-append (omega (arith, simp length-append at h.room))

pub put_destination-requires : goal.put_destination-requires
put_destination-requires c = record { room = omega (arith, all_fit _ _ c.requires) }

pub put_field-requires : goal.put_field-requires
put_field-requires c = record { room = omega (arith, all_fit _ _ c.requires) }

pub put_field-requires-2 : goal.put_field-requires-2
put_field-requires-2 c = record { room = omega (arith, all_fit _ _ c.requires) }

pub put_field-requires-3 : goal.put_field-requires-3
put_field-requires-3 c = record { room = omega (arith, all_fit _ _ c.requires) }

pub put_field-requires-4 : goal.put_field-requires-4
put_field-requires-4 c = record { room = omega (arith, all_fit _ _ c.requires) }

pub put_signed-requires : goal.put_signed-requires
put_signed-requires c =
    rw (to_z-of_z {w = w32} {z = c.args.b.bo} (search rules))
    (record { room = omega (arith, all_fit _ _ c.requires) })

pub put_field-requires-5 : goal.put_field-requires-5
put_field-requires-5 c =
    let e = ap (λ z. length (signed-field z)) (to_z-of_z {w = w32} {z = c.args.b.bo} (search rules)) in
    record { room = omega (arith, e, all_fit _ _ c.requires) }

pub returns : goal.returns
returns c =
    let w2 = put_then c.put_destination.ensures c.put_field.ensures in
    let w3 = put_then w2 c.put_field-2.ensures in
    let w4 = put_then w3 c.put_field-3.ensures in
    let w5 = put_then w4 c.put_field-4.ensures in
    let w6 = put_then w5 (rw (to_z-of_z {w = w32} {z = c.args.b.bo} (search rules)) at c.put_signed.ensures) in
    rw seven (put_then w6 c.put_field-5.ensures)
