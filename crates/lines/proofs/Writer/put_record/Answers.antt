-- `lines::Writer::put_record` meets its contract: seven texts one after another. Assumes nothing.
use Prim.Native.Nat.{ℕ, ◌+◌, ◌≤◌}
use mathlib.Core.Path.{◌≡◌, ◌∙◌}
use mathlib.Core.List.{List, [], ◌∷◌, ◌++◌, append_assoc}
use native.Mathlib.Omega.{arith}
use borrow.Author.Rules.{rules}
use lib.ListN.{length, length-append}
use mir.Syntax.{w32}
use mir.Facts.{to_z-of_z}
use Rattle.octets.specs.Complement.{signed_of}
use Rattle.record.specs.declared.Rec.{Rec}
use Rattle.lines.specs.declared.Writer.{Writer}
use Rattle.lines.specs.Text.{signed_decimal}
use Rattle.lines.specs.Day.{record_line}
use Rattle.lines.specs.Steps.{Room, field}
use Rattle.lines.proofs.Wrote.{put_then}
use Rattle.lines.proofs.Writer.put_record.Goals as goal

-- a record's line from each of its fields on
abbrev from-far : Rec → List ℕ
from-far r = field r.far 32 ++ (signed_decimal (signed_of r.bo) ++ (10 ∷ []))

abbrev from-length : Rec → List ℕ
from-length r = field r.length 32 ++ from-far r

abbrev from-superframes : Rec → List ℕ
from-superframes r = field r.superframes 32 ++ from-length r

abbrev from-rate : Rec → List ℕ
from-rate r = field r.rate 32 ++ from-superframes r

abbrev from_first : Rec → List ℕ
from_first r = field r.first 32 ++ from-rate r

-- the whole line is these seven texts
seven : (r : Rec) → record_line r ≡ field r.station 32 ++ from_first r
unfolding record_line
seven r = simp append_assoc

-- there is room for them together
all_fit : (w : Writer) (r : Rec) → Room w (record_line r)
    → w.at + length (field r.station 32) + length (field r.first 32) + length (field r.rate 32) + length (field r.superframes 32) + length (field r.length 32) + length (field r.far 32)
    + length (signed_decimal (signed_of r.bo) ++ (10 ∷ [])) ≤ length w.octets.now
unfolding record_line
all_fit w r h = simp length-append (omega (arith, simp length-append at h.room))

pub put_field-requires : goal.put_field-requires
put_field-requires c = record { room = grind (arith, all_fit _ _ c.requires) }

pub put_field-requires-2 : goal.put_field-requires-2
put_field-requires-2 c = record { room = grind (arith, all_fit _ _ c.requires) }

pub put_field-requires-3 : goal.put_field-requires-3
put_field-requires-3 c = record { room = grind (arith, all_fit _ _ c.requires) }

pub put_field-requires-4 : goal.put_field-requires-4
put_field-requires-4 c = record { room = grind (arith, all_fit _ _ c.requires) }

pub put_field-requires-5 : goal.put_field-requires-5
put_field-requires-5 c = record { room = grind (arith, all_fit _ _ c.requires) }

pub put_field-requires-6 : goal.put_field-requires-6
put_field-requires-6 c = record { room = grind (arith, all_fit _ _ c.requires) }

pub put_signed-requires : goal.put_signed-requires
put_signed-requires c =
    let e = to_z-of_z {w = w32} {z = c.signed.result} (search rules) ∙ c.signed.ensures in
    rw e (record { room = grind (arith, all_fit _ _ c.requires) })

pub returns : goal.returns
returns c =
    let e = to_z-of_z {w = w32} {z = c.signed.result} (search rules) ∙ c.signed.ensures in
    let w6 = put_then (rw c.from-4.ensures at c.put_field-6.ensures) (rw e at c.put_signed.ensures) in
    let w5 = put_then (rw c.from-3.ensures at c.put_field-5.ensures) w6 in
    let w4 = put_then (rw c.from-2.ensures at c.put_field-4.ensures) w5 in
    let w3 = put_then (rw c.from.ensures at c.put_field-3.ensures) w4 in
    let w2 = put_then c.put_field-2.ensures w3 in
    rw seven (put_then c.put_field.ensures w2)
