-- `codec::judge_fields` meets its contract: each `return` by the law for its refusal. Assumes nothing.
use mathlib.Core.Path.{◌≡◌, refl, sym, ◌∙◌}
use mathlib.Core.Bool.{false}
use mir.Syntax.{w32}
use mir.Val.{SFits}
use mir.Facts.{to_z-of_z}
use Rattle.codec.specs.declared.Block.{Block}
use Rattle.codec.specs.NineOctets.{bad_code}
use Rattle.codec.proofs.Tests.{field_3, field_4, field_5, field_6, field_0}
use Rattle.codec.proofs.judge_fields.Goals as goal
use Rattle.codec.proofs.judge_fields.Goals.{After-struct_told-1, Else-bad_code}

-- the offset fits its type, so that its bits stand for it
bo-fits : (c : After-struct_told-1) → SFits w32 c.args.b.bo
bo-fits c = record { sfits = c.struct_told-1.given.1.1.1.1.1.0.1 }

-- the block that is judged
abbrev block : (c : Else-bad_code) → Block
block c = c.args.b

-- the code is not bad
good-code : (c : Else-bad_code) → bad_code (block c).br ≡ false
good-code c = sym c.bad_code.ensures ∙ c.if-bad_code.false

pub returns-then-bad_code : goal.returns-then-bad_code
returns-then-bad_code c = sym (field_3 c.args.b (sym c.bad_code.ensures ∙ c.if-bad_code.true))

pub returns-then-roff : goal.returns-then-roff
returns-then-roff c = sym (field_4 (block (goal.at.returns-then-roff c).Else-bad_code) (good-code (goal.at.returns-then-roff c).Else-bad_code) c.if-roff.true)

pub returns-then-bs : goal.returns-then-bs
returns-then-bs c = sym (field_5 (block (goal.at.returns-then-bs c).Else-bad_code) (good-code (goal.at.returns-then-bs c).Else-bad_code) c.if-roff.false c.if-bs.true)

pub returns-then-bo : goal.returns-then-bo
returns-then-bo c =
    sym (field_6 (block (goal.at.returns-then-bo c).Else-bad_code) (good-code (goal.at.returns-then-bo c).Else-bad_code) c.if-roff.false c.if-bs.false (simp (to_z-of_z (bo-fits (goal.at.returns-then-bo c).After-struct_told-1)) at c.if-bo.true))

pub returns : goal.returns
returns c =
    (sym (field_0 (block (goal.at.returns c).Else-bad_code) (good-code (goal.at.returns c).Else-bad_code) c.if-roff.false c.if-bs.false (simp (to_z-of_z (bo-fits (goal.at.returns c).After-struct_told-1)) at c.if-bo.false)), refl)
