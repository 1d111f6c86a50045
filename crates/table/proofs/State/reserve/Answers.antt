-- `table::State::reserve` meets its contract: what its numbers are refused for, and else what `add` answers. Assumes nothing.
use native.Mathlib.Omega.{arith}
use mathlib.Core.Path.{sym, ◌∙◌}
use mir.Syntax.{w32}
use mir.Val.{SFits}
use mir.Facts.{to_z-of_z}
use Rattle.sound.proofs.Sound.{sound_parts}
use Rattle.table.specs.Table.{reserve}
use Rattle.table.specs.Memory.{channel}
use Rattle.table.proofs.Calls.{far_byte, unsound_gives, request_passed, request-refused, request_given}
use Rattle.table.proofs.State.reserve.Goals as goal
use Rattle.table.proofs.State.reserve.Goals.{After-struct_told-1}

-- bo fits its type, so that its bits stand for it
bo-fits : (c : After-struct_told-1) → SFits w32 c.args.q.bo
bo-fits c = record { sfits = c.type_inv.q.1.1.1.1.1.0.1 }

pub returns-then-not-is_sound : goal.returns-then-not-is_sound
returns-then-not-is_sound c =
    rw c.refused.ensures (unsound_gives (channel c.args.self c.args.memory.now) (reserve c.args.q) (sym c.is_sound.ensures ∙ c.if-not-is_sound.true))

pub returns-in-Err : goal.returns-in-Err
returns-in-Err c =
    rw c.refused-in-Err.ensures
    (request-refused (channel c.args.self c.args.memory.now) c.args.q (sym c.is_sound.ensures ∙ c.if-not-is_sound.false) c.in-Err.refusal c.in-Err.ensures)

pub overflow_add-x : goal.overflow_add-x
overflow_add-x c =
    let s = c.args.self in
    let r = request_passed s.m1 s.now c.args.q c.in_default.ensures.0 in
    omega (arith, r.bs_most, (sound_parts (channel s c.args.memory.now) (sym c.is_sound.ensures ∙ c.if-not-is_sound.false)).now_most)

pub returns : goal.returns
returns c =
    let e = c.add.ensures in
    rw c.and-said.ensures
    (request_given (channel c.args.self c.args.memory.now) c.args.q (sym c.is_sound.ensures ∙ c.if-not-is_sound.false) c.in_default.ensures.0 c.add.result e.told e.state e.memory
    (rw (c.from.ensures, far_byte c.far.result, c.far.ensures, c.twos.ensures, to_z-of_z (bo-fits (goal.at.returns c).After-struct_told-1))))
