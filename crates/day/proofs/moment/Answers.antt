-- `day::moment` meets its contract: where there is room the state's line and those of the records are put, and else nothing. Assumes nothing.
use mathlib.Core.Path.{refl, ◌∙◌}
use native.Mathlib.Omega.{arith}
use Rattle.table.specs.Memory.{channel}
use Rattle.day.proofs.Moments.{moment_shown, moment_none}
use Rattle.day.proofs.moment.Goals as goal

pub returns-then-held-text : goal.returns-then-held-text
returns-then-held-text c =
    let m = channel c.args.s c.args.memory.now in
    let held = c.held_count-held in
    let first = c.state_line-first.ensures in
    let r =
    moment_shown m c.args.text.now held.result held.ensures.1 held.ensures.2 c.if-held-text.true first.0 first.1 c.put_line-at.ensures
    c.put_records-end.ensures in
    record { value = (r.0, r.1); text_after = c.clear_from.ensures ∙ r.2 }

pub returns : goal.returns
returns c =
    let m = channel c.args.s c.args.memory.now in
    let held = c.held_count-held in
    rw (moment_none m c.args.text.now held.result held.ensures.1 held.ensures.2 c.if-held-text.false)
    (record { value = (refl, omega arith); text_after = c.clear_from-2.ensures })
