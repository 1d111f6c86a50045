-- `slots::judge` meets its contract: by the records so far and the holders still to come the state is the same. Assumes nothing.
use Prim.Native.Nat.{◌+◌, ◌<◌, ◌≤◌}
use native.Mathlib.Omega.{arith}
use mathlib.Core.Path.{sym, ◌∙◌}
use Rattle.sound.specs.Sound.{records}
use Rattle.slots.specs.Slots.{slot_state}
use Rattle.record.proofs.ToCome.{to_come, to_come_next, to_come-none}
use Rattle.slots.proofs.Judged.{judged-start, judged_end, judged-near, judged_next}
use Rattle.slots.proofs.judge.Goals as goal

pub loop-i-init : goal.loop-i-init
unfolding slot_state records
loop-i-init c = rw c.held_count-held.ensures.2 (judged-start _)

pub returns-then-holds-near : goal.returns-then-holds-near
returns-then-holds-near c =
    let a = c.args in
    let n = c.held_count-held in
    let load = c.load-r in
    let l : c.loop-i.i < n.result = omega arith in
    let near = judged-near a.s.m1 a.slot c.loop-i.any load.result (to_come (c.loop-i.i + 1) n.result a.memory.now) in
    let next = to_come_next c.loop-i.i n.result a.memory.now l n.ensures.1 in
    sym (c.loop-i.invariant ∙ rw (next, ← load.ensures) (near (rw (← c.holds_more-holds.ensures) c.if-holds-near.true)))

pub loop-i-preserved : goal.loop-i-preserved
loop-i-preserved c =
    let a = c.args in
    let n = c.held_count-held in
    let load = c.load-r in
    let holds = c.holds_more-holds.ensures in
    let l : c.loop-i.i < n.result = omega arith in
    let other = judged_next a.s.m1 a.slot c.loop-i.any load.result (to_come (c.loop-i.i + 1) n.result a.memory.now) in
    let next = to_come_next c.loop-i.i n.result a.memory.now l n.ensures.1 in
    c.loop-i.invariant ∙ rw (next, ← load.ensures, holds) (other (rw (← holds) c.if-holds-near.false))

pub returns-then-any : goal.returns-then-any
returns-then-any c =
    let l : c.held_count-held.result ≤ c.loop-i.i = omega arith in
    let none = to_come-none c.loop-i.i c.held_count-held.result c.args.memory.now l in
    sym (c.loop-i.invariant ∙ rw (none, judged_end, c.if-any.true))

pub returns : goal.returns
returns c =
    let l : c.held_count-held.result ≤ c.loop-i.i = omega arith in
    let none = to_come-none c.loop-i.i c.held_count-held.result c.args.memory.now l in
    sym (c.loop-i.invariant ∙ rw (none, judged_end, c.if-any.false))
