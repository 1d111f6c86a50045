-- `sound::Rule::all_good` meets its contract: the records still to come say the same as the whole. Assumes nothing.
use Rattle.record.proofs.ToCome.{to_come_next}
use Rattle.sound.proofs.Rule.all_good.Goals as goal

pub returns-then-not-is_good : goal.returns-then-not-is_good
returns-then-not-is_good c =
    let n = c.held_count-i-end in
    rw (
      c.loop-i.invariant,
      to_come_next c.loop-i.i n.result c.args.memory.now c.loop-i-test.true n.ensures.1,
      ← c.load.ensures,
      ← c.is_good.ensures,
      c.if-not-is_good.true,
    )
