-- `slotmap::is_fresh` meets its contract: by the octets where the size is right and the superframe not too long. Assumes nothing.
use mathlib.Core.Path.{sym, ◌∙◌}
use Rattle.slotmap.specs.Map.{with_map}
use Rattle.slotmap.proofs.Fresh.{sized-true, is_fresh_sized, is_fresh_short, is_fresh_failed}
use Rattle.slotmap.proofs.is_fresh.Goals as goal

pub returns-then-is_sized : goal.returns-then-is_sized
returns-then-is_sized c =
    let a = c.args in
    let x = with_map a.s a.memory.now a.map.now in
    let t = sized-true x (sym c.is_sized.ensures ∙ c.if-is_sized.true) in
    c.is_same_any.ensures ∙ is_fresh_sized x t.0 ∙ is_fresh_short x t.1

pub returns-else-is_sized : goal.returns-else-is_sized
returns-else-is_sized c =
    let a = c.args in
    c.if-is_sized.false ∙ is_fresh_failed (with_map a.s a.memory.now a.map.now) (sym c.is_sized.ensures ∙ c.if-is_sized.false)
