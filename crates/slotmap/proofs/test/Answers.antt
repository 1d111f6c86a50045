-- `slotmap::test` meets its contract: 25 where the table is sound and the map is not fresh. Assumes nothing.
use mathlib.Core.Path.{◌≡◌, refl, sym, ◌∙◌}
use mathlib.Core.Bool.{true}
use Rattle.sound.specs.Sound.{sound}
use Rattle.slotmap.specs.Map.{with_map}
use Rattle.slotmap.proofs.Fresh.{is_fresh-sound}
use Rattle.slotmap.proofs.test.Goals as goal

pub returns-then-not-is_fresh : goal.returns-then-not-is_fresh
returns-then-not-is_fresh c =
    let a = c.args in
    let x = with_map a.s a.memory.now a.map.now in
    let s : sound x.channel ≡ true = sym c.is_sound.ensures ∙ c.if-not-is_sound.false in
    rw (s, sym (c.is_fresh.ensures ∙ is_fresh-sound x s) ∙ c.if-not-is_fresh.true)

pub returns : goal.returns
returns c =
    let a = c.args in
    let x = with_map a.s a.memory.now a.map.now in
    let s : sound x.channel ≡ true = sym c.is_sound.ensures ∙ c.if-not-is_sound.false in
    (rw (s, sym (c.is_fresh.ensures ∙ is_fresh-sound x s) ∙ c.if-not-is_fresh.false), refl)
