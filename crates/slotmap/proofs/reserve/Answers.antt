-- `slotmap::reserve` meets its contract: on a fresh map, it is raised by the record that is added. Assumes nothing.
use mathlib.Core.Path.{◌≡◌, sym, ◌∙◌}
use mathlib.Core.Bool.{true, and-eq-true_iff}
use lib.Dec.{leb}
use Rattle.std.proofs.lemmas.Result.{err_from_is_err_and}
use Rattle.table.specs.Table.{reserve}
use Rattle.slotmap.specs.Map.{with_map, is_fresh}
use Rattle.slotmap.proofs.Fresh.{is_fresh-true, is_fresh-size, is_fresh-sound}
use Rattle.slotmap.proofs.Given.{stale_gives, fresh_gives, fresh_gives-refused}
use Rattle.slotmap.proofs.Kept.{reserve_left, reserve_fits}
use Rattle.slotmap.proofs.reserve.Goals as goal
use Rattle.slotmap.proofs.reserve.Goals.{Else-not-is_fresh}

-- the map is fresh
fresh : (t : Else-not-is_fresh) → is_fresh (let a = t.args in with_map a.s.now a.memory.now a.map.now) ≡ true
fresh t =
    let a = t.args in
    let x = with_map a.s.now a.memory.now a.map.now in
    ((and-eq-true_iff (leb x.channel.m1 15360) (is_fresh x)).0 (sym t.is_fresh.ensures ∙ t.if-not-is_fresh.false)).1

pub returns-then-not-is_fresh : goal.returns-then-not-is_fresh
returns-then-not-is_fresh c =
    let a = c.args in
    let x = with_map a.s.now a.memory.now a.map.now in
    stale_gives x (reserve a.q) c.stale.ensures (λ h. sym (is_fresh-sound x h) ∙ sym c.is_fresh.ensures ∙ c.if-not-is_fresh.true)

pub returns-in_err-reported : goal.returns-in_err-reported
returns-in_err-reported c =
    let a = c.args in
    let p = err_from_is_err_and c.from_residual.result c.from_residual.ensures.1 in
    rw (p.1, p.2)
    (fresh_gives-refused (with_map a.s.now a.memory.now a.map.now) (reserve a.q) (fresh (goal.at.returns-in_err-reported c).Else-not-is_fresh) _ (rw c.in_err-reported.was at c.reserve-said.ensures))

pub mark_over-requires : goal.mark_over-requires
mark_over-requires c =
    let a = c.args in
    let x = with_map a.s.now a.memory.now a.map.now in
    let size = is_fresh-size x (fresh (goal.at.mark_over-requires c).Else-not-is_fresh) in
    let fits = reserve_fits x.channel a.map.now size a.q (rw c.in_ok-reported.was at c.reserve-said.ensures) in
    record { room = fits.0; most = fits.1 }

pub returns : goal.returns
returns c =
    let a = c.args in
    let x = with_map a.s.now a.memory.now a.map.now in
    let h = fresh (goal.at.returns c).Else-not-is_fresh in
    let g = rw c.in_ok-reported.was at c.reserve-said.ensures in
    fresh_gives x (reserve a.q) h g (c.mark_over.ensures ∙ reserve_left x.channel a.map.now (is_fresh-size x h) a.q g (is_fresh-true x h))
