-- `slotmap::open` meets its contract: a map of the right size goes with the table; else each refusal by its tests. Assumes nothing.
use Prim.Native.Nat.{ℕ}
use mathlib.Core.Path.{◌≡◌, refl, sym, ap, ◌∙◌}
use mathlib.Core.Bool.{true, false}
use lib.ListN.{length, replicate}
use native.Mathlib.Omega.{arith}
use borrow.Author.Tests.{ne_eqb}
use Rattle.std.proofs.lemmas.Result.{err_from_is_err_and}
use Rattle.refusal.proofs.Numbers.{not_zero}
use Rattle.octets.specs.Refusals.{answer}
use Rattle.codec.specs.Parameters.{m1_row, fits}
use Rattle.sound.specs.Sound.{size_fits}
use Rattle.slotmap.specs.Map.{open_map_refusal, open_map_leaves}
use Rattle.slotmap.proofs.Given.{sized_gives}
use Rattle.slotmap.proofs.open.Goals as goal

pub returns-in_err-said : goal.returns-in_err-said
returns-in_err-said c =
    let a = c.args in
    let p = err_from_is_err_and c.from_residual.result c.from_residual.ensures.1 in
    let g = rw c.in_err-said.was at c.open-said.ensures in
    rw (p.1, p.2)
    (sized_gives a.m1 a.memory.now a.map.now c.if-map-m1.true g
    (λ z. absurd (omega (arith, not_zero c.in_err-said.field-0.0, g.told, z)))
    (λ _. refl))

pub returns-then-map-m1 : goal.returns-then-map-m1
returns-then-map-m1 c =
    let a = c.args in
    let e = c.if-map-m1.true in
    let g = rw c.in_ok-said.was at c.open-said.ensures in
    sized_gives a.m1 a.memory.now a.map.now e g
    (λ _. c.fill.ensures.after (λ y h. h) ∙ ap (λ (k : ℕ). replicate k 0) e)
    (λ n. absurd (n g.told.0))

pub returns-then-not-m1_fits : goal.returns-then-not-m1_fits
unfolding open_map_refusal open_map_leaves answer
returns-then-not-m1_fits c =
    let f : fits m1_row c.args.m1 ≡ false = sym c.m1_fits.ensures ∙ c.if-not-m1_fits.true in
    let d = c.default.ensures in
    record { told = rw f refl; state = rw (f, d.0, d.1.0, d.1.1) refl; octets = rw f refl; left = rw f refl }

pub returns-then-not-size_fits : goal.returns-then-not-size_fits
unfolding open_map_refusal open_map_leaves answer
returns-then-not-size_fits c =
    let a = c.args in
    let f : fits m1_row a.m1 ≡ true = sym c.m1_fits.ensures ∙ c.if-not-m1_fits.false in
    let z : size_fits a.memory.now ≡ false = sym c.size_fits.ensures ∙ c.if-not-size_fits.true in
    let d = c.default.ensures in
    record { told = rw (f, z) refl; state = rw (f, z, d.0, d.1.0, d.1.1) refl; octets = rw (f, z) refl; left = rw (f, z) refl }

pub returns : goal.returns
unfolding open_map_refusal open_map_leaves answer
returns c =
    let a = c.args in
    let f : fits m1_row a.m1 ≡ true = sym c.m1_fits.ensures ∙ c.if-not-m1_fits.false in
    let z : size_fits a.memory.now ≡ true = sym c.size_fits.ensures ∙ c.if-not-size_fits.false in
    let n = ne_eqb (length a.map.now) a.m1 c.if-map-m1.false in
    let d = c.default.ensures in
    record { told = rw (f, z, n) refl; state = rw (f, z, n, d.0, d.1.0, d.1.1) refl; octets = rw (f, z, n) refl; left = rw (f, z, n) refl }
