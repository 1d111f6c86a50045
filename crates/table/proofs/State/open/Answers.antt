-- `table::State::open` meets its contract: each `return` rewrites by the tests that led there. Assumes nothing.
use mathlib.Core.Path.{◌≡◌, refl, sym, ◌∙◌}
use mathlib.Core.Bool.{true, false}
use Rattle.octets.specs.Refusals.{answer}
use Rattle.codec.specs.Parameters.{m1_row, fits}
use Rattle.record.proofs.Packed.{clear_after-none}
use Rattle.sound.specs.Sound.{size_fits}
use Rattle.table.specs.Memory.{open_refusal, open_leaves}
use Rattle.table.proofs.State.open.Goals as goal

pub returns-then-not-m1_fits : goal.returns-then-not-m1_fits
unfolding open_refusal open_leaves answer
returns-then-not-m1_fits c =
    let f : fits m1_row c.args.m1 ≡ false = sym c.m1_fits.ensures ∙ c.if-not-m1_fits.true in
    let d = c.default-state.ensures in
    rw c.refused.ensures (record { told = rw f refl; state = rw (f, d.0, d.1.0, d.1.1) refl; octets = rw f refl })

pub returns-then-not-size_fits : goal.returns-then-not-size_fits
unfolding open_refusal open_leaves answer
returns-then-not-size_fits c =
    let f : fits m1_row c.args.m1 ≡ true = sym c.m1_fits.ensures ∙ c.if-not-m1_fits.false in
    let z : size_fits c.args.memory.now ≡ false = sym c.size_fits.ensures ∙ c.if-not-size_fits.true in
    let d = c.default-state.ensures in
    rw c.refused-then-not-size_fits.ensures (record { told = rw (f, z) refl; state = rw (f, z, d.0, d.1.0, d.1.1) refl; octets = rw (f, z) refl })

pub returns : goal.returns
unfolding open_refusal open_leaves answer
returns c =
    let m = c.args.memory.now in
    let f : fits m1_row c.args.m1 ≡ true = sym c.m1_fits.ensures ∙ c.if-not-m1_fits.false in
    let z : size_fits m ≡ true = sym c.size_fits.ensures ∙ c.if-not-size_fits.false in
    let d = c.default-state.ensures in
    record { told = rw (f, z) (refl, refl); state = rw (f, z, d.1.0, d.1.1) refl; octets = c.clear.ensures ∙ rw (f, z, clear_after-none m) refl }
