-- `table::State::distance` meets its contract: what it is refused for, and else the records changed in place. Assumes nothing.
use native.Mathlib.Omega.{arith}
use mathlib.Core.Path.{sym, ◌∙◌, ap}
use borrow.Author.Tests.{le-leb, lt-leb}
use Rattle.refusal.specs.declared.Refusal.TheVariants.{Address, Limit}
use Rattle.record.proofs.Packed.{packed-map}
use Rattle.sound.specs.Sound.{records}
use Rattle.sound.proofs.Sound.{sound_parts}
use Rattle.table.specs.Table.{distance, owned_by, set_far, far_octet}
use Rattle.table.specs.Memory.{channel}
use Rattle.table.specs.Steps.{mapped}
use Rattle.table.proofs.Memory.{length_kept}
use Rattle.table.proofs.Calls.{far_byte, unsound_gives, tested_gives, distance_gives}
use Rattle.table.proofs.State.distance.Goals as goal

pub returns-then-not-is_sound : goal.returns-then-not-is_sound
returns-then-not-is_sound c =
    rw c.refused.ensures
    (unsound_gives (channel c.args.self c.args.memory.now) (distance c.args.station c.args.d c.args.limit) (sym c.is_sound.ensures ∙ c.if-not-is_sound.true))

pub returns-then-station-ge134217728 : goal.returns-then-station-ge134217728
returns-then-station-ge134217728 c =
    rw c.refused-then-station-ge134217728.ensures
    (tested_gives (channel c.args.self c.args.memory.now) (distance c.args.station c.args.d c.args.limit) (sym c.is_sound.ensures ∙ c.if-not-is_sound.false) Address
    (rw (le-leb _ _ c.if-station-ge134217728.true)))

pub returns-then-not-limit_fits : goal.returns-then-not-limit_fits
returns-then-not-limit_fits c =
    rw c.refused-then-not-limit_fits.ensures
    (tested_gives (channel c.args.self c.args.memory.now) (distance c.args.station c.args.d c.args.limit) (sym c.is_sound.ensures ∙ c.if-not-is_sound.false) Limit
    (rw (lt-leb _ _ c.if-station-ge134217728.false, sym c.limit_fits.ensures ∙ c.if-not-limit_fits.true)))

pub mark_all-k-requires : goal.mark_all-k-requires
mark_all-k-requires c = (sound_parts (channel c.args.self c.args.memory.now) (sym c.is_sound.ensures ∙ c.if-not-is_sound.false)).room

pub overflow_cast-said : goal.overflow_cast-said
unfolding records
overflow_cast-said c =
    let m = channel c.args.self c.args.memory.now in
    let k = sound_parts m (sym c.is_sound.ensures ∙ c.if-not-is_sound.false) in
    omega (arith, c.mark_all-k.ensures.number, length_kept m k (owned_by c.args.station), k.room, k.capacity-most)

pub returns : goal.returns
unfolding records mapped
returns c =
    let a = c.args in
    let m = channel a.self a.memory.now in
    let h = sym c.is_sound.ensures ∙ c.if-not-is_sound.false in
    let k = sound_parts m h in
    let far = c.from-far.result in
    let mark = c.mark_all-k in
    let w = packed-map m.memory m.count (λ i. (c.slice_known-1.given i).fits) k.whole-records k.room k.clear (set_far a.station far) mark.new.memory (λ i. (c.type_inv.memory i).fits) mark.auto.memory mark.ensures.left in
    distance_gives m a.station a.d a.limit h (rw (lt-leb _ _ c.if-station-ge134217728.false, sym c.limit_fits.ensures ∙ c.if-not-limit_fits.false)) mark.result far mark.new.memory mark.ensures.number (c.from-far.ensures ∙ far_byte c.far.result ∙ ap far_octet c.far.ensures) w
