-- `octets::twos` meets its contract: within -127..127 it is the octet of the number's bits. Assumes nothing.
use mathlib.Core.Path.{◌≡◌, sym, ◌∙◌}
use mathlib.Core.Bool.{false}
use mir.Facts.{to_z-of_z, of_z-to_z}
use Rattle.octets.specs.Complement.{beyond127, octet_of}
use Rattle.octets.proofs.Complement.{of_z-twos_of, twos_octet, octet_of-within}
use Rattle.octets.proofs.twos.Goals as goal

pub returns-then-z : goal.returns-then-z
unfolding octet_of
returns-then-z c = simp (simp (to_z-of_z c.ranges.z) at c.if-z.true)

pub returns : goal.returns
returns c =
    let z = c.args.z in
    let w : beyond127 z ≡ false = simp (to_z-of_z c.ranges.z) at c.if-z.false in
    c.cast_unsigned.ensures ∙ rw (to_z-of_z c.ranges.z, of_z-twos_of z w) (of_z-to_z (twos_octet z w)) ∙ sym (octet_of-within z w)
