-- The order of d bits 27-25 and of the three octets, by computing. Assumes nothing.
use mathlib.Core.Path.{refl}
use Rattle.octets.specs.Refusals.{answer}
use Rattle.codec.specs.NineOctets.{field_tests, read_tests}
use Rattle.codec.specs.Claims.{BitOrder, OctetOrder}

-- octet 4 with one of the three bits set
pub bit_order : BitOrder
unfolding answer read_tests field_tests
bit_order = (refl, refl)

-- three different octets
pub octet_order : OctetOrder
unfolding answer read_tests field_tests
octet_order = refl
