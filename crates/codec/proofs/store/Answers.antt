-- `codec::store` meets its contract: octets 1 to 3 and bits 3-1 of octet 4 are those of the variant that each arm matched. Assumes nothing.
use mathlib.Core.Path.{◌∙◌, ap}
use native.Mathlib.Nat.{div-one}
use native.Mathlib.Omega.{arith}
use Rattle.codec.specs.NineOctets.{octets1to3, bits3to1}
use Rattle.codec.proofs.store.Goals as goal

pub store_after-requires : goal.store_after-requires
store_after-requires c =
    let e = c.in-Address.is in
    (ap octets1to3 e ∙ rw div-one, ap bits3to1 e, omega arith, c.requires)

pub store_after-requires-in-NoRebroadcast : goal.store_after-requires-in-NoRebroadcast
store_after-requires-in-NoRebroadcast c =
    let e = c.in-NoRebroadcast.is in
    (ap octets1to3 e, ap bits3to1 e, omega arith, c.requires)
