-- A block that goes to a C host and comes back. Assumes nothing.
use mathlib.Core.Path.{◌≡◌, refl}
use Rattle.codec.specs.declared.Destination.{Destination}
use Rattle.codec.specs.declared.Destination.TheVariants.{Address, NoRebroadcast}
use Rattle.gemthatch.specs.OverC.{host_kind, host_address, host_information, destination_from}
use Rattle.gemthatch.specs.Claims.{BlockHandedBack}

-- its destination does
handed_back : (d : Destination) → destination_from (host_kind d) (host_address d) (host_information d) ≡ d
handed_back (Address d) = refl
handed_back (NoRebroadcast o1 o2 o3) = refl

-- and so does all of it
pub block_handed_back : BlockHandedBack
block_handed_back b = rw (handed_back b.d)
