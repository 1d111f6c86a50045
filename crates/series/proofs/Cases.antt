-- Where seven blocks start, by computing. Assumes nothing.
use Rattle.std.proofs.Common.{refl}
use Rattle.series.specs.Claims.{Spacing}

-- the seven starts
pub spacing : Spacing
spacing = refl
