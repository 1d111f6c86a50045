-- The records that a part takes are the part. Assumes nothing.
use mathlib.Core.Path.{◌≡◌, refl}
use mathlib.Core.Bool.{true}
use mathlib.Core.List.{List, [], ◌∷◌}
use lib.ListN.{drop}
use Rattle.octets.specs.Lists.{keep}
use Rattle.record.specs.declared.Rec.{Rec}
use Rattle.slots.specs.declared.Part.{Part}
use Rattle.slots.specs.declared.Part.TheVariants.{All, From, Own, Others}
use Rattle.slots.specs.Window.{part_of}
use Rattle.slots.specs.Steps.{begins_at, takes}

-- all are kept by what all pass
keep-all : (rs : List Rec) → keep (λ r. true) rs ≡ rs
keep-all [] = refl
keep-all (r ∷ rs) = rw (keep-all rs)

-- the records that a part takes are the part
pub taken_part : (part : Part) (rs : List Rec) → keep (takes part) (drop (begins_at part) rs) ≡ part_of part rs
taken_part All rs = keep-all rs
taken_part (From k) rs = keep-all (drop k rs)
taken_part (Own s) rs = refl
taken_part (Others s) rs = refl
