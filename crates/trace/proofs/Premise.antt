-- Demand 3 does not hold without its premise: over octets the case is what it is over records, and that by computing. Assumes nothing.
use native.Mathlib.Omega.{arith}
use mathlib.Core.Path.{◌≡◌, refl, ap}
use mathlib.Core.Bool.{true}
use mathlib.Core.List.{List, [], ◌∷◌}
use lib.Ieee.{of_int, le}
use Rattle.octets.specs.Refusals.{answer}
use Rattle.octets.specs.Complement.{octet_of}
use Rattle.codec.specs.Parameters.{m1_row, fits}
use Rattle.series.specs.Series.{further_before}
use Rattle.table.specs.Table.{Call, reserve, wipe, same}
use Rattle.table.specs.Memory.{channel_of, leaves}
use Rattle.trace.specs.Machine.{runs}
use Rattle.trace.specs.Sequences.{on_octets, without, only}
use Rattle.trace.specs.Records.{left_on, on_records}
use Rattle.trace.specs.Claims.{one_slot, opened_for_one, PremiseNeeded}
use Rattle.trace.proofs.Machine.{runs-good}
use Rattle.trace.proofs.Written.{leaves-channel_of, refined, empty, room_for_one-sound, room_for_one-runs}

-- the calls of both stations
abbrev both : List Call
both = reserve (one_slot 1) ∷ reserve (one_slot 2) ∷ []

-- M1 fits
fit : fits m1_row 4500 ≡ true
unfolding fits
fit = refl

-- both stations' calls and the wipe leave none
none_left : (leaves (runs on_octets opened_for_one both) (wipe 1)).count ≡ 0
unfolding left_on answer octet_of further_before of_int le same channel_of
none_left =
    let t = empty 4500 1 in
    rw (room_for_one-runs 4500 fit both, leaves-channel_of (runs on_records t both) (runs-good refined t both (room_for_one-sound 4500 fit)) (wipe 1))

-- station 2's alone leave one
one_left : (runs on_octets opened_for_one (without (only 1) both)).count ≡ 1
unfolding left_on answer octet_of further_before of_int le channel_of
one_left = rw (room_for_one-runs 4500 fit (reserve (one_slot 2) ∷ []))

pub premise_needed : PremiseNeeded
premise_needed e =
    let same_count = ap (λ u. u.count) e in
    omega (arith, none_left, one_left)
