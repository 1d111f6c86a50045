-- The log records of document 02, No. 2 and No. 4: what 24 octets ask for, and what that call says and leaves.
use Rattle.std.specs.Prelude.{ℕ, cond, List, [], ◌∷◌, Option, Some, None, eqb, length as len}
use Rattle.octets.specs.Octets.{number_at, zeros}
use Rattle.octets.specs.Complement.{signed_of}
use Rattle.distance.specs.declared.Distance.{Distance}
use Rattle.distance.specs.declared.Distance.TheVariants.{Unknown, Range}
use Rattle.distance.specs.Distances.{num}
use Rattle.sound.specs.Sound.{Channel}
use Rattle.table.specs.Table.{Said, Call, clock, reserve, distance, wipe}
use Rattle.table.specs.Memory.{leaves, says}
use Rattle.daylog.specs.declared.LogRecord.{LogRecord}
use Rattle.daylog.specs.declared.LoggedCall.{LoggedCall}
use Rattle.daylog.specs.declared.LoggedCall.TheVariants.{Clock, Reserve, SetDistance, Wipe}

-- ---- the layout

-- operation, rate, superframes, length (1 each), station (4), slot or bs (4), distance (4), reuse limit (4), bo (1), three zeros; little-endian
unfoldable pub log_record_of : List ℕ → LogRecord
log_record_of o =
    record {
      operation = number_at 1 o 0;
      rate = number_at 1 o 1;
      superframes = number_at 1 o 2;
      length = number_at 1 o 3;
      station = number_at 4 o 4;
      slot = number_at 4 o 8;
      distance = number_at 4 o 12;
      limit = number_at 4 o 16;
      bo = number_at 1 o 20;
      closing = number_at 3 o 21;
    }

-- a distance in whole miles, all ones for unknown
abbrev pub in_miles : ℕ → Distance
in_miles n = cond (eqb n 0xFFFF_FFFF) Unknown (Range (num n))

-- ---- what a log record asks for

-- a call, where the fields that it does not use are 0
abbrev pub where_zero : List ℕ → LoggedCall → Option LoggedCall
where_zero unused call = cond (zeros unused) (Some call) None

-- clock: the slot is used
abbrev pub clock_in : LogRecord → Option LoggedCall
clock_in r =
    where_zero (r.rate ∷ r.superframes ∷ r.length ∷ r.bo ∷ r.station ∷ r.distance ∷ r.limit ∷ r.closing ∷ []) (Clock r.slot)

-- reserve: all are used, bs in the slot's place, bo in two's complement
abbrev pub reserve_in : LogRecord → Option LoggedCall
reserve_in r =
    where_zero (r.closing ∷ [])
    (Reserve
    (record {
      station = r.station;
      rate = r.rate;
      superframes = r.superframes;
      bs = r.slot;
      length = r.length;
      bo = signed_of r.bo;
      distance = in_miles r.distance;
      limit = num r.limit;
    }))

-- distance: the station, the distance and the limit are used
abbrev pub distance_in : LogRecord → Option LoggedCall
distance_in r =
    where_zero (r.rate ∷ r.superframes ∷ r.length ∷ r.bo ∷ r.slot ∷ r.closing ∷ [])
    (SetDistance r.station (in_miles r.distance) (num r.limit))

-- wipe: the station is used
abbrev pub wipe_in : LogRecord → Option LoggedCall
wipe_in r =
    where_zero (r.rate ∷ r.superframes ∷ r.length ∷ r.bo ∷ r.slot ∷ r.distance ∷ r.limit ∷ r.closing ∷ []) (Wipe r.station)

-- by the operation: 1 clock, 2 reserve, 3 distance, 4 wipe; another is no call
abbrev pub by_operation : LogRecord → Option LoggedCall
by_operation r =
    cond (eqb r.operation 1) (clock_in r)
    (cond (eqb r.operation 2) (reserve_in r)
    (cond (eqb r.operation 3) (distance_in r)
    (cond (eqb r.operation 4) (wipe_in r)
    None)))

-- the call in any octets: a log record has 24
unfoldable pub call_in : List ℕ → Option LoggedCall
call_in o = cond (eqb (len o) 24) (by_operation (log_record_of o)) None

-- ---- a log record applied to a table

-- what follows from the call in a log record; where there is none, `none`
abbrev pub by_call : {A : Type 0} → Option LoggedCall → (Call → A) → A → A
by_call (Some (Clock slot)) follows none = follows (clock slot)
by_call (Some (Reserve q)) follows none = follows (reserve q)
by_call (Some (SetDistance s d limit)) follows none = follows (distance s d limit)
by_call (Some (Wipe s)) follows none = follows (wipe s)
by_call None follows none = none

-- its answer: the call's; where there is none 23, before any table check
unfoldable pub entry_says : Channel → List ℕ → Said
entry_says m o = by_call (call_in o) (says m) (record { refusal = 23; number = 0 })

-- the octets and the state that it leaves: what the call leaves; a 23 changes nothing
unfoldable pub entry_leaves : Channel → List ℕ → Channel
entry_leaves m o = by_call (call_in o) (leaves m) m
