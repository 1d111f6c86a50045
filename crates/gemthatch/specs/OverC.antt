-- What goes over C: a block with its destination's kind as a number, the state as three numbers, a call's answer as one, and a search's list as octets.
use Rattle.std.specs.Prelude.{ℕ, ◌+◌, ◌/◌, cond, List, [], ◌∷◌, ◌++◌, Option, Some, None, eqb, Float, ℤ, get_or}
use Rattle.octets.specs.Octets.{little, holds_only}
use Rattle.octets.specs.Refusals.{answer}
use Rattle.codec.specs.declared.Destination.{Destination}
use Rattle.codec.specs.declared.Destination.TheVariants.{Address, NoRebroadcast}
use Rattle.codec.specs.declared.Block.{Block}
use Rattle.codec.specs.NineOctets.{Reading, Writing}
use Rattle.distance.specs.Distances.{distance_of}
use Rattle.record.specs.declared.Rec.{Rec}
use Rattle.record.specs.Record.{blank}
use Rattle.sound.specs.Sound.{Channel}
use Rattle.table.specs.declared.Request.{Request}
use Rattle.table.specs.Table.{Call}
use Rattle.table.specs.Memory.{channel}
use Rattle.slots.specs.Slots.{slot_answer, slot_said}
use Rattle.slotmap.specs.Map.{Mapped, with_map, map_says, map_entry_says}
use Rattle.walk.specs.Walk.{record_at}
use Rattle.search.specs.declared.Query.{Query}
use Rattle.search.specs.Search.{found, searched}
use Rattle.gemthatch.specs.declared.HostBlock.{HostBlock}
use Rattle.gemthatch.specs.declared.HostReading.{HostReading}
use Rattle.gemthatch.specs.declared.HostWriting.{HostWriting}
use Rattle.gemthatch.specs.declared.Place.{Place}

-- the number reported, the slot's state or the number found; refused, 2,000,000,000 plus the refusal's number
unfoldable pub over_c : ℕ → ℕ → ℕ
over_c refusal number = answer refusal number (λ n. 2_000_000_000 + n)

-- ---- a block

-- the kind of a destination: 0 an address, 1 no re-broadcast
abbrev pub host_kind : Destination → ℕ
host_kind (Address d) = 0
host_kind (NoRebroadcast o1 o2 o3) = 1

-- its address, 0 where it has none
abbrev pub host_address : Destination → ℕ
host_address (Address d) = d
host_address (NoRebroadcast o1 o2 o3) = 0

-- its three octets, 0 where it has none
abbrev pub host_information : Destination → List ℕ
host_information (Address d) = 0 ∷ 0 ∷ 0 ∷ []
host_information (NoRebroadcast o1 o2 o3) = o1 ∷ o2 ∷ o3 ∷ []

-- a block as a C host has it
abbrev pub host_block : Block → HostBlock
host_block b =
    record {
      destination = host_kind b.d;
      d = host_address b.d;
      information = host_information b.d;
      blg = b.blg;
      roff = b.roff;
      br = b.br;
      bs = b.bs;
      bo = b.bo;
      bt = b.bt;
    }

-- a reading as a C host has it
abbrev pub host_reading : Reading → HostReading
host_reading r = record { refusal = r.refusal; block = host_block r.block }

-- a writing as a C host has it
abbrev pub host_writing : Writing → HostWriting
host_writing w = record { refusal = w.refusal; octets = w.octets }

-- what C hands over as a kind, an address and three octets: 1 is no re-broadcast, any other an address; what the kind doesn't use is ignored
abbrev pub destination_from : ℕ → ℕ → List ℕ → Destination
destination_from kind d information =
    cond (eqb kind 1) (NoRebroadcast (get_or information 0 0) (get_or information 1 0) (get_or information 2 0)) (Address d)

-- the block that a C host hands over
abbrev pub block_from : HostBlock → Block
block_from h =
    record {
      d = destination_from h.destination h.d h.information;
      blg = h.blg;
      roff = h.roff;
      br = h.br;
      bs = h.bs;
      bo = h.bo;
      bt = h.bt;
    }

-- ---- what a call takes

-- the state as three numbers, and the octets lent with it
abbrev pub lent : ℕ → ℕ → ℕ → List ℕ → Channel
lent m1 now count b = channel (record { m1 = m1; now = now; count = count }) b

-- and the map beside them
abbrev pub lent_map : ℕ → ℕ → ℕ → List ℕ → List ℕ → Mapped
lent_map m1 now count b p = with_map (record { m1 = m1; now = now; count = count }) b p

-- what a reserve asks for, its distance as a kind and two numbers
abbrev pub request : ℕ → ℕ → ℕ → ℕ → ℕ → ℤ → ℕ → Float → Float → Float → Request
request station rate superframes bs length bo kind a b limit =
    record {
      station = station;
      rate = rate;
      superframes = superframes;
      bs = bs;
      length = length;
      bo = bo;
      distance = distance_of kind a b;
      limit = limit;
    }

-- what a search asks for
abbrev pub query : ℕ → ℕ → ℕ → ℕ → Query
query lo hi length wanted = record { lo = lo; hi = hi; length = length; wanted = wanted }

-- ---- what it returns

-- clock, reserve, distance and wipe
unfoldable pub call_number : Mapped → Call → ℕ
call_number x c = over_c (map_says x c).refusal (map_says x c).number

-- the step of a log record
unfoldable pub entry_number : Mapped → List ℕ → ℕ
entry_number x o = over_c (map_entry_says x o).refusal (map_entry_says x o).number

-- the slot state: 0 free, 1 reusable, 2 taken
unfoldable pub slot_number : Channel → ℕ → ℕ
slot_number m slot = over_c (slot_said (slot_answer m slot)).refusal (slot_said (slot_answer m slot)).number

-- the search, with a list of so many octets: its length is their number over four
unfoldable pub search_number : Mapped → Query → ℕ → ℕ
search_number x q octets = over_c (searched x q (octets / 4)).refusal (searched x q (octets / 4)).number

-- ---- the search's list

-- numbers as octets, four to each, little-endian
abbrev pub in_octets : List ℕ → List ℕ
in_octets [] = []
in_octets (n ∷ ns) = little 4 n ++ in_octets ns

-- the list afterwards: the starts found, and all the rest is 0
unfoldable pub search_list : Mapped → Query → ℕ → List ℕ
search_list x q octets = holds_only octets (in_octets (found x q (octets / 4)))

-- ---- the walk

-- what is handed out: how many records, and the record; where there is no more, all 0
abbrev pub place : ℕ → Option Rec → Place
place refusal (Some r) = record { refusal = refusal; handed = 1; rec = r }
place refusal None = record { refusal = refusal; handed = 0; rec = blank }

-- record i of a table, or no more
unfoldable pub place_at : Channel → ℕ → Place
place_at m i = place (record_at m i).refusal (record_at m i).handed
