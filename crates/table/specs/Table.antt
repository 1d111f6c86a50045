-- The papers' table over records: of each call what it is refused for, what it changes, what it reports.
use Rattle.std.specs.Prelude.{ℕ, ◌+◌, ◌^◌, Bool, true, false, cond, not, ◌&&◌, ◌||◌, List, [], ◌∷◌, ◌++◌, map, leb, ltb, eqb, Float, length as len}
use Rattle.octets.specs.Lists.{keep, has}
use Rattle.octets.specs.Refusals.{outside}
use Rattle.octets.specs.Complement.{beyond127, octet_of}
use Rattle.distance.specs.declared.Distance.{Distance}
use Rattle.distance.specs.Distances.{is_far, limit_fits}
use Rattle.record.specs.declared.Rec.{Rec}
use Rattle.record.specs.Record.{three_zeros}
use Rattle.series.specs.Series.{further_before}
use Rattle.sound.specs.Sound.{lasts}
use Rattle.table.specs.declared.Request.{Request}

-- M1, now, the capacity, and the records
pub record Table : Type 0 where
  pub m1 : ℕ
  pub now : ℕ
  pub capacity : ℕ
  pub records : List Rec

-- an answer is the refusal number, 0 when accepted, and the number reported
pub record Said : Type 0 where
  pub refusal : ℕ
  pub number : ℕ

-- the calls on an opened table. `look f` is a slot state or a search: it changes nothing, and answers what f makes of the table
pub data Call : Type 0 where
  clock : ℕ → Call
  reserve : Request → Call
  distance : ℕ → Distance → Float → Call
  wipe : ℕ → Call
  look : (Table → Said) → Call

-- a slot state or a search, which leave all as it was
abbrev pub is_look : Call → Bool
is_look (clock slot) = false
is_look (reserve q) = false
is_look (distance s d limit) = false
is_look (wipe s) = false
is_look (look f) = true

-- ---- what the calls do with records

-- far, as a record holds it
abbrev pub far_octet : Bool → ℕ
far_octet far = cond far 1 0

-- the record that a reserve adds: first = now + bs
abbrev pub new_record : ℕ → Request → Rec
new_record now q =
    record {
      station = q.station;
      first = now + q.bs;
      rate = q.rate;
      superframes = q.superframes;
      length = q.length;
      far = far_octet (is_far q.distance q.limit);
      bo = octet_of q.bo;
      zeros = three_zeros;
    }

-- same station, first, rate, superframes, length, bo
unfoldable pub same : Rec → Rec → Bool
same a b =
    eqb a.station b.station
    && eqb a.first b.first
    && eqb a.rate b.rate
    && eqb a.superframes b.superframes
    && eqb a.length b.length
    && eqb a.bo b.bo

-- the station's own
abbrev pub owned_by : ℕ → Rec → Bool
owned_by s r = eqb r.station s

-- far rewritten, if the record is the station's
abbrev pub set_far : ℕ → ℕ → Rec → Rec
set_far s far r =
    record {
      station = r.station;
      first = r.first;
      rate = r.rate;
      superframes = r.superframes;
      length = r.length;
      far = cond (owned_by s r) far r.far;
      bo = r.bo;
      zeros = r.zeros;
    }

-- ---- the calls on a sound table; 11 comes before all of these refusals

-- clock, or slot asked about: 12 behind now, 13 above 1,000,000,000
abbrev pub time_tests : Table → ℕ → List (ℕ × Bool)
time_tests t slot = (12, ltb slot t.now) ∷ (13, ltb 1_000_000_000 slot) ∷ []

-- a reserve by its numbers: 8, 14, 15, 9, 5, 6, 24 where the further series would begin before now, 18
abbrev pub request_tests : ℕ → ℕ → Request → List (ℕ × Bool)
request_tests m1 now q =
    (8, leb (2 ^ 27) q.station)
    ∷ (14, outside 1 60 q.rate)
    ∷ (15, eqb q.superframes 0)
    ∷ (9, ltb 3 q.superframes || outside 1 32 q.length)
    ∷ (5, outside 2 255 q.bs)
    ∷ (6, beyond127 q.bo)
    ∷ (24, further_before m1 (new_record now q) now)
    ∷ (18, not (limit_fits q.limit))
    ∷ []

-- and by the records held: 16 already held, 17 count equals capacity
abbrev pub held_tests : Table → Rec → List (ℕ × Bool)
held_tests t r = (16, has (same r) t.records) ∷ (17, eqb (len t.records) t.capacity) ∷ []

-- what a call is refused for, in order
abbrev pub call_tests : Table → Call → List (ℕ × Bool)
call_tests t (clock slot) = time_tests t slot
call_tests t (reserve q) = request_tests t.m1 t.now q ++ held_tests t (new_record t.now q)
call_tests t (distance s d limit) = (8, leb (2 ^ 27) s) ∷ (18, not (limit_fits limit)) ∷ []
call_tests t (wipe s) = (8, leb (2 ^ 27) s) ∷ []
call_tests t (look f) = ((f t).refusal, not (eqb (f t).refusal 0)) ∷ []

-- the table with other records
abbrev pub with_records : Table → List Rec → Table
with_records t rs = record { m1 = t.m1; now = t.now; capacity = t.capacity; records = rs }

-- the table that an accepted call leaves
abbrev pub changed : Table → Call → Table
changed t (clock slot) =
    record { m1 = t.m1; now = slot; capacity = t.capacity; records = keep (lasts t.m1 slot) t.records }
changed t (reserve q) = with_records t (t.records ++ (new_record t.now q ∷ []))
changed t (distance s d limit) = with_records t (map (set_far s (far_octet (is_far d limit))) t.records)
changed t (wipe s) = with_records t (keep (λ r. not (owned_by s r)) t.records)
changed t (look f) = t

-- the number that an accepted call reports: dropped, 0, held, removed
abbrev pub reported : Table → Call → ℕ
reported t (clock slot) = len (keep (λ r. not (lasts t.m1 slot r)) t.records)
reported t (reserve q) = 0
reported t (distance s d limit) = len (keep (owned_by s) t.records)
reported t (wipe s) = len (keep (owned_by s) t.records)
reported t (look f) = (f t).number
