-- The table as a machine over records, without octets: what the calls do to a sound table.
use Rattle.std.specs.Prelude.{ℕ, ◌≤◌, ◌≡◌, true, length as len}
use Rattle.octets.specs.Lists.{every}
use Rattle.octets.specs.Refusals.{first_of, answer, within}
use Rattle.codec.specs.Parameters.{m1_row, fits}
use Rattle.sound.specs.Sound.{good}
use Rattle.table.specs.Table.{Table, Said, Call, call_tests, changed, reported}
use Rattle.trace.specs.Machine.{Machine}

-- what soundness asks, over records
pub record Sound (t : Table) : Type 0 where
  pub m1_fits : fits m1_row t.m1 ≡ true
  pub capacity_fits : within 1 2048 t.capacity ≡ true
  pub now_most : t.now ≤ 1_000_000_000
  pub room : len t.records ≤ t.capacity
  pub all_good : every (good t.m1 t.now) t.records ≡ true

-- the first refusal that applies on a sound table: 11 is not among them
abbrev pub refusal_on : Table → Call → ℕ
refusal_on t c = first_of (call_tests t c)

-- the table that a call leaves
unfoldable pub left_on : Table → Call → Table
left_on t c = answer (refusal_on t c) (changed t c) (λ _. t)

-- its answer
unfoldable pub said_on : Table → Call → Said
said_on t c = record { refusal = refusal_on t c; number = answer (refusal_on t c) (reported t c) (λ _. 0) }

-- the two as a machine: each call gets the records that the last one left
abbrev pub on_records : Machine Table Call Said
on_records = record { leaves = left_on; says = said_on }
