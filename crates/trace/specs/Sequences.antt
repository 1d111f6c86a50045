-- Sequences of table calls: the table as a machine, whose calls they are, and what it is for some to leave no trace.
use Rattle.std.specs.Prelude.{ℕ, ◌≡◌, Bool, true, false, not, ◌&&◌, List, eqb}
use Rattle.octets.specs.Lists.{keep, every}
use Rattle.sound.specs.Sound.{Channel}
use Rattle.table.specs.declared.State.{State}
use Rattle.table.specs.Table.{Said, Call, clock, reserve, distance, wipe, look}
use Rattle.table.specs.Memory.{channel, leaves, says, Gives}
use Rattle.trace.specs.Machine.{Machine, runs, transcript, Made}

-- ---- the table in lent memory

-- each call gets the memory and the state that the last one left
abbrev pub on_octets : Machine Channel Call Said
on_octets = record { leaves = leaves; says = says }

-- A real call: the function returned and left what it promises, and no more is known. It said what the result says, and left the
-- state with the octets. (A slot state or a search is lent memory that it cannot change, and is given the state by value: here it
-- leaves the one it was given.)
pub record Called (m : Channel) (c : Call) (w : Said) (n : Channel) : Type 0 where
  pub state : State
  pub octets : List ℕ
  pub promised : Gives m c w state octets
  pub left : n ≡ channel state octets

-- ---- whose calls they are

-- a reserve, distance or wipe that names a station of the set
abbrev pub names : (ℕ → Bool) → Call → Bool
names set (clock slot) = false
names set (reserve q) = set q.station
names set (distance s d limit) = set s
names set (wipe s) = set s
names set (look f) = false

-- the set of A alone
abbrev pub only : ℕ → ℕ → Bool
only A s = eqb s A

-- the set of the others
abbrev pub others : (ℕ → Bool) → ℕ → Bool
others set s = not (set s)

-- a reserve
abbrev pub is_reserve : Call → Bool
is_reserve (clock slot) = false
is_reserve (reserve q) = true
is_reserve (distance s d limit) = false
is_reserve (wipe s) = false
is_reserve (look f) = false

-- the sequence without the calls of the stations that go
abbrev pub without : (ℕ → Bool) → List Call → List Call
without gone cs = keep (λ c. not (names gone c)) cs

-- the reserves, distances and wipes of the other stations, each with its answer
abbrev pub others_told : (ℕ → Bool) → List (Call × Said) → List (Call × Said)
others_told gone es = keep (λ e. names (others gone) e.0) es

-- no other station's reservation refused because the table was full
abbrev pub others_had_room : (ℕ → Bool) → Call × Said → Bool
others_had_room gone e = not (is_reserve e.0 && names (others gone) e.0 && eqb e.1.refusal 17)

-- ---- no trace, of any machine that takes these calls

-- Take any sequence of calls from s on in which no other station's reservation was refused because the table was full. Wipe station A at
-- the end. All is left as by the same sequence without A's calls. Every reserve, distance and wipe answer given to other stations is the
-- same in both.
abbrev pub WithoutTrace : {S : Type 0} → Machine S Call Said → S → ℕ → Type 0
WithoutTrace k s A =
    (cs : List Call) → every (others_had_room (only A)) (transcript k s cs) ≡ true
    → (k.leaves (runs k s cs) (wipe A) ≡ runs k s (without (only A) cs))
    × (others_told (only A) (transcript k s cs) ≡ others_told (only A) (transcript k s (without (only A) cs)))

-- The same of real calls, of which nothing is known but a promise: the sequence, and then a wipe of A that leaves v; and, from the same
-- state, the sequence without A's calls.
abbrev pub MadeWithoutTrace : {S : Type 0} → (S → Call → Said → S → Type 0) → S → ℕ → Type 0
MadeWithoutTrace {S} P s A =
    (cs : List Call) (t u v : S) (es fs : List (Call × Said)) (w : Said) → Made P s cs t es → P t (wipe A) w v → Made P s (without (only A) cs) u fs
    → every (others_had_room (only A)) es ≡ true
    → (v ≡ u) × (others_told (only A) es ≡ others_told (only A) fs)
