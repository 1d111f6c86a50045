-- What the private functions promise: the code's own steps. Nothing that a caller of the crate has to believe.
use Rattle.std.specs.Prelude.{ℕ, ◌+◌, Bool, cond, List, [], ◌∷◌, ◌++◌, map, length as len, get_or, take, drop}
use Rattle.octets.specs.Lists.{keep}
use Rattle.octets.specs.Refusals.{first_of, answer}
use Rattle.record.specs.Record.{blank, capacity, packed}
use Rattle.record.specs.declared.Rec.{Rec}
use Rattle.sound.specs.Sound.{Channel, records}
use Rattle.table.specs.declared.State.{State}
use Rattle.table.specs.Table.{held_tests}
use Rattle.table.specs.Memory.{state_of, table_of}

-- a where record i passes, b where not
abbrev pub sieved : (Rec → Bool) → List Rec → ℕ → ℕ → ℕ → ℕ
sieved p vs i a b = cond (p (get_or vs i blank)) a b

-- the first i records changed
unfoldable pub mapped : (Rec → Rec) → ℕ → List Rec → List Rec
mapped f i vs = map f (take i vs) ++ drop i vs

-- the state after a sweep to time t that keeps the records that pass
abbrev pub swept : Channel → ℕ → (Rec → Bool) → State
swept m t p = record { m1 = m.m1; now = t; count = len (keep p (records m)) }

-- the state where a record is to be added
unfoldable pub added : Channel → Rec → State
added m x =
    answer (first_of (held_tests (table_of m) x)) (record { m1 = m.m1; now = m.now; count = m.count + 1 }) (λ _. state_of m)

-- and the memory then
unfoldable pub added_memory : Channel → Rec → List ℕ
added_memory m x = answer (first_of (held_tests (table_of m) x)) (packed (capacity m.memory) (records m ++ (x ∷ []))) (λ _. m.memory)
