-- What a walk hands out: the records of a sound table, in order, and then no more.
use Rattle.std.specs.Prelude.{ℕ, ◌+◌, not, List, [], ◌∷◌, take, drop, Option, Some, None}
use Rattle.std.specs.Borrow.{Bor}
use Rattle.octets.specs.Refusals.{first_of, answer}
use Rattle.record.specs.Record.{all_records}
use Rattle.record.specs.declared.Rec.{Rec}
use Rattle.sound.specs.Sound.{Channel, records, sound}
use Rattle.table.specs.declared.State.{State}
use Rattle.table.specs.Memory.{channel}
use Rattle.walk.specs.declared.View.{View}

-- ---- a walk begins

-- begun on a table that isn't sound it answers 11
abbrev pub walk_refusal : Channel → ℕ
walk_refusal m = first_of ((11, not (sound m)) ∷ [])

-- how many records it has to hand out: none where it is refused
unfoldable pub to_hand_out : Channel → ℕ
to_hand_out m = answer (walk_refusal m) m.count (λ _. 0)

-- what begin gives: the refusal, 0 for none, and the view. Refused, the view has no record to hand out
pub record Begun : Type 0 where
  pub refusal : ℕ
  pub view : View

-- the view holds the lent table, and its next record is the first
unfoldable pub begun : State → Bor (List ℕ) → Begun
begun s memory =
    record {
      refusal = walk_refusal (channel s memory.now);
      view = record { memory = memory; next = 0; count = to_hand_out (channel s memory.now) };
    }

-- ---- and goes on

-- the records that a view has yet to hand out: the first count of its memory, from the next on
unfoldable pub ahead : View → List Rec
ahead v = drop v.next (take v.count (all_records v.memory.now))

-- the first of them is handed out; where there is none, no more
unfoldable pub hands_out : List Rec → Option Rec
hands_out [] = None
hands_out (r ∷ rs) = Some r

-- the next is the one after it; where there is none, it stays
unfoldable pub next_after : List Rec → ℕ → ℕ
next_after [] next = next
next_after (r ∷ rs) next = next + 1

-- the same view with another next record
unfoldable pub placed : View → ℕ → View
placed v i = record { memory = v.memory; next = i; count = v.count }

-- what a step gives: what is handed out, and the view from there on
pub record Step : Type 0 where
  pub handed : Option Rec
  pub view : View

-- a step hands out the first record ahead, and the next is the one after it
unfoldable pub stepped : View → Step
stepped v = record { handed = hands_out (ahead v); view = placed v (next_after (ahead v) v.next) }

-- what a record asked for by its number gives: the refusal, 0 for none, and what a walk hands out at the place
pub record WalkAnswer : Type 0 where
  pub refusal : ℕ
  pub handed : Option Rec

-- record i of a sound table, or no more
unfoldable pub record_at : Channel → ℕ → WalkAnswer
record_at m i =
    answer (walk_refusal m) (record { refusal = 0; handed = hands_out (drop i (records m)) }) (λ n. record { refusal = n; handed = None })
