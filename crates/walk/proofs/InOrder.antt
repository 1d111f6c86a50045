-- A walk hands out the records of a sound table, in order, and then no more; and nothing of any other. Assumes nothing.
use Prim.Native.Nat.{ℕ, zero, suc, ◌+◌}
use native.Mathlib.Nat.{zero-add, suc-add}
use native.Mathlib.Omega.{arith}
use mathlib.Core.Path.{◌≡◌, refl, sym, ap, ◌∙◌}
use mathlib.Core.Bool.{true, false}
use mathlib.Core.List.{List, [], ◌∷◌, ◌++◌, map}
use lib.ListN.{length as len, drop, replicate}
use lib.Seq.{drop-nil, drop-drop}
use denote.Ref.{Bor}
use Rattle.std.proofs.Common.{Option, Some, None}
use Rattle.refusal.specs.declared.Refusal.{Refusal}
use Rattle.refusal.specs.Refusals.{number_of}
use Rattle.refusal.proofs.Numbers.{not_zero}
use Rattle.octets.specs.Lists.{from}
use Rattle.octets.specs.Refusals.{answer}
use Rattle.octets.proofs.Refusals.{by_test}
use Rattle.record.specs.declared.Rec.{Rec}
use Rattle.sound.specs.Sound.{Channel, records, sound}
use Rattle.table.specs.declared.State.{State}
use Rattle.table.specs.Memory.{channel}
use Rattle.walk.specs.declared.View.{View}
use Rattle.walk.specs.Walk.{WalkAnswer, begun, ahead, hands_out, placed, stepped, record_at}
use Rattle.walk.specs.Claims.{handed_out, AllInOrder, NothingUnsound, RecordWalked, ByNumber}
use Rattle.walk.proofs.Ahead.{to_hand_out-sound, to_hand_out_unsound, stepped_one, ahead_placed, stepped-none}

-- with none ahead a view says "no more" for ever
handed_none : (n : ℕ) (v : View) → ahead v ≡ [] → handed_out n v ≡ replicate n None
handed_none zero v e = refl
handed_none (suc n) v e = rw (stepped-none v e, handed_none n v e)

-- a view hands out the records ahead of it, and then no more
handed_ahead : (rs : List Rec) (n : ℕ) (v : View) → ahead v ≡ rs → handed_out (len rs + n) v ≡ map Some rs ++ replicate n None
handed_ahead [] n v e = rw zero-add (handed_none n v e)
handed_ahead (r ∷ rs) n v e = rw (suc-add, stepped_one v e, handed_ahead rs n (placed v (v.next + 1)) (ahead_placed v e))

module _ (s : State) (memory : Bor (List ℕ)) where
  -- all records of a sound table are ahead of the view that a walk begins with
  ahead-sound : sound (channel s memory.now) ≡ true → ahead (begun s memory).view ≡ records (channel s memory.now)
  unfolding begun ahead records
  ahead-sound h = rw (to_hand_out-sound (channel s memory.now) h)

  -- and none of any other's
  ahead_unsound : sound (channel s memory.now) ≡ false → ahead (begun s memory).view ≡ []
  unfolding begun ahead
  ahead_unsound h = rw (to_hand_out_unsound (channel s memory.now) h)

  -- what a walk hands out once it stands at a place, beside its refusal
  abbrev pub walked : ℕ → WalkAnswer
  walked i = record { refusal = (begun s memory).refusal; handed = (stepped (placed (begun s memory).view i)).handed }

  -- that is what record_at gives
  pub record_at-walked : (i : ℕ) → walked i ≡ record_at (channel s memory.now) i
  unfolding begun ahead hands_out placed stepped record_at records answer
  record_at-walked i =
      by_test (sound (channel s memory.now))
      (λ h. rw (to_hand_out-sound (channel s memory.now) h, h))
      (λ h. rw (to_hand_out_unsound (channel s memory.now) h, h, drop-nil i))

-- and refused it gives no record
pub record_at-refused : (m : Channel) (i : ℕ) (e : Refusal) → (record_at m i).refusal ≡ number_of e → (record_at m i).handed ≡ None
unfolding record_at answer
record_at-refused m i e h =
    by_test (sound m)
    (λ t.
    let z = not_zero e in
    let n : 0 ≡ number_of e = rw t at h in
    absurd (omega arith))
    (λ f. rw f)

-- ---- by number

-- what is handed out of these records at each of the n places from i on
abbrev handed_from : List Rec → ℕ → ℕ → List (Option Rec)
handed_from all i n = map (λ k. hands_out (drop k all)) (from i n)

module _ (all : List Rec) where
  -- from a place on where there is none, no more for ever
  from-none : (n i : ℕ) → drop i all ≡ [] → handed_from all i n ≡ replicate n None
  unfolding hands_out
  from-none zero i e = refl
  from-none (suc n) i e = rw (e, from-none n (i + 1) (sym (drop-drop 1 i all) ∙ ap (drop 1) e))

  -- from any place on, the records from there on, and then no more
  from-ahead : (rs : List Rec) (n i : ℕ) → drop i all ≡ rs → handed_from all i (len rs + n) ≡ map Some rs ++ replicate n None
  unfolding hands_out
  from-ahead [] n i e = rw zero-add (from-none n i e)
  from-ahead (r ∷ rs) n i e = rw (suc-add, e, from-ahead rs n (i + 1) (sym (drop-drop 1 i all) ∙ ap (drop 1) e))

-- ---- the claims

pub all_in_order : AllInOrder
unfolding begun
all_in_order s memory n h =
    let m = channel s memory.now in
    (rw h, handed_ahead (records m) n (begun s memory).view (ahead-sound s memory h))

pub nothing_unsound : NothingUnsound
unfolding begun
nothing_unsound s memory n h =
    let m = channel s memory.now in
    (rw h, handed_none n (begun s memory).view (ahead_unsound s memory h))

pub record_walked : RecordWalked
record_walked s memory i = ap (λ (a : WalkAnswer). a.handed) (sym (record_at-walked s memory i))

pub by_number : ByNumber
unfolding record_at answer
by_number m n h = rw h (from-ahead (records m) (records m) n 0 refl)
