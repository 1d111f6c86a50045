-- Laws of the records that a walk has, of those ahead of a view, and of a step. Assumes nothing.
use Prim.Native.Nat.{ℕ, suc, ◌+◌, ◌<◌, ◌≤◌}
use native.Mathlib.Omega.{arith}
use mathlib.Core.Path.{◌≡◌, sym, ap, ◌∙◌}
use mathlib.Core.Bool.{true, false}
use mathlib.Core.List.{List, [], ◌∷◌}
use lib.ListN.{length as len, take, drop, get_or, drop_of_length-le}
use lib.Seq.{drop-cons, drop-drop, get_or-take, length-take-le}
use Rattle.std.proofs.Common.{Some, None}
use Rattle.octets.specs.Refusals.{answer}
use Rattle.record.specs.declared.Rec.{Rec}
use Rattle.record.specs.Record.{blank, all_records}
use Rattle.sound.specs.Sound.{Channel, sound}
use Rattle.walk.specs.declared.View.{View}
use Rattle.walk.specs.Walk.{to_hand_out, ahead, hands_out, next_after, stepped, placed}

-- ---- a walk begins

module _ (m : Channel) where
  -- on a sound table with all of its records
  pub to_hand_out-sound : sound m ≡ true → to_hand_out m ≡ m.count
  unfolding to_hand_out answer
  to_hand_out-sound h = rw h

  -- on any other with none
  pub to_hand_out_unsound : sound m ≡ false → to_hand_out m ≡ 0
  unfolding to_hand_out answer
  to_hand_out_unsound h = rw h

-- ---- what is ahead

-- among the first count of these records, from a place on: they are the first held, which are all there
module _ (rs : List Rec) (held count i : ℕ) (room : held ≤ len rs) (same : take held rs ≡ take count rs) where
  -- the record at the place, where there is one, and those behind it
  pub ahead_one : i < held → drop i (take count rs) ≡ get_or rs i blank ∷ drop (i + 1) (take count rs)
  ahead_one h =
      let inside : i < len (take held rs) = rw (length-take-le held rs room) h in
      let next : suc i ≡ i + 1 = omega arith in
      rw (← same, drop-cons (take held rs) i blank inside, get_or-take held rs i blank h, next)

  -- none where there is none
  pub ahead-none : held ≤ i → drop i (take count rs) ≡ []
  ahead-none h =
      let past : len (take held rs) ≤ i = rw (length-take-le held rs room) h in
      rw (← same) (drop_of_length-le (take held rs) past)

-- ---- a step

module _ (v : View) {r : Rec} {rs : List Rec} (e : ahead v ≡ r ∷ rs) where
  -- with a record ahead: it is handed out
  pub stepped_one : stepped v ≡ record { handed = Some r; view = placed v (v.next + 1) }
  unfolding stepped hands_out next_after
  stepped_one = rw e

  -- and the others are ahead
  pub ahead_placed : ahead (placed v (v.next + 1)) ≡ rs
  unfolding placed ahead
  ahead_placed = sym (drop-drop 1 v.next (take v.count (all_records v.memory.now))) ∙ ap (drop 1) e

-- with none ahead: no more, and the view stays
pub stepped-none : (v : View) → ahead v ≡ [] → stepped v ≡ record { handed = None; view = v }
unfolding stepped hands_out next_after placed
stepped-none v e = rw e
