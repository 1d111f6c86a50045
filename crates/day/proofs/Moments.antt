-- The lines of a table: those of its records, and its own before them. Assumes nothing.
use Prim.Native.Nat.{ℕ, ◌+◌, ◌*◌, ◌/◌, ◌≤◌, ◌<◌}
use mathlib.Core.Path.{◌≡◌}
use mathlib.Core.List.{List, [], map-append}
use native.Mathlib.Numerals.{add-one}
use native.Mathlib.Omega.{arith}
use lib.ListN.{length as len, get_or, take}
use lib.Seq.{take-suc, length-take-le}
use borrow.Author.Tests.{le-leb, lt-leb}
use Rattle.octets.specs.Octets.{zero_from, holds_only}
use Rattle.record.specs.declared.Rec.{Rec}
use Rattle.record.specs.Record.{blank, capacity, all_records}
use Rattle.record.proofs.Images.{length-all_records}
use Rattle.sound.specs.Sound.{Channel, records}
use Rattle.lines.specs.Day.{state_line, record_line, line_room}
use Rattle.lines.specs.Steps.{Wrote}
use Rattle.lines.proofs.Wrote.{and_then, start_wiped}
use Rattle.day.specs.Day.{moment_in}
use Rattle.day.specs.Steps.{Shown}
use Rattle.day.proofs.Sequences.{joined_next}

-- ---- the records, one after the other

-- one more
pub shown_next : {rs : List Rec} {t u v : List ℕ} {at i end next : ℕ} {line : List ℕ}
    → i < len rs → Shown rs t at i end u → line ≡ record_line (get_or rs i blank) → len line ≤ line_room
    → Wrote u end line next v
    → Shown rs t at (i + 1) next v
shown_next {rs} {i = i} h w g l p =
    record {
      wrote = rw (add-one, take-suc rs i blank h, map-append record_line, joined_next) (and_then w.wrote (rw g at p));
      short = omega (arith, w.short, p.place, l);
    }

-- ---- the table at a moment

module _ (m : Channel) (t : List ℕ) (held : ℕ) (within : held ≤ capacity m.memory) (same : take held (all_records m.memory) ≡ take m.count (all_records m.memory)) where
  -- so many records are held
  length-held : len (records m) ≡ held
  unfolding records
  length-held = rw (← same) (length-take-le held (all_records m.memory) (rw length-all_records within))

  -- where the text has room, it gets the state's line and those of the records held, and the rest is wiped
  pub moment_shown : {u v : List ℕ} {at end : ℕ} {line : List ℕ}
      → held < len t / line_room → line ≡ state_line m.m1 m.now m.count → len line ≤ line_room
      → Wrote t 0 line at u → Shown (all_records m.memory) u at held end v
      → (end ≡ len (moment_in m t)) × (end ≤ len t) × (zero_from end v ≡ holds_only (len t) (moment_in m t))
  unfolding moment_in records
  moment_shown h g l p w =
      let a = rw same at (and_then (rw g at p) w.wrote) in
      let r : (len (records m) + 1) * line_room ≤ len t = rw length-held (omega arith) in
      let f = start_wiped a (omega (arith, a.place, p.place, l, w.short)) in
      rw (le-leb _ _ r) (f.0, omega (arith, p.place, l, w.short), f.1)

  -- where it has none, it gets nothing
  pub moment_none : len t / line_room ≤ held → moment_in m t ≡ []
  unfolding moment_in
  moment_none h = rw (length-held, lt-leb ((held + 1) * line_room) (len t) (omega arith))
