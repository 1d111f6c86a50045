-- A log replayed in pieces: record by record, in two pieces, and cut. Assumes nothing.
use Prim.Native.Nat.{ℕ, ◌+◌, ◌≤◌, ◌<◌}
use native.Mathlib.Omega.{arith}
use mathlib.Core.Path.{◌≡◌, sym, ap, ◌∙◌}
use mathlib.Core.List.{List, [], ◌∷◌, ◌++◌}
use lib.ListN.{length as len, get_or, take}
use lib.Seq.{length-take-le, get_or-take, get_or_at}
use borrow.Author.Tests.{ne_eqb}
use Rattle.std.proofs.Common.{None}
use Rattle.sound.specs.Sound.{Channel}
use Rattle.trace.specs.Machine.{transcript}
use Rattle.daylog.specs.Entries.{call_in, entry_says, entry_leaves}
use Rattle.day.specs.Day.{entry_at, entry_count, entries, on_log, replayed, log_lines}
use Rattle.day.specs.Steps.{table_after, lines_to, answer_line}
use Rattle.day.specs.Claims.{LineForEach, IncompleteLast, InPieces, CutAfter}
use Rattle.day.proofs.Entries.{length-entries, take-entries_next, take-entries_all, entries_append, entries_one, entries-take}
use Rattle.day.proofs.ByHand.{no_call_says}
use Rattle.day.proofs.Sequences.{runs_append, runs_next, transcript_append, transcript_next, transcript-take, length-transcript, lines_from_append, lines_from_next, lines_from-take, length-lines_from}

-- ---- the first k log records

-- the line of the next one
abbrev pub line_after : ℕ → Channel → List ℕ → ℕ → List ℕ
line_after place m s k = answer_line (place + k) (entry_says (table_after m s k) (entry_at s k))

module _ (m : Channel) (s : List ℕ) where
  -- after all of them it is what the log leaves
  pub table_after_all : table_after m s (entry_count s) ≡ replayed m s
  table_after_all = rw take-entries_all

  -- after one more
  pub table_after_next : (k : ℕ) → k < entry_count s → table_after m s (k + 1) ≡ entry_leaves (table_after m s k) (entry_at s k)
  table_after_next k h = rw (take-entries_next s k h, runs_next)

  -- a line for each of them
  pub length-lines_to : (place k : ℕ) → k ≤ entry_count s → len (lines_to place m s k) ≡ k
  length-lines_to place k h =
      length-lines_from place (transcript on_log m (take k (entries s)))
      ∙ length-transcript on_log m (take k (entries s))
      ∙ length-take-le k (entries s) (rw length-entries h)

  -- those of all are the log's
  pub lines_to_all : (place : ℕ) → lines_to place m s (entry_count s) ≡ log_lines place m s
  lines_to_all place = rw take-entries_all

  -- those of one more
  pub lines_to_next : (place k : ℕ) → k < entry_count s → lines_to place m s (k + 1) ≡ lines_to place m s k ++ (line_after place m s k ∷ [])
  lines_to_next place k h =
      rw (take-entries_next s k h, transcript_next, lines_from_next, length-transcript, length-take-le k (entries s) (rw length-entries (omega arith)))

  -- they are the log's first k lines
  pub lines_to-take : (place k : ℕ) → lines_to place m s k ≡ take k (log_lines place m s)
  lines_to-take place k = rw (transcript-take, lines_from-take)

-- ---- what is claimed

pub line_for_each : LineForEach
line_for_each place m s = (
  sym (ap len (lines_to_all m s place)) ∙ length-lines_to m s place (entry_count s) (omega arith),
  λ k h. sym (get_or-take (k + 1) (log_lines place m s) k [] (omega arith))
      ∙ ap (λ ls. get_or ls k []) (sym (lines_to-take m s place (k + 1)) ∙ lines_to_next m s place k h)
      ∙ get_or_at (lines_to place m s k) (line_after place m s k) [] [] k (length-lines_to m s place k (omega arith)),
)

-- an incomplete log record asks for no call
call_in_incomplete : (o : List ℕ) → len o < 24 → call_in o ≡ None
unfolding call_in
call_in_incomplete o h = rw (ne_eqb (len o) 24 (omega arith))

pub incomplete_last : IncompleteLast
incomplete_last place m s t w l h =
    let u = no_call_says (replayed m s) t (call_in_incomplete t h) in
    let e : entries (s ++ t) ≡ entries s ++ (t ∷ []) = rw (entries_append s t w, entries_one t l (omega arith)) in (
      rw (e, runs_next, u.0),
      rw (e, transcript_next, lines_from_next, u.1, length-transcript, length-entries),
    )

pub in_pieces : InPieces
in_pieces place m s t h =
    let e = entries_append s t h in (
      rw (e, runs_append),
      rw (e, transcript_append, lines_from_append, length-transcript, length-entries),
    )

pub cut_after : CutAfter
cut_after place m s k = (rw entries-take (lines_to-take m s place k), rw entries-take)
