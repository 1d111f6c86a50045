-- A log may come in any whole log records. Assumes nothing.
use Rattle.std.proofs.Common.{◌≡◌, ◌+◌, ◌*◌, ℕ, List, [], ◌++◌, Option, sym, ap, subst, ◌∙◌, arith, length, length-append}
use Rattle.std.specs.Io.KnownBytes.{Appends}
use Rattle.sound.specs.Sound.{Channel}
use Rattle.lines.proofs.Appended.{appends_none, appends_then}
use Rattle.day.specs.Day.{entry_count, replayed, log_lines, joined}
use Rattle.day.specs.Taken.{Replays}
use Rattle.day.proofs.Pieces.{in_pieces}
use Rattle.day.proofs.Sequences.{joined_append}
use Rattle.day.proofs.Replays.{none-replayed}

-- no log record at all
pub replays_none : (p : ℕ) (m : Channel) (a : Option (List ℕ)) → Replays p m a [] p m a
replays_none p m a fits =
    let (r, table, lines) = none-replayed p m in
    (omega arith, table, subst (λ l. Appends a a (joined l)) lines (appends_none a))

-- whole log records, and what follows them
pub replays_then : (p : ℕ) (m : Channel) (a : Option (List ℕ)) (s : List ℕ) (q : ℕ) (n : Channel) (b : Option (List ℕ)) (t : List ℕ) (r : ℕ) (o : Channel) (c : Option (List ℕ))
    (k : ℕ) → length s ≡ k * 24 → Replays p m a s q n b → Replays q n b t r o c → Replays p m a (s ++ t) r o c
replays_then p m a s q n b t r o c k whole first second fits =
    let count : entry_count (s ++ t) ≡ entry_count s + entry_count t = omega (arith, length-append s t) in
    let (at, table, written) = first (omega arith) in
    let (at', table', written') = second (omega arith) in
    let (left, lines) = in_pieces p m s t (omega arith) in
    let rest : Appends b c (joined (log_lines (p + entry_count s) (replayed m s) t)) = rw (sym at, sym table) written' in (
      omega arith,
      table' ∙ ap (λ u. replayed u t) table ∙ sym left,
      rw (lines, joined_append) (appends_then a b c _ _ written rest),
    )
