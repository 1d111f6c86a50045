-- What `day::replay` promises, where there is room for all lines and the places fit. Assumes nothing.
use Rattle.std.proofs.Common.{◌≡◌, ◌+◌, ◌*◌, ◌^◌, ◌<◌, ◌≤◌, ℕ, List, ◌++◌, refl, ap, ◌∙◌, length, take, append_assoc, take_at}
use Rattle.octets.specs.Octets.{holds_only}
use Rattle.sound.specs.Sound.{Channel}
use Rattle.table.specs.declared.State.{State}
use Rattle.table.specs.Memory.{channel, state_of}
use Rattle.lines.specs.Day.{line_room}
use Rattle.day.specs.declared.Replayed.{Replayed}
use Rattle.day.specs.Day.{entry_count, replayed, log_lines, joined, log_in, replay_returned}
use Rattle.day.proofs.Replays.{log_in_room}
use Rattle.replaying.specs.Taken.{Brought}

pub went : (place : ℕ) (m : Channel) (s t rest : List ℕ) {r : Replayed} {z : State} {x u : List ℕ} → entry_count s * line_room ≤ length t → place + entry_count s < 2 ^ 64
    → r ≡ replay_returned place m (log_in place s t) → z ≡ state_of (replayed m (log_in place s t)) → x ≡ (replayed m (log_in place s t)).memory
    → u ≡ holds_only (length t) (joined (log_lines place m (log_in place s t)))
    → Brought place m s r (channel z x) (u ++ rest)
unfolding replay_returned
went place m s t rest {r} {z} {x} {u} room fits answer state memory text =
    let all = log_in_room place s t (room, fits) in
    let e = rw all at answer in
    let v = rw all at text in
    let lines = joined (log_lines place m s) in
    record {
      next = ap (λ q. q.place) e;
      left = rw (state, memory, all);
      lines =
          ap (λ q. take q.length (u ++ rest)) e
          ∙ ap (λ l. take (length lines) (l ++ rest)) v
          ∙ ap (take (length lines)) (append_assoc lines _ rest)
          ∙ take_at lines _ (length lines) refl;
    }
