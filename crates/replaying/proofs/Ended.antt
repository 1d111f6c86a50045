-- What a replay has come to at the end of a log that it began. Assumes nothing.
use Rattle.std.proofs.Common.{◌≡◌, ◌+◌, ◌^◌, ◌<◌, ℕ, List, Option, Result, OnOk, IfSome}
use Rattle.std.specs.Io.KnownBytes.{Appends}
use Rattle.sound.specs.Sound.{Channel}
use Rattle.day.specs.Day.{entry_count, day_opened, replay_text}
use Rattle.day.specs.Taken.{Replays}
use Rattle.pieces.proofs.Written.{on_known}

module _ {T E : Type 0} (r : Result T E) (known : Option (List ℕ)) (p : ℕ) (m : Channel) (a : Option (List ℕ)) (q : ℕ) (n : Channel) (b : Option (List ℕ)) where
  -- its text is written
  pub text-written : p ≡ 1 → m ≡ day_opened → OnOk r (IfSome known (λ xs. Replays p m a xs q n b))
      → OnOk r (IfSome known (λ xs. 1 + entry_count xs < 2 ^ 64 → Appends a b (replay_text xs)))
  text-written first opened =
      on_known r known (λ xs. Replays p m a xs q n b) (λ xs. 1 + entry_count xs < 2 ^ 64 → Appends a b (replay_text xs))
      (λ xs f h. rw (first, opened) at ((f (rw first h)).2))
