-- A replayed log leaves and says what the calls that it asks for leave and say, made by hand. Assumes nothing.
use Prim.Native.Nat.{ℕ}
use mathlib.Core.Path.{◌≡◌, refl, ap, ◌∙◌}
use mathlib.Core.List.{List, [], ◌∷◌}
use Rattle.std.proofs.Common.{Option, Some, None}
use Rattle.sound.specs.Sound.{Channel}
use Rattle.table.specs.Table.{Said, Call}
use Rattle.table.specs.Memory.{leaves, says}
use Rattle.trace.specs.Machine.{runs, transcript}
use Rattle.trace.specs.Sequences.{on_octets}
use Rattle.daylog.specs.declared.LoggedCall.{LoggedCall}
use Rattle.daylog.specs.declared.LoggedCall.TheVariants.{Clock, Reserve, SetDistance, Wipe}
use Rattle.daylog.specs.Entries.{call_in, by_call, entry_says, entry_leaves}
use Rattle.day.specs.Day.{entries, on_log}
use Rattle.day.specs.Claims.{calls_in, calls_told, ByHand, NoCallSays}

-- ---- by what a log record asks for

-- the call is made, or nothing is
by_call-runs : (u : Option LoggedCall) (m : Channel) (cs : List Call)
    → runs on_octets (by_call u (leaves m) m) cs ≡ runs on_octets m (by_call u (λ c. c ∷ cs) cs)
by_call-runs (Some (Clock slot)) m cs = refl
by_call-runs (Some (Reserve q)) m cs = refl
by_call-runs (Some (SetDistance s d limit)) m cs = refl
by_call-runs (Some (Wipe s)) m cs = refl
by_call-runs None m cs = refl

-- and so is its answer told, or nothing is
by_call-told : (u : Option LoggedCall) (m : Channel) (w : Said) (cs : List Call)
    → (let rest = transcript on_octets (by_call u (leaves m) m) cs in by_call u (λ c. (c, by_call u (says m) w) ∷ rest) rest)
    ≡ transcript on_octets m (by_call u (λ c. c ∷ cs) cs)
by_call-told (Some (Clock slot)) m w cs = refl
by_call-told (Some (Reserve q)) m w cs = refl
by_call-told (Some (SetDistance s d limit)) m w cs = refl
by_call-told (Some (Wipe s)) m w cs = refl
by_call-told None m w cs = refl

-- ---- the same calls made by hand

-- the log records leave what their calls leave
pub runs-calls_in : (m : Channel) (es : List (List ℕ)) → runs on_log m es ≡ runs on_octets m (calls_in es)
unfolding entry_leaves
runs-calls_in m [] = refl
runs-calls_in m (e ∷ es) = runs-calls_in (entry_leaves m e) es ∙ by_call-runs (call_in e) m (calls_in es)

-- and are answered as they are
pub transcript-calls_in : (m : Channel) (es : List (List ℕ)) → calls_told (transcript on_log m es) ≡ transcript on_octets m (calls_in es)
unfolding entry_leaves entry_says
transcript-calls_in m [] = refl
transcript-calls_in m (e ∷ es) =
    ap (λ rest. by_call (call_in e) (λ c. (c, entry_says m e) ∷ rest) rest) (transcript-calls_in (entry_leaves m e) es)
    ∙ by_call-told (call_in e) m (record { refusal = 23; number = 0 }) (calls_in es)

pub by_hand : ByHand
by_hand m s = (runs-calls_in m (entries s), transcript-calls_in m (entries s))

pub no_call_says : NoCallSays
unfolding entry_leaves entry_says
no_call_says m o h = (rw h, rw h)
