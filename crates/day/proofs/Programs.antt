-- What the programs open, and what they make of an empty log. Assumes nothing.
use Prim.Native.Nat.{ℕ}
use mathlib.Core.Path.{◌≡◌, refl}
use mathlib.Core.List.{List, []}
use native.Mathlib.Omega.{arith}
use lib.ListN.{replicate}
use Rattle.std.proofs.Common.{Result, Ok}
use Rattle.refusal.specs.declared.Refusal.{Refusal}
use Rattle.refusal.proofs.Numbers.{told_once}
use Rattle.octets.specs.Refusals.{answer}
use Rattle.record.specs.Record.{packed}
use Rattle.record.proofs.Packed.{whole-packed, capacity-packed}
use Rattle.codec.specs.Parameters.{fits}
use Rattle.sound.specs.Sound.{records}
use Rattle.table.specs.declared.State.{State}
use Rattle.table.specs.Memory.{channel, open_refusal, open_leaves, OpenGives}
use Rattle.lines.specs.Text.{digits, decimal}
use Rattle.lines.specs.Day.{state_line}
use Rattle.day.specs.Day.{entries, day_opened}
use Rattle.day.specs.Claims.{DayAccepted, EmptyLog}

pub day_accepted : DayAccepted
unfolding open_refusal fits
day_accepted = rw (whole-packed 2048 [] (omega arith), capacity-packed 2048 [] (omega arith))

-- opening a memory of 2,048 records that are zeros is accepted, and gives that table
pub day_opens : (n : ℕ) {r : Result (Unit {0}) Refusal} {s : State} {x : List ℕ} → packed 2048 [] ≡ replicate n 0 → OpenGives 4500 (replicate n 0) r s x
    → (r ≡ Ok tt) × (channel s x ≡ day_opened)
unfolding open_leaves answer
day_opens n {r} e g =
    let accepted : open_refusal 4500 (replicate n 0) ≡ 0 = rw e at day_accepted in
    (told_once r (Ok tt) 0 tt (rw accepted at g.told) (refl, refl), rw (g.state, g.octets, accepted, e))

pub empty_log : EmptyLog
unfolding entries records state_line digits decimal
empty_log = (refl, refl)
