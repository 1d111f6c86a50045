-- What a call with a map returns, by its refusal. Assumes nothing.
use native.Mathlib.Omega.{arith}
use mathlib.Core.Path.{◌≡◌, refl, sym, ap, ◌∙◌}
use mathlib.Core.Bool.{true, false, true≢false}
use Rattle.octets.proofs.Refusals.{answer_elim, by_test}
use Rattle.sound.specs.Sound.{sound}
use Rattle.table.specs.Table.{Table, Said, Call, look, is_look, changed, reported}
use Rattle.table.specs.Memory.{state_of, table_of, channel_of, leaves}
use Rattle.table.proofs.Calls.{accepted_gives}
use Rattle.slotmap.specs.Map.{Mapped, is_fresh, with_fresh, map_refusal, map_leaves, map_says}
use Rattle.slotmap.proofs.Given.{map_refusal_fresh, map_refusal_stale, map_says_fresh, map_leaves-channel}

-- a call that is not refused was made on a sound table with a right map
pub accepted_fit : (x : Mapped) (c : Call) → map_refusal x c ≡ 0 → (sound x.channel ≡ true) × (is_fresh x ≡ true)
accepted_fit x c z =
    by_test (sound x.channel)
    (λ s.
    by_test (is_fresh x)
    (λ f. (s, f))
    (λ f. let e : 25 ≡ 0 = sym (map_refusal_stale x c (λ _. f) ∙ rw s) ∙ z in absurd (omega arith)))
    (λ s. let e : 11 ≡ 0 = sym (map_refusal_stale x c (λ t. absurd (true≢false (sym t ∙ s))) ∙ rw s) ∙ z in absurd (omega arith))

-- an accepted one says what it reports, and leaves the state of the changed table
pub accepted_made : (x : Mapped) (c : Call) → map_refusal x c ≡ 0 → is_look c ≡ false
    → let t = table_of x.channel in
    (record { refusal = 0; number = reported t c } ≡ map_says x c) × (state_of (channel_of (changed t c)) ≡ state_of (map_leaves x c).channel)
accepted_made x c z h =
    let f = (accepted_fit x c z).1 in
    let g = accepted_gives x.channel c (sym z ∙ map_refusal_fresh x c f) h in
    (g.told ∙ sym (map_says_fresh x c f), g.state ∙ ap state_of (sym (map_leaves-channel x c f)))

-- a look leaves the table as it was
pub look-leaves : (x : Mapped) (f : Table → Said) → (map_leaves x (look f)).channel ≡ x.channel
unfolding map_leaves leaves
look-leaves x f =
    answer_elim (with_fresh x.channel) (λ _. x) (λ (y : Mapped). y.channel ≡ x.channel) (map_refusal x (look f)) (λ _. refl) (λ _. refl)
