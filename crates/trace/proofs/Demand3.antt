-- Demand 3 over octets, the same of real calls, and what is claimed of the calls by themselves. Assumes nothing.
use Prim.Native.Nat.{ℕ, ◌^◌}
use native.Mathlib.Omega.{arith}
use mathlib.Core.Path.{◌≡◌, refl, sym, ap, ◌∙◌}
use mathlib.Core.Bool.{true}
use mathlib.Core.List.{List, [], ◌∷◌}
use lib.Dec.{leb}
use borrow.Author.Tests.{leb-true, ne_eqb}
use Rattle.std.proofs.Common.{Ok}
use Rattle.octets.specs.Refusals.{answer}
use Rattle.octets.proofs.Lists.{keep-every, every-sub}
use Rattle.octets.proofs.Refusals.{answer-refused, by_test, answer_elim}
use Rattle.record.specs.Record.{capacity}
use Rattle.record.specs.declared.Rec.{Rec}
use Rattle.sound.specs.Sound.{Channel, sound, in_range}
use Rattle.sound.proofs.Ranges.{ranges}
use Rattle.table.specs.declared.State.{State}
use Rattle.table.specs.Table.{Table, Said, Call, clock, reserve, distance, wipe, look, changed, reported, with_records}
use Rattle.table.specs.Memory.{channel, table_of, channel_of, call_refusal, acts, leaves, says, open_refusal, opened, open_leaves, OpenGives}
use Rattle.table.proofs.Calls.{call_refusal-sound, refused-leaves}
use Rattle.trace.specs.Machine.{Machine, runs, Settles, Refines}
use Rattle.trace.specs.Sequences.{on_octets, Called, only, without, WithoutTrace, MadeWithoutTrace}
use Rattle.trace.specs.Records.{Sound, left_on, on_records}
use Rattle.trace.specs.Claims.{WipedWithoutTrace, RealCalls, SoundOpened, SoundKept, NeverUnsound, RefusedChangesNothing, OneResult}
use Rattle.trace.proofs.Machine.{runs-good, runs_refined, transcript_refined, made_runs, runs_untraced, transcript_untraced}
use Rattle.trace.proofs.Kept.{all_in_range, sound-changed}
use Rattle.trace.proofs.Written.{sound-channel_of, sound-table_of, refined, empty, sound_empty, opened-channel_of}
use Rattle.trace.proofs.Simulation.{of_others, left, Alike, untraced}

-- ---- the wipe at the end

-- a sound table has no record of a station of 2 ^ 27 or more, whose wipe is refused
none-beyond : (A : ℕ) → leb (2 ^ 27) A ≡ true → (r : Rec) → in_range r ≡ true → of_others (only A) r ≡ true
none-beyond A e r h = rw (ne_eqb r.station A (omega (arith, (ranges r h).station, leb-true (2 ^ 27) A e)))

-- so taking its records out changes nothing
left-beyond : (t : Table) (A : ℕ) → Sound t → leb (2 ^ 27) A ≡ true → left (only A) t ≡ t
left-beyond t A k e =
    ap (with_records t) (keep-every (of_others (only A)) t.records (every-sub in_range (of_others (only A)) (none-beyond A e) t.records (all_in_range t k)))

-- a wipe, accepted or refused, takes the station's records out
left_on_wipe : (t : Table) (A : ℕ) → Sound t → left_on t (wipe A) ≡ left (only A) t
unfolding left_on answer
left_on_wipe t A k = by_test (leb (2 ^ 27) A) (λ e. rw e (sym (left-beyond t A k e))) (λ e. rw e)

-- ---- demand 3

-- over records
untraced_records : (t : Table) (A : ℕ) → Sound t → left (only A) t ≡ t → WithoutTrace on_records t A
untraced_records t A k e cs r =
    let u = untraced (only A) in
    let a : Alike (only A) t t = (k, sym e) in
    (left_on_wipe (runs on_records t cs) A (runs-good refined t cs k) ∙ sym (runs_untraced u t t cs a r).1, transcript_untraced u t t cs a r)

-- a machine that refines another leaves no trace where that one leaves none
pub untraced_refined : {S T : Type 0} {k : Machine S Call Said} {l : Machine T Call Said} {channel_of : T → S} {Good : T → Type 0}
    → Refines k l channel_of Good → (t : T) (A : ℕ) → Good t → WithoutTrace l t A → WithoutTrace k (channel_of t) A
untraced_refined f t A g d cs r =
    let e = d cs (rw (transcript_refined f t cs g) at r) in (
      rw (runs_refined f t cs g, f.leaves _ (wipe A) (runs-good f t cs g), runs_refined f t (without (only A) cs) g, e.0),
      rw (transcript_refined f t cs g, transcript_refined f t (without (only A) cs) g, e.1),
    )

pub wiped_without_trace : WipedWithoutTrace
wiped_without_trace m1 b o A =
    let k = sound_empty m1 b o in
    let t = empty m1 (capacity b) in
    rw (opened-channel_of m1 b o) (untraced_refined refined t A k (untraced_records t A k refl))

-- ---- the same of real calls

-- where a promise settles what a call leaves and says, the calls made leave no trace where the machine leaves none
pub made_untraced : {S : Type 0} (k : Machine S Call Said) {P : S → Call → Said → S → Type 0} → Settles k P
    → (s : S) (A : ℕ) → WithoutTrace k s A → MadeWithoutTrace P s A
made_untraced k p s A d cs t u v es fs w ms q mt r =
    let i = made_runs k p ms in
    let j = made_runs k p mt in
    let e = d cs (rw i.1 at r) in
    ((p t v (wipe A) w q).0 ∙ rw (i.0, j.0) e.0, rw (i.1, j.1) e.1)

-- a table call's promise does
pub settled : Settles on_octets Called
settled m n c w q =
    let g = q.promised in
    (q.left ∙ rw (g.state, g.octets), g.told)

-- an accepted opening's promise settles the table that it leaves
open_settled : (m1 : ℕ) (b : List ℕ) (s : State) (z : List ℕ) → OpenGives m1 b (Ok tt) s z
    → (open_refusal m1 b ≡ 0) × (channel s z ≡ opened m1 b)
unfolding open_leaves answer
open_settled m1 b s z g =
    let f : open_refusal m1 b ≡ 0 = g.told.0 in
    (f, rw (g.state, g.octets, f))

pub real_calls : RealCalls
real_calls m1 b s z g A =
    let i = open_settled m1 b s z g in
    rw i.1 (made_untraced on_octets settled (opened m1 b) A (wiped_without_trace m1 b i.0 A))

-- ---- soundness

pub sound_opened : SoundOpened
sound_opened m1 b o = rw (opened-channel_of m1 b o) (sound-channel_of (empty m1 (capacity b)) (sound_empty m1 b o))

-- what a call that changes the table leaves
sound-acts : (m : Channel) (c : Call) → sound m ≡ true → sound (acts m c) ≡ true
sound-acts m c h =
    answer_elim (channel_of (changed (table_of m) c)) (λ _. m) (λ u. sound u ≡ true) (call_refusal m c)
    (λ e. sound-channel_of (changed (table_of m) c) (sound-changed (table_of m) c (sound-table_of m h) (sym (call_refusal-sound m c h) ∙ e)))
    (λ _. h)

pub sound_kept : SoundKept
unfolding leaves
sound_kept m (clock slot) h = sound-acts m (clock slot) h
sound_kept m (reserve q) h = sound-acts m (reserve q) h
sound_kept m (distance s d limit) h = sound-acts m (distance s d limit) h
sound_kept m (wipe s) h = sound-acts m (wipe s) h
sound_kept m (look f) h = h

-- and what a sequence leaves
sound-runs : (m : Channel) (cs : List Call) → sound m ≡ true → sound (runs on_octets m cs) ≡ true
sound-runs m [] h = h
sound-runs m (c ∷ cs) h = sound-runs (leaves m c) cs (sound_kept m c h)

pub never_unsound : NeverUnsound
unfolding says
never_unsound m1 b o cs c =
    let h = sound-runs (opened m1 b) cs (sound_opened m1 b o) in
    (h, call_refusal-sound (runs on_octets (opened m1 b) cs) c h)

-- ---- refusals and results

pub refused_changes_nothing : RefusedChangesNothing
unfolding says
refused_changes_nothing m c h = (sym (refused-leaves m c h), sym (answer-refused (reported (table_of m) c) (λ _. 0) refl h))

pub one_result : OneResult
one_result s b c w v t u x y g h = (g.told ∙ sym h.told, g.state ∙ sym h.state, g.octets ∙ sym h.octets)
