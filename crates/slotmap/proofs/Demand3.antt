-- The calls with a map as a second machine: on a fresh map they are the table's, so demand 3 holds of them. Assumes nothing.
use Prim.Native.Nat.{ℕ}
use mathlib.Core.Path.{◌≡◌, refl, sym, ap, ◌∙◌}
use mathlib.Core.Bool.{not}
use mathlib.Core.List.{List, [], ◌∷◌}
use lib.Dec.{eqb}
use lib.ListN.{length as len}
use Rattle.std.proofs.Common.{Ok}
use Rattle.octets.specs.Refusals.{answer}
use Rattle.octets.proofs.Refusals.{answer-refused, answer_elim, first_of-zero}
use Rattle.codec.specs.Parameters.{m1_row, fits}
use Rattle.sound.specs.Sound.{Channel, size_fits}
use Rattle.table.specs.declared.State.{State}
use Rattle.table.specs.Table.{Call, reported}
use Rattle.table.specs.Memory.{table_of, leaves, open_refusal, opened}
use Rattle.table.proofs.Calls.{call_refusal-sound, refused-leaves}
use Rattle.trace.specs.Machine.{runs, Settles}
use Rattle.trace.specs.Sequences.{on_octets}
use Rattle.trace.proofs.Machine.{runs-good, runs_refined}
use Rattle.trace.proofs.Demand3.{untraced_refined, wiped_without_trace, made_untraced, sound_opened, sound_kept}
use Rattle.slotmap.specs.Map.{Mapped, with_map, with_fresh, map_refusal, map_leaves, map_says, open_map_refusal, open_map_leaves, OpenMapGives}
use Rattle.slotmap.specs.Sequences.{on_map, MapCalled}
use Rattle.slotmap.specs.Claims.{OnAFreshMap, RefusedLeavesMap, OneMapResult, MapWithoutTrace, RealMapCalls, NeverStale}
use Rattle.slotmap.proofs.Fresh.{is_fresh-with_fresh}
use Rattle.slotmap.proofs.Given.{map_refusal_fresh, map_leaves-refused, map_says_fresh}

-- ---- a call

-- on a fresh map it leaves what the table's call leaves, and the fresh map of that
leaves-with_fresh : (m : Channel) (c : Call) → map_leaves (with_fresh m) c ≡ with_fresh (leaves m c)
unfolding map_leaves
leaves-with_fresh m c =
    answer_elim (with_fresh (leaves m c)) (λ _. with_fresh m) (λ (y : Mapped). y ≡ with_fresh (leaves m c)) (map_refusal (with_fresh m) c)
    (λ _. refl)
    (λ z. ap with_fresh (refused-leaves m c (λ e. z (map_refusal_fresh (with_fresh m) c (is_fresh-with_fresh m) ∙ e))))

pub on_a_fresh_map : OnAFreshMap
on_a_fresh_map =
    record {
      leaves = λ m c h. leaves-with_fresh m c;
      says = λ m c h. map_says_fresh (with_fresh m) c (is_fresh-with_fresh m);
      kept = λ m c h. sound_kept m c h;
    }

pub refused_leaves_map : RefusedLeavesMap
unfolding map_says
refused_leaves_map x c h = (sym (map_leaves-refused x c h), sym (answer-refused (reported (table_of x.channel) c) (λ _. 0) refl h))

pub one_map_result : OneMapResult
one_map_result x c w v s t b y p z g h =
    (g.told ∙ sym h.told, g.state ∙ sym h.state, g.octets ∙ sym h.octets, g.left ∙ sym h.left)

-- a call's promise settles what it says and leaves
settled : Settles on_map MapCalled
settled x y c w q =
    let g = q.promised in
    (q.left ∙ rw (g.state, g.octets, g.left), g.told)

-- ---- an accepted opening

-- the table's opening is accepted too
open_accepted : (m1 : ℕ) (b p : List ℕ) → open_map_refusal m1 b p ≡ 0 → open_refusal m1 b ≡ 0
unfolding open_map_refusal open_refusal
open_accepted m1 b p o =
    let t = first_of-zero ((10, not (fits m1_row m1)) ∷ (1, not (size_fits b)) ∷ (25, not (eqb (len p) m1)) ∷ []) refl o in
    rw (t.0, t.1.0)

-- its promise settles the table and the map that it leaves
open_settled : (m1 : ℕ) (b p : List ℕ) (s : State) (y z : List ℕ) → OpenMapGives m1 b p (Ok tt) s y z
    → (open_map_refusal m1 b p ≡ 0) × (with_map s y z ≡ with_fresh (opened m1 b))
unfolding open_map_leaves answer
open_settled m1 b p s y z g =
    let f : open_map_refusal m1 b p ≡ 0 = g.told.0 in
    (f, rw (g.state, g.octets, g.left, f))

-- ---- demand 3

pub map_without_trace : MapWithoutTrace
map_without_trace m1 b p o A =
    let a = open_accepted m1 b p o in
    untraced_refined on_a_fresh_map (opened m1 b) A (sound_opened m1 b a) (wiped_without_trace m1 b a A)

pub real_map_calls : RealMapCalls
real_map_calls m1 b p s y z g A =
    let i = open_settled m1 b p s y z g in
    rw i.1 (made_untraced on_map settled (with_fresh (opened m1 b)) A (map_without_trace m1 b p i.0 A))

pub never_stale : NeverStale
unfolding map_says
never_stale m1 b p o cs c =
    let h = sound_opened m1 b (open_accepted m1 b p o) in
    let m = runs on_octets (opened m1 b) cs in
    let s = runs-good on_a_fresh_map (opened m1 b) cs h in
    rw (runs_refined on_a_fresh_map (opened m1 b) cs h)
    (s, is_fresh-with_fresh m, map_refusal_fresh (with_fresh m) c (is_fresh-with_fresh m) ∙ call_refusal-sound m c s)
