-- Demand 3 over logs: a tenant's log records taken out of a log. Assumes nothing.
use Prim.Native.Nat.{ℕ, ◌%◌, ◌<◌, ◌^◌}
use mathlib.Core.Path.{◌≡◌, refl, ap, ◌∙◌}
use mathlib.Core.Bool.{Bool, true, false, cond, not}
use mathlib.Core.List.{List, [], ◌∷◌, ◌++◌}
use lib.Dec.{lit<, lit≤}
use lib.ListN.{length as len}
use Rattle.std.proofs.Common.{Option, Some, None}
use Rattle.octets.specs.Lists.{keep}
use Rattle.octets.specs.Octets.{little, number, number_at}
use Rattle.octets.proofs.Lists.{every-keep}
use Rattle.octets.proofs.Octets.{number-little}
use Rattle.sound.specs.Sound.{Channel}
use Rattle.table.specs.Table.{Call, clock, reserve, distance, wipe}
use Rattle.table.specs.Memory.{leaves, opened}
use Rattle.trace.specs.Sequences.{names, only, without}
use Rattle.trace.proofs.Demand3.{wiped_without_trace}
use Rattle.daylog.specs.declared.LoggedCall.{LoggedCall}
use Rattle.daylog.specs.declared.LoggedCall.TheVariants.{Clock, Reserve, SetDistance, Wipe}
use Rattle.daylog.specs.Entries.{log_record_of, call_in, by_call, entry_leaves}
use Rattle.day.specs.Day.{entries, replayed}
use Rattle.day.specs.Claims.{calls_in, is_of, without_tenant, wipe_record, TenantTakenOut}
use Rattle.day.proofs.Entries.{is_whole, entries_append, entries-whole, entries_one, entries-joined}
use Rattle.day.proofs.Sequences.{runs_next}
use Rattle.day.proofs.ByHand.{runs-calls_in, transcript-calls_in}

-- ---- the log record of a wipe

-- it asks for the wipe
call_in_wipe : (A : ℕ) → A < 2 ^ 32 → call_in (wipe_record A) ≡ Some (Wipe A)
unfolding call_in log_record_of number_at little number
call_in_wipe A h = ap (λ n. Some (Wipe n)) (number-little 4 A h)

-- it is a log of one log record
entries_wipe : (A : ℕ) → entries (wipe_record A) ≡ wipe_record A ∷ []
unfolding little
entries_wipe A = entries_one (wipe_record A) (lit< tt) (lit≤ tt)

-- at the end of a log of whole log records it wipes what the log left
replayed_wipe : (m : Channel) (s : List ℕ) (A : ℕ) → len s % 24 ≡ 0 → A < 2 ^ 32 → replayed m (s ++ wipe_record A) ≡ leaves (replayed m s) (wipe A)
unfolding entry_leaves
replayed_wipe m s A w h = rw (entries_append s (wipe_record A) w, entries_wipe A, runs_next, call_in_wipe A h)

-- ---- a tenant's log records taken out

-- a log record e before those that stay, es, which ask for the calls that stay of cs
module _ (A : ℕ) (e : List ℕ) (es : List (List ℕ)) (cs : List Call) (rest : calls_in es ≡ without (only A) cs) where
  -- where it asks for a call, it stays where the call does
  keep_call : (c : Call) → calls_in (e ∷ es) ≡ c ∷ calls_in es → calls_in (cond (not (names (only A) c)) (e ∷ es) es) ≡ without (only A) (c ∷ cs)
  keep_call c f = go (names (only A) c)
    where
      go : (b : Bool) → calls_in (cond (not b) (e ∷ es) es) ≡ cond (not b) (c ∷ without (only A) cs) (without (only A) cs)
      go true = rest
      go false = f ∙ rw rest

  -- whatever it asks for; where it asks for none, it stays and adds no call
  keep-by_call : (u : Option LoggedCall) → call_in e ≡ u
      → calls_in (cond (not (by_call u (names (only A)) false)) (e ∷ es) es) ≡ without (only A) (by_call u (λ c. c ∷ cs) cs)
  keep-by_call (Some (Clock slot)) f = keep_call (clock slot) (rw f)
  keep-by_call (Some (Reserve q)) f = keep_call (reserve q) (rw f)
  keep-by_call (Some (SetDistance s d limit)) f = keep_call (distance s d limit) (rw f)
  keep-by_call (Some (Wipe s)) f = keep_call (wipe s) (rw f)
  keep-by_call None f = rw f rest

-- the log records that stay ask for the calls that stay
calls_in-keep : (A : ℕ) (es : List (List ℕ)) → calls_in (keep (λ e. not (is_of A e)) es) ≡ without (only A) (calls_in es)
calls_in-keep A [] = refl
calls_in-keep A (e ∷ es) = keep-by_call A e (keep (λ o. not (is_of A o)) es) (calls_in es) (calls_in-keep A es) (call_in e) refl

-- they are read back from the log without the tenant's
entries-without_tenant : (A : ℕ) (s : List ℕ) → len s % 24 ≡ 0 → entries (without_tenant A s) ≡ keep (λ e. not (is_of A e)) (entries s)
entries-without_tenant A s w =
    let stays : List ℕ → Bool = λ e. not (is_of A e) in
    entries-joined (keep stays (entries s)) (every-keep is_whole stays (entries s) (entries-whole s w))

-- so that log asks for the calls without the tenant's
calls_in-without_tenant : (A : ℕ) (s : List ℕ) → len s % 24 ≡ 0 → calls_in (entries (without_tenant A s)) ≡ without (only A) (calls_in (entries s))
calls_in-without_tenant A s w = ap calls_in (entries-without_tenant A s w) ∙ calls_in-keep A (entries s)

-- ---- demand 3

pub tenant_taken_out : TenantTakenOut
tenant_taken_out m1 b o A h s w r =
    let d = wiped_without_trace m1 b o A (calls_in (entries s)) (rw transcript-calls_in at r) in
    let e = calls_in-without_tenant A s w in
    let m = opened m1 b in (
      replayed_wipe m s A w h ∙ rw (runs-calls_in m (entries s), runs-calls_in m (entries (without_tenant A s)), e) d.0,
      rw (transcript-calls_in m (entries s), transcript-calls_in m (entries (without_tenant A s)), e) d.1,
    )
