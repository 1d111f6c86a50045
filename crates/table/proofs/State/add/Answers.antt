-- `table::State::add` meets its contract: 16, 17 or none by the tests that led there, and what is added at the end. Assumes nothing.
use Prim.Native.Nat.{ℕ, ◌<◌}
use native.Mathlib.Omega.{arith}
use mathlib.Core.Path.{◌≡◌, refl, sym, ◌∙◌}
use mathlib.Core.Bool.{Bool, true, false}
use mathlib.Core.List.{List}
use lib.ListN.{take}
use borrow.Author.Tests.{eq-eqb, ne_eqb}
use Rattle.refusal.specs.declared.Refusal.TheVariants.{Held, Full}
use Rattle.octets.specs.Lists.{has}
use Rattle.octets.specs.Refusals.{first_of}
use Rattle.record.specs.Record.{all_records, capacity}
use Rattle.record.specs.declared.Rec.{Rec}
use Rattle.record.proofs.Packed.{packed_end}
use Rattle.sound.specs.Sound.{records, sound}
use Rattle.sound.proofs.Sound.{sound_parts}
use Rattle.table.specs.declared.State.{State}
use Rattle.table.specs.Table.{same, held_tests}
use Rattle.table.specs.Memory.{channel, table_of}
use Rattle.table.specs.Steps.{added_memory}
use Rattle.table.proofs.Calls.{add-refused, add_accepted}
use Rattle.table.proofs.State.add.Goals as goal

-- ---- what the tests tell

module _ (s : State) (b : List ℕ) (x : Rec) {found : Bool} (e : found ≡ has (same x) (take s.count (all_records b))) where
  is_held : found ≡ true → first_of (held_tests (table_of (channel s b)) x) ≡ 16
  unfolding table_of records
  is_held h = rw (sym e ∙ h)

  module _ (h : sound (channel s b) ≡ true) (n : found ≡ false) where
    is_full : s.count ≡ capacity b → first_of (held_tests (table_of (channel s b)) x) ≡ 17
    unfolding table_of records
    is_full f = rw (sym e ∙ n, (sound_parts (channel s b) h).counted, eq-eqb _ _ f)

    is_new : (s.count ≡ capacity b → ⊥) → first_of (held_tests (table_of (channel s b)) x) ≡ 0
    unfolding table_of records
    is_new f = rw (sym e ∙ n, (sound_parts (channel s b) h).counted, ne_eqb _ _ f)

-- ---- the goals

pub returns-then-has_same-clause-told : goal.returns-then-has_same-clause-told
returns-then-has_same-clause-told c = is_held c.args.self.now c.args.memory.now c.args.x c.has_same.ensures c.if-has_same.true

pub returns-then-has_same-clause-state : goal.returns-then-has_same-clause-state
returns-then-has_same-clause-state c =
    (add-refused (channel c.args.self.now c.args.memory.now) c.args.x Held (is_held c.args.self.now c.args.memory.now c.args.x c.has_same.ensures c.if-has_same.true)).0

pub returns-then-has_same-clause-memory : goal.returns-then-has_same-clause-memory
returns-then-has_same-clause-memory c =
    (add-refused (channel c.args.self.now c.args.memory.now) c.args.x Held (is_held c.args.self.now c.args.memory.now c.args.x c.has_same.ensures c.if-has_same.true)).1

pub returns-then-n-all-clause-told : goal.returns-then-n-all-clause-told
returns-then-n-all-clause-told c =
    is_full c.args.self.now c.args.memory.now c.args.x c.has_same.ensures c.requires c.if-has_same.false (c.if-n-all.true ∙ c.capacity-all.ensures)

pub returns-then-n-all-clause-state : goal.returns-then-n-all-clause-state
returns-then-n-all-clause-state c =
    (add-refused (channel c.args.self.now c.args.memory.now) c.args.x Full (is_full c.args.self.now c.args.memory.now c.args.x c.has_same.ensures c.requires c.if-has_same.false (c.if-n-all.true ∙ c.capacity-all.ensures))).0

pub returns-then-n-all-clause-memory : goal.returns-then-n-all-clause-memory
returns-then-n-all-clause-memory c =
    (add-refused (channel c.args.self.now c.args.memory.now) c.args.x Full (is_full c.args.self.now c.args.memory.now c.args.x c.has_same.ensures c.requires c.if-has_same.false (c.if-n-all.true ∙ c.capacity-all.ensures))).1

pub overflow_add-self : goal.overflow_add-self
overflow_add-self c =
    let k = sound_parts (channel c.args.self.now c.args.memory.now) c.requires in
    omega (arith, k.room, k.capacity-most)

pub returns-clause-told : goal.returns-clause-told
returns-clause-told c =
    (is_new c.args.self.now c.args.memory.now c.args.x c.has_same.ensures c.requires c.if-has_same.false (λ e. c.if-n-all.false (e ∙ sym c.capacity-all.ensures)), refl)

pub returns-clause-state : goal.returns-clause-state
returns-clause-state c =
    (add_accepted (channel c.args.self.now c.args.memory.now) c.args.x (sym (is_new c.args.self.now c.args.memory.now c.args.x c.has_same.ensures c.requires c.if-has_same.false (λ e. c.if-n-all.false (e ∙ sym c.capacity-all.ensures))))).0

pub returns-clause-memory : goal.returns-clause-memory
unfolding records added_memory
returns-clause-memory c =
    let s = c.args.self.now in
    let m = channel s c.args.memory.now in
    let k = sound_parts m c.requires in
    let other : s.count ≡ capacity m.memory → ⊥ = λ e. c.if-n-all.false (e ∙ sym c.capacity-all.ensures) in
    let room : s.count < capacity m.memory = omega (arith, k.room, other) in
    c.store.ensures.octets
    ∙ packed_end m.memory m.count (λ i. (c.slice_known-1.given i).fits) k.whole-records k.room k.clear c.args.x room
    ∙ (add_accepted m c.args.x (sym (is_new s m.memory c.args.x c.has_same.ensures c.requires c.if-has_same.false other))).1
