-- A replay log record by log record: what one gives, and what the first k of a log give. Assumes nothing.
use Prim.Native.Nat.{ℕ, ◌+◌, ◌-◌, ◌*◌, ◌/◌, ◌^◌, ◌≤◌, ◌<◌, min}
use mathlib.Core.Path.{◌≡◌, refl, sym, ap, ◌∙◌}
use mathlib.Core.Bool.{Bool, true, false, ◌&&◌, and-eq-true_iff}
use mathlib.Core.List.{List, [], ◌++◌}
use native.Mathlib.Nat.{add-zero}
use native.Mathlib.Omega.{arith}
use lib.Dec.{leb, ltb}
use lib.ListN.{length as len, take, drop, length-drop}
use lib.Seq.{take-append_seam, drop-append_seam}
use Rattle.std.proofs.lemmas.List.{take_min, drop_min, drop-drop}
use Rattle.std.proofs.Common.{Result, Ok, Err}
use Rattle.refusal.specs.declared.Refusal.{Refusal}
use Rattle.octets.specs.Octets.{zero_from, holds_only}
use borrow.Author.Tests.{le-leb, lt-ltb, leb-true, ltb-true}
use Rattle.octets.proofs.Refusals.{by_test}
use Rattle.sound.specs.Sound.{Channel}
use Rattle.table.specs.declared.State.{State}
use Rattle.table.specs.Memory.{channel, state_of, call_said}
use Rattle.daylog.specs.Entries.{entry_says, entry_leaves}
use Rattle.lines.specs.Day.{told_line, line_room}
use Rattle.lines.specs.Steps.{Wrote}
use Rattle.lines.proofs.Wrote.{and_then, start_wiped}
use Rattle.day.specs.declared.Replayed.{Replayed}
use Rattle.day.specs.Day.{entry_at, entry_count, entries, replayed, log_lines, joined, log_in, replay_returned}
use Rattle.day.specs.Steps.{answer_line, Stepped, Went}
use Rattle.day.proofs.Sequences.{joined_next}
use Rattle.day.proofs.Pieces.{table_after_all, table_after_next, lines_to_all, lines_to_next}

-- ---- one log record

-- a result's line is that of what it says
told_line-said : (place : ℕ) (r : Result ℕ Refusal) → told_line place r ≡ answer_line place (call_said r)
told_line-said place (Ok n) = refl
told_line-said place (Err e) = refl

-- what the step gives, with its line put
pub stepped : (said : Result ℕ Refusal) {m : Channel} {z : State} {o x t u line : List ℕ} {r : Replayed} {end : ℕ}
    → call_said said ≡ entry_says m o → z ≡ state_of (entry_leaves m o) → x ≡ (entry_leaves m o).memory
    → line ≡ told_line r.place said → len line ≤ line_room → Wrote t r.length line end u
    → Stepped m r t o (channel z x) (record { place = r.place + 1; length = end }) u
stepped said {r = r} e f g l h w =
    record {
      left = rw (f, g);
      next = refl;
      wrote = rw (l ∙ told_line-said r.place said ∙ ap (answer_line r.place) e) at w;
      short = omega (arith, w.place, h);
    }

-- ---- the first log records of a log

-- what comes next where the first k are cut off is log record k
pub chunk_next : (k : ℕ) (s : List ℕ) {d x rest : List ℕ} {n : ℕ} → n ≡ 24 → d ≡ drop (k * 24) s → (d ≡ x ++ rest) × (len x ≡ min n (len d)) × (0 < len d)
    → (k < entry_count s) × (x ≡ entry_at s k) × (rest ≡ drop ((k + 1) * 24) s)
chunk_next k s {d} {x} {rest} size left c =
    let n : len x ≡ min 24 (len d) = c.1 ∙ ap (λ i. min i (len d)) size in
    let next : k * 24 + 24 ≡ (k + 1) * 24 = omega arith in (
      omega (arith, c.2, ap len left, length-drop (k * 24) s),
      sym (take-append_seam x rest) ∙ ap (take (len x)) (sym c.0) ∙ ap (λ i. take i d) n ∙ take_min 24 d ∙ ap (take 24) left,
      sym (drop-append_seam x rest) ∙ ap (drop (len x)) (sym c.0) ∙ ap (λ i. drop i d) n ∙ drop_min 24 d ∙ ap (drop 24) left ∙ drop-drop 24 (k * 24) s
          ∙ ap (λ i. drop i s) next,
    )

-- and where nothing is left, they are all
pub chunk_none : (k : ℕ) (s : List ℕ) {d : List ℕ} → d ≡ drop (k * 24) s → len d ≡ 0 → k ≤ entry_count s → k ≡ entry_count s
chunk_none k s e z h = omega (arith, z, ap len e, length-drop (k * 24) s)

-- none yet
pub went_none : (m : Channel) (place : ℕ) (s t : List ℕ) → Went m place s t 0 m (record { place = place; length = 0 }) t
went_none m place s t = record { left = refl; next = sym (add-zero place); wrote = record { place = refl; holds = refl }; short = omega arith }

-- one more
pub went_next : {m n l : Channel} {place k : ℕ} {s t u v : List ℕ} {r q : Replayed}
    → k < entry_count s → Went m place s t k n r u → Stepped n r u (entry_at s k) l q v
    → Went m place s t (k + 1) l q v
went_next {m} {place = place} {k} {s} h w g =
    record {
      left = rw (table_after_next m s k h, ← w.left) g.left;
      next = omega (arith, w.next, g.next);
      wrote = rw (lines_to_next m s place k h, joined_next, ← w.next, ← w.left) (and_then w.wrote g.wrote);
      short = omega (arith, w.short, g.short);
    }

-- all, where the text has room: what a replay returns and leaves, and the text with the rest wiped
pub went_all : {m n : Channel} {place : ℕ} {s t u : List ℕ} {r : Replayed} → entry_count s * line_room ≤ len t → Went m place s t (entry_count s) n r u
    → (r ≡ replay_returned place m s) × (r.length ≤ len t) × (n ≡ replayed m s) × (zero_from r.length u ≡ holds_only (len t) (joined (log_lines place m s)))
unfolding replay_returned
went_all {m} {place = place} {s} {t} {r = r} h w =
    let v = rw (lines_to_all m s place) at w.wrote in
    let f = start_wiped v (omega (arith, v.place, w.short)) in
    (λ i. record { place = w.next i; length = f.0 i }, omega (arith, w.short), w.left ∙ table_after_all m s, f.1)

-- no log record at all: all stays as it was, and there is no text
pub none-replayed : (place : ℕ) (m : Channel) → (◌≡◌ {A = Replayed} (record { place = place; length = 0 }) (replay_returned place m [])) × (m ≡ replayed m []) × ([] ≡ log_lines place m [])
unfolding entries replay_returned
none-replayed place m = (λ i. record { place = sym (add-zero place) i; length = 0 }, refl, refl)

-- ---- room

-- the code's test: there is room for n lines in a text of l octets, and n places from a place on fit
abbrev pub room_test : ℕ → ℕ → ℕ → Bool
room_test n l place = leb n (l / line_room) && leb n (2 ^ 64 - 1 - place)

-- where it holds, so does the definition's
pub room_true : (n l place : ℕ) → place < 2 ^ 64 → room_test n l place ≡ true → (n * line_room ≤ l) × (place + n < 2 ^ 64)
room_true n l place p e =
    let t = (and-eq-true_iff (leb n (l / line_room)) (leb n (2 ^ 64 - 1 - place))).0 e in
    let a = leb-true n (l / line_room) t.0 in
    let b = leb-true n (2 ^ 64 - 1 - place) t.1 in
    (omega arith, omega arith)

-- then the whole log is replayed
pub log_in_room : (place : ℕ) (s t : List ℕ) → (entry_count s * line_room ≤ len t) × (place + entry_count s < 2 ^ 64) → log_in place s t ≡ s
unfolding log_in
log_in_room place s t h = rw (le-leb (entry_count s * line_room) (len t) h.0, lt-ltb (place + entry_count s) (2 ^ 64) h.1)

-- where it does not, nothing is
pub log_in-none : (place : ℕ) (s t : List ℕ) → room_test (entry_count s) (len t) place ≡ false → log_in place s t ≡ []
unfolding log_in
log_in-none place s t e =
    by_test (leb (entry_count s * line_room) (len t))
    (λ a. by_test (ltb (place + entry_count s) (2 ^ 64))
    (λ b. let h = leb-true (entry_count s * line_room) (len t) a in
    let l = ltb-true (place + entry_count s) (2 ^ 64) b in
    let x = le-leb (entry_count s) (len t / line_room) (omega arith) in
    let y = le-leb (entry_count s) (2 ^ 64 - 1 - place) (omega arith) in
    let z : ◌≡◌ {A = Bool} true false = rw (x, y) at e in
    let o : ◌≡◌ {A = ℕ} 0 1 = cc in absurd (omega arith))
    (λ b. rw (a, b)))
    (λ a. rw a)
