-- Windows of slot states: wiped, raised in part, moved on, and a map raised in place. Assumes nothing.
use Prim.Native.Nat.{ℕ, zero, suc, ◌+◌, ◌-◌, ◌≤◌}
use native.Mathlib.Omega.{arith}
use mathlib.Core.Path.{◌≡◌, refl, sym, ap, ◌∙◌}
use mathlib.Core.Bool.{Bool, not, ◌&&◌, and-eq-true_iff}
use mathlib.Core.List.{List, [], ◌∷◌, ◌++◌, append-nil}
use lib.Dec.{leb}
use lib.ListN.{length, take, drop, replicate, length-append, length-take, length-drop, length-replicate, take-append-drop, drop_of_length-le}
use lib.Seq.{take_all, take_at, take-append-le, length-take-le}
use borrow.Author.Tests.{leb-true}
use Rattle.std.specs.Prelude.{Some}
use Rattle.std.proofs.lemmas.Option.{none-some, same_Some}
use Rattle.octets.specs.Lists.{keep}
use Rattle.octets.specs.Octets.{zero_from, holds_only, copied_over}
use Rattle.octets.proofs.Refusals.{by_test}
use Rattle.octets.proofs.Zeros.{length-holds_only}
use Rattle.octets.proofs.Copied.{copied_over_all}
use Rattle.record.specs.declared.Rec.{Rec}
use Rattle.table.specs.declared.State.{State}
use Rattle.slots.specs.Window.{window_states, raised}
use Rattle.slots.proofs.Window.{length-window_states, take-window_states, length-raised, window_room}
use Rattle.slots.proofs.Parts.{raised_both, window_parts}
use Rattle.slotmap.specs.Steps.{moved_by}

-- ---- a wiped window

-- some of a run of zeros
take-replicate : (n m : ℕ) → n ≤ m → take {A = ℕ} n (replicate m 0) ≡ replicate n 0
take-replicate zero m h = refl
take-replicate (suc n) zero h = absurd (omega arith)
take-replicate (suc n) (suc m) h = ap (λ (xs : List ℕ). 0 ∷ xs) (take-replicate n m (omega arith))

-- a wiped window is all 0
wiped_zeros : (w : List ℕ) → w ≡ holds_only (length w) [] → w ≡ replicate (length w) 0
wiped_zeros w e = let z : length w - 0 ≡ length w = omega arith in e ∙ ap (λ (k : ℕ). replicate k 0) z

-- so many of a window's zeros are a wiped window
zeros_wiped : (n m : ℕ) → n ≤ m → take {A = ℕ} n (replicate m 0) ≡ holds_only (length (take {A = ℕ} n (replicate m 0))) []
zeros_wiped n m h =
    let e = take-replicate n m h in
    let l : n ≡ length (take {A = ℕ} n (replicate m 0)) - 0 = omega (arith, ap length e, length-replicate {A = ℕ} n 0) in
    e ∙ ap (λ (k : ℕ). replicate k 0) l

-- raised, and the room behind it made 0, it holds the states
pub wiped_raised : (m1 : ℕ) (rs : List Rec) (lo : ℕ) (w : List ℕ) → w ≡ holds_only (length w) []
    → zero_from (length w - 32) (raised m1 rs lo w) ≡ holds_only (length w) (window_states m1 rs lo (length w - 32))
wiped_raised m1 rs lo w e =
    ap (λ (ys : List ℕ). zero_from (length w - 32) (raised m1 rs lo ys)) (wiped_zeros w e) ∙ window_room m1 rs lo (length w)

-- ---- a window that holds the states

-- the first of them
pub take_window : (m1 : ℕ) (rs : List Rec) (lo n k : ℕ) → k + 32 ≤ n → take k (holds_only n (window_states m1 rs lo (n - 32))) ≡ window_states m1 rs lo k
take_window m1 rs lo n k h =
    take-append-le k (window_states m1 rs lo (n - 32)) _ (rw (length-window_states m1 rs lo (n - 32)) (omega arith))
    ∙ take-window_states m1 rs lo (n - 32) k (omega arith)

-- ---- a window of n slots and its room

module _ (m1 lo n : ℕ) where
  -- holding states, it is as long as they and the room
  pub window_long : (rs : List Rec) (w : List ℕ) → w ≡ holds_only (n + 32) (window_states m1 rs lo n) → length w ≡ n + 32
  window_long rs w e =
      ap length e ∙ length-holds_only (n + 32) (window_states m1 rs lo n) (omega (arith, length-window_states m1 rs lo n))

  -- the first octets of zeros, raised by records, hold their states
  pub window_raised : (rs : List Rec) (k : ℕ) (x rest : List ℕ) → n + 32 ≤ k → length x ≡ length (take {A = ℕ} (n + 32) (replicate k 0))
      → x ≡ zero_from (length (take {A = ℕ} (n + 32) (replicate k 0)) - 32) (raised m1 rs lo (take (n + 32) (replicate k 0)))
      → take (n + 32) (x ++ rest) ≡ holds_only (n + 32) (window_states m1 rs lo n)
  window_raised rs k x rest h same e =
      let room : n + 32 - 32 ≡ n = omega arith in
      let l : length (take {A = ℕ} (n + 32) (replicate k 0)) ≡ n + 32 = length-take-le (n + 32) (replicate k 0) (omega (arith, h, length-replicate {A = ℕ} k 0)) in
      take_at x rest (n + 32) (same ∙ l)
      ∙ e
      ∙ wiped_raised m1 rs lo (take (n + 32) (replicate k 0)) (zeros_wiped (n + 32) k h)
      ∙ ap (λ (i : ℕ). holds_only i (window_states m1 rs lo (i - 32))) l
      ∙ ap (λ (i : ℕ). holds_only (n + 32) (window_states m1 rs lo i)) room

  -- holding the states by the records that fail a test, and raised by those that pass, it begins with those by all
  pub window_both : (p : Rec → Bool) (rs : List Rec) (w x : List ℕ) → w ≡ holds_only (n + 32) (window_states m1 (keep (λ r. not (p r)) rs) lo n)
      → x ≡ zero_from (length w - 32) (raised m1 (keep p rs) lo w) → take n x ≡ window_states m1 rs lo n
  window_both p rs w x others e =
      let rest = keep (λ r. not (p r)) rs in
      let room : n ≡ n + 32 - 32 = omega arith in
      ap (take n)
      (e
      ∙ ap (λ (k : ℕ). zero_from (k - 32) (raised m1 (keep p rs) lo w)) (window_long rest w others)
      ∙ window_parts m1 p rs lo (n + 32) w (others ∙ ap (λ (k : ℕ). holds_only (n + 32) (window_states m1 rest lo k)) room))
      ∙ take_window m1 rs lo (n + 32) n (omega arith)

-- ---- a map raised in place

module _ (m1 : ℕ) (rs : List Rec) where
  -- octets with others behind them, raised: the first are the first raised
  take-raised : (lo n : ℕ) (xs ys : List ℕ) → length xs ≡ n → take n (raised m1 rs lo (xs ++ ys)) ≡ raised m1 rs lo xs
  take-raised lo n xs ys e =
      ap (take n) (raised_both m1 rs lo xs ys) ∙ take_at (raised m1 rs lo xs) (raised m1 rs (lo + length xs) ys) n (length-raised m1 rs lo xs ∙ e)

  -- octets of a window of their own, raised with room behind them
  room_raised : (lo n : ℕ) (xs ys : List ℕ) → length xs ≡ n → take n (zero_from n (raised m1 rs lo (xs ++ ys))) ≡ raised m1 rs lo xs
  room_raised lo n xs ys e = rw (take-raised lo n xs ys e) (take_at (raised m1 rs lo xs) _ n (length-raised m1 rs lo xs ∙ e))

  module _ (lo : ℕ) (p : List ℕ) (long : 32 ≤ length p) where
    -- all but the last 32
    abbrev most : ℕ
    most = length p - 32

    -- the last 32 octets, copied into a window of their own and raised there
    tail_raised : (t₀ t : List ℕ) → t₀ ≡ copied_over (take (length p - most) (drop most p)) (replicate 64 0) → t ≡ zero_from (length t₀ - 32) (raised m1 rs (lo + most) t₀)
        → (take 32 t ≡ raised m1 rs (lo + most) (drop most p)) × (32 ≤ length t)
    tail_raised t₀ t e f =
        let last = drop most p in
        let l : length last ≡ 32 = length-drop most p ∙ omega arith in
        let all : take (length p - most) last ≡ last = take_all (length p - most) last (omega arith) in
        let room : copied_over last (replicate 64 0) ≡ last ++ replicate 32 0 = rw (l, take_all 64 last (omega arith)) in
        let d : t₀ ≡ last ++ replicate 32 0 = e ∙ ap (λ (ys : List ℕ). copied_over ys (replicate 64 0)) all ∙ room in
        let k : length t₀ ≡ 64 = ap length d ∙ length-append last (replicate 32 0) ∙ omega (arith, length-replicate {A = ℕ} 32 0) in
        let h : t ≡ zero_from 32 (raised m1 rs (lo + most) (last ++ replicate 32 0)) =
        f ∙ ap (λ (i : ℕ). zero_from (i - 32) (raised m1 rs (lo + most) t₀)) k ∙ ap (λ (ys : List ℕ). zero_from 32 (raised m1 rs (lo + most) ys)) d in
        let g = ap (take 32) h ∙ room_raised (lo + most) 32 last (replicate 32 0) l in
        (g, omega (arith, ap length g, length-raised m1 rs (lo + most) last, length-take 32 t))

    -- the others, raised in place
    front_raised : (p' : List ℕ) → p' ≡ zero_from most (raised m1 rs lo p) → (take most p' ≡ raised m1 rs lo (take most p)) × (length p' ≡ length p)
    front_raised p' e =
        let l : length (take most p) ≡ most = length-take-le most p (omega arith) in
        let all = raised m1 rs lo p in
        let k : length all ≡ length p = length-raised m1 rs lo p in
        let size : length (zero_from most all) ≡ length p = length-append (take most all) _ ∙ omega (arith, length-take-le most all (omega arith), length-replicate {A = ℕ} (length all - most) 0) in (
          ap (take most) (e ∙ ap (λ (ys : List ℕ). zero_from most (raised m1 rs lo ys)) (sym (take-append-drop most p))) ∙ room_raised lo most (take most p) (drop most p) l,
          ap length e ∙ size,
        )

    -- and those put behind them: the map raised
    pub over_raised : (t₀ t p' y : List ℕ) → t₀ ≡ copied_over (take (length p - most) (drop most p)) (replicate 64 0) → t ≡ zero_from (length t₀ - 32) (raised m1 rs (lo + most) t₀)
        → p' ≡ zero_from most (raised m1 rs lo p) → y ≡ copied_over t (take (length p' - most) (drop most p'))
        → take most p' ++ (y ++ drop (length p' - most) (drop most p')) ≡ raised m1 rs lo p
    over_raised t₀ t p' y a b c d =
        let tail = tail_raised t₀ t a b in
        let front = front_raised p' c in
        let l : length (take most p) ≡ most = length-take-le most p (omega arith) in
        let part = take (length p' - most) (drop most p') in
        let k : length (drop most p') ≡ 32 = length-drop most p' ∙ omega (arith, front.1) in
        let size : length part ≡ 32 = length-take-le (length p' - most) (drop most p') (omega (arith, front.1)) ∙ omega (arith, front.1) in
        let over : y ≡ raised m1 rs (lo + most) (drop most p) = d ∙ copied_over_all t part (omega (arith, tail.1)) ∙ ap (λ (i : ℕ). take i t) size ∙ tail.0 in
        let none : drop (length p' - most) (drop most p') ≡ [] = drop_of_length-le (drop most p') {i = length p' - most} (omega (arith, front.1)) in
        rw (front.0, over, none, append-nil)
        (ap (λ (i : ℕ). raised m1 rs lo (take most p) ++ raised m1 rs (lo + i) (drop most p)) (sym l)
        ∙ sym (raised_both m1 rs lo (take most p) (drop most p))
        ∙ ap (raised m1 rs lo) (take-append-drop most p))

-- ---- by how many slots a clock moves the map on

-- by so many that it begins at the clock's slot
pub moved_by-some : (s : State) (slot by : ℕ) → moved_by s slot ≡ Some by → s.now + by ≡ slot
moved_by-some s slot by e =
    by_test (leb s.now slot && leb slot (s.now + s.m1))
    (λ h.
    let p = (and-eq-true_iff (leb s.now slot) (leb slot (s.now + s.m1))).0 h in
    omega (arith, same_Some by (slot - s.now) (sym e ∙ rw h refl), leb-true s.now slot p.0))
    (λ h. absurd (none-some by (sym (rw h refl) ∙ e)))
