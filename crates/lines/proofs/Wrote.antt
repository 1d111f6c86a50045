-- Laws of texts that are put one after another, into a list and by a writer. Assumes nothing.
use Prim.Native.Nat.{ℕ, suc, ◌+◌, ◌≤◌, ◌<◌}
use mathlib.Core.Path.{◌≡◌, refl, ap, sym, ◌∙◌}
use mathlib.Core.List.{List, [], ◌∷◌, ◌++◌, append_assoc}
use native.Mathlib.Nat.{add-zero, zero-add}
use native.Mathlib.Numerals.{add-one}
use native.Mathlib.Omega.{arith}
use borrow.Rule.Slice.PartMut.{put_mid}
use lib.ListN.{length, get_or, take, drop, set, length-append}
use Rattle.std.proofs.lemmas.List.{drop-drop}
use lib.Seq.{sets, sets-eq, length-sets, set-set, take-suc, take-append_seam}
use Rattle.octets.specs.Octets.{zero_from, holds_only}
use Rattle.lines.specs.declared.Writer.{Writer}
use Rattle.lines.specs.Steps.{Room, Wrote, Put}

-- one text and then another, as one
sets_append : (l : List ℕ) (at : ℕ) (x y : List ℕ) → sets l at (x ++ y) ≡ sets (sets l at x) (at + length x) y
sets_append l at [] y = ap (λ k. sets l k y) (sym (add-zero at))
sets_append l at (b ∷ x) y =
    let e : suc at + length x ≡ at + suc (length x) = omega arith in
    sets_append _ (suc at) x y ∙ ap (λ k. sets (sets l at (b ∷ x)) k y) e

-- what is put in the place of an octet leaves no trace of it
pub sets_over : (l : List ℕ) (at a : ℕ) (x : List ℕ) → 0 < length x → sets (set l at a) at x ≡ sets l at x
sets_over l at a [] h = absurd (omega arith)
sets_over l at a (b ∷ x) h = rw set-set

-- what is copied over a part of the memory is put there
pub part_wrote : (l x : List ℕ) (at k : ℕ) → k ≡ length x → at + length x ≤ length l → Wrote l at x (at + length x) (put_mid at k l x)
part_wrote l x at k e h = record { place = refl; holds = rw (e, drop-drop, sets-eq x l at h, append_assoc) }

-- the memory keeps its length
pub length_wrote : {l l₁ x : List ℕ} {at r : ℕ} → Wrote l at x r l₁ → length l₁ ≡ length l
length_wrote w = ap length w.holds ∙ simp length-sets

-- one text and then another
pub and_then : {l l₁ l₂ x y : List ℕ} {at r₁ r₂ : ℕ} → Wrote l at x r₁ l₁ → Wrote l₁ r₁ y r₂ l₂ → Wrote l at (x ++ y) r₂ l₂
and_then {l} {x = x} {y} {at} a b =
    record {
      place = omega (arith, a.place, b.place, length-append x y);
      holds = b.holds ∙ rw (a.place, a.holds) (sym (sets_append l at x y));
    }

-- put at the start, and the rest wiped: the memory holds the text only
pub start_wiped : {l l₁ x : List ℕ} {r : ℕ} → Wrote l 0 x r l₁ → length x ≤ length l → (r ≡ length x) × (zero_from r l₁ ≡ holds_only (length l) x)
start_wiped {l} {l₁} {x} {r} w h =
    let e : r ≡ length x = w.place ∙ zero-add (length x) in
    let f : l₁ ≡ x ++ drop (length x) l = w.holds ∙ (sets-eq x l 0 (rw zero-add h) ∙ rw zero-add) in
    let g : take r l₁ ≡ x = rw (e, f, take-append_seam) in
    (e, rw (g, length_wrote w, e))

-- ---- by a writer

-- no text at all
pub put_none : (w : Writer) → Put w [] w
put_none w = record { same = refl; size = refl; wrote = record { place = sym (add-zero w.at); holds = refl } }

-- one text and then another
pub put_then : {w v u : Writer} {x y : List ℕ} → Put w x v → Put v y u → Put w (x ++ y) u
put_then a b = record { same = b.same ∙ a.same; size = b.size ∙ a.size; wrote = and_then a.wrote b.wrote }

-- what was written at a writer's place was put by it
pub put_of : {w v : Writer} {x : List ℕ} → v.octets.ghost_name ≡ w.octets.ghost_name → Wrote w.octets.now w.at x v.at v.octets.now → Put w x v
put_of s p = record { same = s; size = length_wrote p; wrote = p }

-- one octet more of the text s
pub put_next : {w v u : Writer} (s : List ℕ) (i : ℕ) → i < length s → Put w (take i s) v → Put v (get_or s i 0 ∷ []) u → Put w (take (i + 1) s) u
put_next s i h p q = rw (add-one, take-suc s i 0 h) (put_then p q)

-- where there is room for both, there is room for the first
pub room_first : {w : Writer} {x : List ℕ} (y : List ℕ) → Room w (x ++ y) → Room w x
room_first {x = x} y h = record { room = omega (arith, h.room, length-append x y) }

-- and after it for the second
pub room_then : {w v : Writer} {x y : List ℕ} → Room w (x ++ y) → Put w x v → Room v y
room_then {x = x} {y} h p =
    record { room = omega (arith, h.room, p.wrote.place, p.size, length-append x y) }
