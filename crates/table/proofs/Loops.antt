-- Loops over the first records of a memory: those that stay moved to the front, each one changed. Assumes nothing.
use Prim.Native.Nat.{ℕ, suc, ◌+◌, ◌<◌, ◌≤◌}
use native.Mathlib.Nat.{add-zero}
use native.Mathlib.Numerals.{add-one}
use native.Mathlib.Omega.{arith}
use mathlib.Core.Path.{◌≡◌, refl, ap, ◌∙◌, sym}
use mathlib.Core.Bool.{Bool, true, false, cond}
use mathlib.Core.List.{List, [], ◌∷◌, ◌++◌, map, append_assoc, append-nil, map-append}
use lib.ListN.{length, get_or, take, drop, set, length-append, length-take, length-drop, length-map}
use lib.Seq.{take-suc, drop-cons, get_or_at, set_at, length-take-le, get_or-drop, drop-drop, drop-set-lt, take-set-le, take-suc-set}
use Rattle.octets.specs.Lists.{keep, every}
use Rattle.octets.proofs.Lists.{keep_append, keep-every, length-keep}
use Rattle.record.specs.Record.{blank}
use Rattle.record.specs.declared.Rec.{Rec}
use Rattle.table.specs.Steps.{sieved, mapped}

-- ---- the records that pass, counted and moved to the front

module _ (p : Rec → Bool) (vs : List Rec) where
  -- of i records no more than i pass
  pub kept_le : (i : ℕ) → length (keep p (take i vs)) ≤ i
  kept_le i = omega (arith, length-keep p (take i vs), length-take i vs)

  -- one record more
  keep_more : (i : ℕ) → i < length vs → keep p (take (i + 1) vs) ≡ keep p (take i vs) ++ cond (p (get_or vs i blank)) (get_or vs i blank ∷ []) []
  keep_more i h = rw (add-one, take-suc vs i blank h, keep_append)

  -- it is counted where it passes
  pub count_next : (w : List Rec) (i k next : ℕ) → i < length vs → k ≡ length (keep p (take i vs)) → get_or w i blank ≡ get_or vs i blank → next ≡ sieved p w i (k + 1) k
      → next ≡ length (keep p (take (i + 1) vs))
  count_next w i k next h ek at e = rw (e, at, keep_more i h, length-append, ← ek) (go (p (get_or vs i blank)))
    where
      go : (b : Bool) → cond b (k + 1) k ≡ k + length (cond b (get_or vs i blank ∷ []) [])
      go true = refl
      go false = sym (add-zero k)

  -- w is vs with the k that pass of its first i records moved to the front: from i on it is as it was
  abbrev pub Sifted : List Rec → ℕ → ℕ → Type 0
  Sifted w i k = (k ≡ length (keep p (take i vs))) × (take k w ≡ keep p (take i vs)) × (drop i w ≡ drop i vs)

  -- where the first i records all pass, they are at the front already
  pub sifted_start : (i : ℕ) → i ≤ length vs → every p (take i vs) ≡ true → Sifted vs i i
  sifted_start i h e = rw (keep-every p (take i vs) e) (sym (length-take-le i vs h), refl, refl)

  -- one record more is moved down, and counted where it passes
  pub sifted_next : (w left : List Rec) (i k next : ℕ) → i < length vs → Sifted w i k → next ≡ sieved p w i (k + 1) k → left ≡ set w k (get_or w i blank) → Sifted left (i + 1) next
  sifted_next w left i k next h s e l = (count_next w i k next h s.0 at e, rw (e, l, at, keep_more i h) (front (p (get_or vs i blank))), rw l back)
    where
      at : get_or w i blank ≡ get_or vs i blank
      at = simp (get_or-drop, add-zero) at (ap (λ u. get_or u 0 blank) s.2)

      room : k < length w
      room = omega (arith, s.0, kept_le i, length-drop i w, length-drop i vs, ap length s.2)

      front : (b : Bool) → take (cond b (k + 1) k) (set w k (get_or vs i blank)) ≡ keep p (take i vs) ++ cond b (get_or vs i blank ∷ []) []
      front true = rw (add-one, take-suc-set w k (get_or vs i blank) room, s.1)
      front false = rw (append-nil, take-set-le k w k (get_or vs i blank) (omega arith)) s.1

      back : drop (i + 1) (set w k (get_or w i blank)) ≡ drop (i + 1) vs
      back =
          rw (drop-set-lt (i + 1) w k (get_or w i blank) (omega (arith, s.0, kept_le i)), ← drop-drop 1 i w, ← drop-drop 1 i vs, s.2)

-- ---- record after record changed

-- the first i records of vs are changed in w, and i is the next
module _ (f : Rec → Rec) (vs w : List Rec) (i : ℕ) (h : i < length vs) (ew : w ≡ mapped f i vs) where
  -- the next record stands behind the changed ones
  mapped-is : w ≡ map f (take i vs) ++ (get_or vs i blank ∷ drop (suc i) vs)
  unfolding mapped
  mapped-is = ew ∙ rw (drop-cons vs i blank h)

  -- which are i
  mapped_len : length (map f (take i vs)) ≡ i
  mapped_len = length-map (take i vs) f ∙ length-take-le i vs (omega arith)

  -- it is as it was
  pub mapped_at : get_or w i blank ≡ get_or vs i blank
  mapped_at = rw (mapped-is, get_or_at (map f (take i vs)) (get_or vs i blank) (drop (suc i) vs) blank i mapped_len)

  -- changed, it stands with the others
  pub mapped_next : (left : List Rec) → left ≡ set w i (f (get_or w i blank)) → left ≡ mapped f (i + 1) vs
  unfolding mapped
  mapped_next left l =
      rw (
        l,
        mapped_at,
        mapped-is,
        set_at (map f (take i vs)) (get_or vs i blank) (drop (suc i) vs) (f (get_or vs i blank)) i mapped_len,
        add-one,
        take-suc vs i blank h,
        map-append,
        append_assoc,
      )
