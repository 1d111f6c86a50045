-- Laws of sequences over `++` and `take`: what a machine leaves and says, and the lines of its answers. Assumes nothing.
use Prim.Native.Nat.{ℕ, zero, suc, ◌+◌}
use native.Mathlib.Nat.{add-zero, add_assoc}
use native.Mathlib.Numerals.{one-add}
use mathlib.Core.Path.{◌≡◌, refl, ap}
use mathlib.Core.List.{List, [], ◌∷◌, ◌++◌, append_assoc, append-nil}
use lib.ListN.{length as len, take}
use Rattle.table.specs.Table.{Said}
use Rattle.lines.specs.Day.{said_line}
use Rattle.trace.specs.Machine.{Machine, runs, transcript}
use Rattle.day.specs.Day.{lines_from, joined}

-- ---- runs and transcript

module _ {S C W : Type 0} (k : Machine S C W) where
  -- a sequence and then another leave what the other leaves on what the one left
  pub runs_append : (s : S) (cs ds : List C) → runs k s (cs ++ ds) ≡ runs k (runs k s cs) ds
  runs_append s [] ds = refl
  runs_append s (c ∷ cs) ds = runs_append (k.leaves s c) cs ds

  -- one call more
  pub runs_next : (s : S) (cs : List C) (c : C) → runs k s (cs ++ (c ∷ [])) ≡ k.leaves (runs k s cs) c
  runs_next s cs c = runs_append s cs (c ∷ [])

  -- the answers to a sequence and then another
  pub transcript_append : (s : S) (cs ds : List C) → transcript k s (cs ++ ds) ≡ transcript k s cs ++ transcript k (runs k s cs) ds
  transcript_append s [] ds = refl
  transcript_append s (c ∷ cs) ds = ap (λ es. (c, k.says s c) ∷ es) (transcript_append (k.leaves s c) cs ds)

  -- one call more
  pub transcript_next : (s : S) (cs : List C) (c : C) → transcript k s (cs ++ (c ∷ [])) ≡ transcript k s cs ++ ((c, k.says (runs k s cs) c) ∷ [])
  transcript_next s cs c = transcript_append s cs (c ∷ [])

  -- the first calls get the first answers
  pub transcript-take : (n : ℕ) (s : S) (cs : List C) → transcript k s (take n cs) ≡ take n (transcript k s cs)
  transcript-take zero s cs = refl
  transcript-take (suc n) s [] = refl
  transcript-take (suc n) s (c ∷ cs) = ap (λ es. (c, k.says s c) ∷ es) (transcript-take n (k.leaves s c) cs)

  -- an answer for each call
  pub length-transcript : (s : S) (cs : List C) → len (transcript k s cs) ≡ len cs
  length-transcript s [] = refl
  length-transcript s (c ∷ cs) = ap suc (length-transcript (k.leaves s c) cs)

-- ---- lines_from

-- the lines of answers and then of others, which stand further on
pub lines_from_append : (place : ℕ) (es fs : List (List ℕ × Said)) → lines_from place (es ++ fs) ≡ lines_from place es ++ lines_from (place + len es) fs
lines_from_append place [] fs = rw add-zero
lines_from_append place (e ∷ es) fs = rw (lines_from_append (place + 1) es fs, add_assoc place 1 (len es), one-add)

-- one line more
pub lines_from_next : (place : ℕ) (es : List (List ℕ × Said)) (o : List ℕ) (w : Said)
    → lines_from place (es ++ ((o, w) ∷ [])) ≡ lines_from place es ++ (said_line (place + len es) w.refusal w.number ∷ [])
lines_from_next place es o w = lines_from_append place es ((o, w) ∷ [])

-- the first answers have the first lines
pub lines_from-take : (n place : ℕ) (es : List (List ℕ × Said)) → lines_from place (take n es) ≡ take n (lines_from place es)
lines_from-take zero place es = refl
lines_from-take (suc n) place [] = refl
lines_from-take (suc n) place (e ∷ es) = ap (λ ls. said_line place e.1.refusal e.1.number ∷ ls) (lines_from-take n (place + 1) es)

-- a line for each answer
pub length-lines_from : (place : ℕ) (es : List (List ℕ × Said)) → len (lines_from place es) ≡ len es
length-lines_from place [] = refl
length-lines_from place (e ∷ es) = ap suc (length-lines_from (place + 1) es)

-- ---- joined

-- lists and then others, one after the other
pub joined_append : (xs ys : List (List ℕ)) → joined (xs ++ ys) ≡ joined xs ++ joined ys
joined_append [] ys = refl
joined_append (x ∷ xs) ys = rw (joined_append xs ys, append_assoc)

-- one list more
pub joined_next : (xs : List (List ℕ)) (x : List ℕ) → joined (xs ++ (x ∷ [])) ≡ joined xs ++ x
joined_next xs x = rw (joined_append, append-nil)
