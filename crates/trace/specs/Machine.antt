-- Machines, and sequences of calls on one: each call gets what the last one left.
use Rattle.std.specs.Prelude.{◌≡◌, List, [], ◌∷◌}

-- a machine of the states S and the calls C: what a call leaves, and what it says
pub record Machine (S C W : Type 0) : Type 0 where
  pub leaves : S → C → S
  pub says : S → C → W

-- ---- sequences

-- what a sequence leaves
abbrev pub runs : {S C W : Type 0} → Machine S C W → S → List C → S
runs k s [] = s
runs k s (c ∷ cs) = runs k (k.leaves s c) cs

-- its calls, each with its answer
abbrev pub transcript : {S C W : Type 0} → Machine S C W → S → List C → List (C × W)
transcript k s [] = []
transcript k s (c ∷ cs) = (c, k.says s c) ∷ transcript k (k.leaves s c) cs

-- ---- the same of real calls, of which nothing is known but a promise: `P s c w t`, the call c on s says w and leaves t

-- `Made P s cs t es`: the calls cs, made on s, ended at t with the answers es
pub data Made {S C W : Type 0} (P : S → C → W → S → Type 0) : S → List C → S → List (C × W) → Type 0 where
  none : {s : S} → Made P s [] s []
  made : {s t u : S} {c : C} {cs : List C} {w : W} {es : List (C × W)} → P s c w t → Made P t cs u es → Made P s (c ∷ cs) u ((c, w) ∷ es)

-- a promise that settles both: what is said and left is the machine's
abbrev pub Settles : {S C W : Type 0} → Machine S C W → (S → C → W → S → Type 0) → Type 0
Settles {S} {C} {W} k P = (s t : S) (c : C) (w : W) → P s c w t → (t ≡ k.leaves s c) × (w ≡ k.says s c)

-- ---- two machines

-- `Refines k l write Good`: on `write t` the machine k does what l does on t, and says the same, wherever t is good; and l leaves it good
pub record Refines {S T C W : Type 0} (k : Machine S C W) (l : Machine T C W) (write : T → S) (Good : T → Type 0) : Type 0 where
  pub leaves : (t : T) (c : C) → Good t → k.leaves (write t) c ≡ write (l.leaves t c)
  pub says : (t : T) (c : C) → Good t → k.says (write t) c ≡ l.says t c
  pub kept : (t : T) (c : C) → Good t → Good (l.leaves t c)
