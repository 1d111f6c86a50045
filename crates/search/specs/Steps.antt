-- What the private functions ask and promise: the code's own steps. Nothing that a caller of the crate has to believe.
use Rattle.std.specs.Prelude.{ℕ, zero, suc, ◌+◌, ◌-◌, ◌≤◌, ◌<◌, ◌≡◌, Bool, cond, List, ltb, eqb, get_or}
use Rattle.sound.specs.Sound.{Channel}
use Rattle.table.specs.Memory.{table_of}
use Rattle.search.specs.declared.Query.{Query}
use Rattle.search.specs.Search.{listed, states_of}

-- what the tests before 21 leave of a query
pub record WellAsked (q : Query) : Type 0 where
  pub in_order : q.lo ≤ q.hi
  pub not_late : q.hi ≤ 1_000_000_000
  pub short : q.length ≤ 32
  pub some_wanted : 0 < q.wanted
  pub few : q.wanted ≤ 16

-- what a search lists of a channel, where it is not refused
abbrev pub answered : Channel → Query → List ℕ
answered m q = listed (states_of (table_of m)) q

-- ---- octets of slot states

-- the octet at a place is below x
abbrev pub octet_below : List ℕ → ℕ → ℕ → Bool
octet_below xs x i = ltb (get_or xs i 0) x

-- how many of the n numbers from lo on, counted from the last back, pass one after the other
unfoldable pub streak : (ℕ → Bool) → ℕ → ℕ → ℕ
streak p lo zero = 0
streak p lo (suc n) = cond (p (lo + n)) (streak p lo n + 1) 0

-- what a block must be below to matter: once enough level 1 starts are kept, only one that is all free does
abbrev pub bound_by : ℕ → ℕ → ℕ
bound_by kept most = cond (eqb kept most) 1 2

-- ---- the starts found

-- the slot behind the block has an octet, at each start from one on but the last below another
abbrev pub BehindAre : List ℕ → Query → ℕ → ℕ → ℕ → Type 0
BehindAre xs q x start end = (s : ℕ) → start ≤ s → s + 1 < end → get_or xs (s - q.lo + q.length) 0 ≡ x
