-- The parameters (004, Table 1-3): their rows, and which figures fit.
use Rattle.std.specs.Prelude.{ℕ, ◌-◌, ◌%◌, Bool, false, cond, not, ◌&&◌, List, [], ◌∷◌, eqb}
use Rattle.octets.specs.Refusals.{outside, within}
use Rattle.codec.specs.declared.Row.{Row}
use Rattle.codec.specs.Rates.{Lookup, refused_lookup}

-- 1 M1, slots in a superframe
abbrev pub m1_row : Row
m1_row = record { minimum = 60; maximum = 15360; default = 4500; step = 60 }

-- 2 M2inc
abbrev pub m2inc_row : Row
m2inc_row = record { minimum = 1; maximum = 256; default = 2; step = 1 }

-- 3 M2limit
abbrev pub m2limit_row : Row
m2limit_row = record { minimum = 1; maximum = 65536; default = 160; step = 1 }

-- what follows from the row of a parameter's number; where no row has it, `none`
unfoldable pub by_row : {A : Type 0} → ℕ → (Row → A) → A → A
by_row number follows none =
    cond (eqb number 1) (follows m1_row)
    (cond (eqb number 2) (follows m2inc_row)
    (cond (eqb number 3) (follows m2limit_row)
    none))

-- a parameter number not 1..3
abbrev pub unknown : ℕ → Bool
unknown number = outside 1 3 number

-- a figure fits if it lies in its row's range and exceeds the minimum by a whole number of steps
unfoldable pub fits : Row → ℕ → Bool
fits row figure = within row.minimum row.maximum figure && eqb ((figure - row.minimum) % row.step) 0

-- what a parameter check is refused for: 22, 10
unfoldable pub parameter_tests : ℕ → ℕ → List (ℕ × Bool)
parameter_tests number figure = (22, unknown number) ∷ (10, by_row number (λ row. not (fits row figure)) false) ∷ []

-- the default of a parameter's row, 22 where there is none
unfoldable pub default_lookup : ℕ → Lookup
default_lookup number = by_row number (λ row. record { refusal = 0; number = row.default }) (refused_lookup 22)
