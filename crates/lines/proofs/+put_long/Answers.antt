-- `lines::put_long` meets its contract: by recursion, the digits of n / 1000, and then three more. Assumes nothing.
use Prim.Native.Nat.{ℕ, ◌+◌, ◌/◌, ◌%◌, ◌≤◌}
use mathlib.Core.Path.{◌≡◌, ap, ◌∙◌}
use mathlib.Core.List.{List}
use native.Mathlib.Omega.{arith}
use borrow.Author.Rules.{rules}
use lib.ListN.{length, length-append}
use Rattle.lines.specs.Text.{decimal}
use Rattle.lines.specs.Steps.{Wrote, three}
use Rattle.lines.proofs.Decimal.{decimal_thousand}
use Rattle.lines.proofs.Wrote.{and_then}
use Rattle.lines.proofs.+put_long.Goals as goal

-- three digits more
length_thousand : (n : ℕ) → 1000 ≤ n → length (decimal n) ≡ length (decimal (n / 1000)) + 3
length_thousand n h = ap length (decimal_thousand n h) ∙ length-append (decimal (n / 1000)) (three (n % 1000))

-- the octets o, as they are after the digits of n / 1000 and three more, have the number
thousand_wrote : {l l₁ l₂ o : List ℕ} {at r₁ r₂ : ℕ} (n : ℕ) → 1000 ≤ n → Wrote l at (decimal (n / 1000)) r₁ l₁ → Wrote l₁ r₁ (three (n % 1000)) r₂ l₂ → o ≡ l₂
    → Wrote l at (decimal n) r₂ o
thousand_wrote n h a b e = rw (decimal_thousand n h, e) (and_then a b)

pub put_small-requires : goal.put_small-requires
put_small-requires t c =
    (c.if-high-lt1000.true, record { room = omega (arith, c.requires.1, length_thousand c.args.n c.requires.0) })

pub put_three-requires : goal.put_three-requires
put_three-requires t c =
    (omega arith, record { room = omega (arith, c.requires.1, length_thousand c.args.n c.requires.0) })

pub returns-then-high-lt1000 : goal.returns-then-high-lt1000
returns-then-high-lt1000 t c =
    thousand_wrote c.args.n c.requires.0 c.put_small.ensures.wrote c.put_three.ensures.wrote (search rules)

pub put_long-at-requires : goal.put_long-at-requires
put_long-at-requires t c =
    (omega arith, (c.if-high-lt1000.false, omega (arith, c.requires.1, length_thousand c.args.n c.requires.0)))

pub put_three-requires-2 : goal.put_three-requires-2
put_three-requires-2 t c =
    (omega arith, record { room = omega (arith, c.requires.1, length_thousand c.args.n c.requires.0) })

pub returns : goal.returns
returns t c =
    thousand_wrote c.args.n c.requires.0 c.put_long-at.ensures c.put_three-2.ensures.wrote (search rules)
