-- `lines::Writer::put_small` meets its contract: the digits as `small_wrote` has them. Assumes nothing.
use Prim.Native.Nat.{ℕ, ◌+◌, ◌<◌}
use mathlib.Core.Path.{◌≡◌, refl}
use mathlib.Core.List.{List}
use native.Mathlib.Omega.{arith}
use lib.ListN.{length, length-set}
use Rattle.lines.specs.Text.{decimal}
use Rattle.lines.proofs.Small.{third, small_wrote}
use Rattle.lines.proofs.Wrote.{put_of}
use Rattle.lines.proofs.Writer.put_small.Goals as goal

-- the last digit stands at the end of the number
place : (l : List ℕ) (at n : ℕ) → n < 1000 → third at n + 1 ≡ at + length (decimal n)
place l at n small = (small_wrote l at n small).place

pub bounds-self-i : goal.bounds-self-i
bounds-self-i c = omega (arith, c.requires.1.room, place c.args.self.now.octets.now c.args.self.now.at c.args.n c.requires.0)

pub bounds-self-j : goal.bounds-self-j
bounds-self-j c = simp length-set (omega (arith, c.requires.1.room, place c.args.self.now.octets.now c.args.self.now.at c.args.n c.requires.0))

pub bounds-self-k : goal.bounds-self-k
bounds-self-k c = simp length-set (omega (arith, c.requires.1.room, place c.args.self.now.octets.now c.args.self.now.at c.args.n c.requires.0))

pub returns : goal.returns
returns c =
    put_of refl
    (rw (
      c.from-2.ensures,
      c.from.ensures,
      c.digit-ones.ensures,
      c.digit-tens.ensures,
      c.digit-hundreds.ensures,
    )
    (small_wrote c.args.self.now.octets.now c.args.self.now.at c.args.n c.requires.0))
