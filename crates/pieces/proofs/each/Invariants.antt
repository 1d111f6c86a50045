use Rattle.std.proofs.Common.{◌≡◌, ◌<◌, ◌*◌, ℕ, List, ◌++◌, length, take}
use Rattle.std.specs.Io.KnownBytes.{Consumes}
use Rattle.pieces.proofs.each.Given as goal

-- fewer octets than a piece are held, behind whole pieces, all of them taken
abbrev pub invariant-loop : goal.invariant-loop
invariant-loop g l =
    (l.held < g.row.SIZE)
    × (whole : List ℕ)
    × (n : ℕ)
    × (length whole ≡ n * g.row.SIZE)
    × g.T.Taker.Takes l.initial.taker whole l.taker
    × Consumes (g.R.Read.remaining l.initial.input) (g.R.Read.remaining l.input) (whole ++ take l.held l.buffer)
