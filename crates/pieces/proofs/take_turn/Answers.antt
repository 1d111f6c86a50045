use Rattle.std.proofs.Common.{rules, arith}
use Rattle.std.proofs.Math.Nat.{div-mul-le_self}
use Rattle.pieces.specs.Steps.{ReadOn}
use Rattle.pieces.proofs.Held.{went_on}
use Rattle.pieces.proofs.take_turn.Goals as goal

pub returns-clause-fewer : goal.returns-clause-fewer
returns-clause-fewer g c = search rules

pub returns-clause-taken : goal.returns-clause-taken
returns-clause-taken g c =
    let read : ReadOn (g.R.Read.remaining c.args.input.now) (g.R.Read.remaining c.read_on.new.input) c.args.held c.in_ok-total.total c.args.buffer.now c.read_on.new.buffer = search rules in
    let fits = div-mul-le_self c.in_ok-total.total g.row.SIZE in
    went_on _ _ _ _ _ _ _ _ _ _ (search rules) (omega (arith, fits)) c.to_front.ensures read (search rules)
