use Rattle.std.proofs.Common.{rules, arith}
use Rattle.pieces.proofs.Held.{take-read}
use Rattle.pieces.proofs.read_on.Goals as goal

pub returns-clause-octets : goal.returns-clause-octets
returns-clause-octets g c =
    let read = c.in_ok-got.ensures in
    record {
      octets = _;
      some = omega arith;
      fits = search rules;
      holds = take-read _ _ _ _ _ (omega arith) read.bound.0;
      consumed = read.bytes.0;
      ended = λ none. read.bytes.1 (omega arith) (omega arith);
    }
