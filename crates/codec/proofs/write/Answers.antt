-- `codec::write` meets its contract: what its tests tell; what is not refused fits; a refused writing has nine zeros. Assumes nothing.
use mathlib.Core.Path.{refl}
use Rattle.std.proofs.Common.{Ok, Err}
use Rattle.codec.proofs.Tests.{write_passed, tells_writing, zeros_written}
use Rattle.codec.proofs.write.Goals as goal

pub store-requires : goal.store-requires
store-requires c = (write_passed _ c.in-Ok.ensures.0).0

pub returns-in-Ok : goal.returns-in-Ok
returns-in-Ok c =
    let p = tells_writing c.args.b (Ok _) (c.in-Ok.ensures.0, c.store.ensures) in
    record { told = (p.0, refl); octets = p.1 }

pub returns-in-Err : goal.returns-in-Err
returns-in-Err c =
    record { told = tells_writing c.args.b (Err c.in-Err.e) c.in-Err.ensures; octets = zeros_written c.args.b c.in-Err.e c.in-Err.ensures }
