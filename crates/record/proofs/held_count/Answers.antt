-- `record::held_count` meets its contract: past the capacity there is no record more to take. Assumes nothing.
use Rattle.std.proofs.Common.{◌≡◌, arith, min}
use Rattle.std.proofs.lemmas.List.{take_min}
use Rattle.record.specs.Record.{capacity}
use Rattle.record.proofs.Images.{length-all_records}
use Rattle.record.proofs.held_count.Goals as goal

pub returns : goal.returns
returns c =
    let m = c.args.memory.now in
    let e : c.min.result ≡ min c.args.n (capacity m) = rw c.capacity.ensures at c.min.ensures in
    (e, omega arith, rw (e, ← length-all_records m, take_min))
