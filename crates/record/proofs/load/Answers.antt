-- `record::load` meets its contract: the octets of record i are those from its place on, and past the last record `get_or` gives the record of
-- zeros too. Assumes nothing.
use Rattle.std.proofs.Common.{◌≡◌, ◌+◌, ◌-◌, ◌*◌, arith, rules, sym, ◌∙◌}
use lib.ListN.{get_or-eq_default}
use Rattle.record.specs.Record.{size, blank, all_records}
use Rattle.record.proofs.Images.{length-all_records}
use Rattle.record.proofs.Places.{decode_part}
use Rattle.record.proofs.load.Goals as goal

pub returns-then-i-capacity : goal.returns-then-i-capacity
unfolding size
returns-then-i-capacity c =
    let m = c.args.memory.now in
    let i = c.args.i in
    let e : i * size + size - i * size ≡ size = omega arith in
    c.decoded.ensures ∙ rw e (decode_part m i (omega arith))

pub returns : goal.returns
unfolding blank
returns c =
    let m = c.args.memory.now in
    let d = c.default.ensures in
    let e : c.default.result ≡ blank = search rules in
    e ∙ sym (get_or-eq_default (all_records m) blank {n = c.args.i} (omega (arith, length-all_records m)))
