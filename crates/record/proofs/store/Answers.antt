-- `record::store` meets its contract: the octets from the place of record i on are written over, and past the last record neither `stored` nor
-- `set` changes anything. Assumes nothing.
use Rattle.std.proofs.Common.{◌+◌, ◌*◌, arith, sym}
use borrow.Rule.Slice.PartMut.{Post-is}
use lib.Seq.{set_out}
use Rattle.record.specs.Record.{size, fields, FitRec, all_records}
use Rattle.record.proofs.Images.{length-all_records}
use Rattle.record.proofs.Places.{store_promised, stored_out}
use Rattle.record.proofs.store.Goals as goal

pub returns-then-i-capacity : goal.returns-then-i-capacity
unfolding size fields
returns-then-i-capacity c =
    let m = c.args.memory.now in
    let i = c.args.i in
    let r = c.args.r in
    let h : FitRec r = omega (arith, c.well_formed) in
    let p = store_promised _ m i r h (omega arith) (rw (c.encode_over.ensures, Post-is (i * size) (i * size + size) m (omega arith))) in
    record { octets = p.0; records = p.1 }

pub returns-else-i-capacity : goal.returns-else-i-capacity
returns-else-i-capacity c =
    let m = c.args.memory.now in
    record {
      octets = sym (stored_out m c.args.i c.args.r (omega arith));
      records = sym (set_out (all_records m) c.args.i c.args.r (omega (arith, length-all_records m)));
    }
