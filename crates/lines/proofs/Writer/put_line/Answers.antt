-- `lines::Writer::put_line` meets its contract: the line of what a group reads as; no line is longer than `longest`. Assumes nothing.
use mathlib.Core.Path.{ap}
use native.Mathlib.Omega.{arith}
use lib.ListN.{length}
use Rattle.lines.proofs.Lines.{line-block_line, line-refused_line, line-longest}
use Rattle.lines.proofs.Writer.put_line.Goals as goal

pub put_fields-requires : goal.put_fields-requires
put_fields-requires c =
    let e = line-block_line c.args.group.now c.in-Ok.ensures in
    let f = line-longest c.args.group.now (λ i. (c.type_inv.group i).fits) in
    record { room = omega (arith, c.requires, f, ap length e) }

pub put_refused-requires : goal.put_refused-requires
put_refused-requires c =
    let e = line-refused_line c.args.group.now c.in-Err.e c.in-Err.ensures in
    let f = line-longest c.args.group.now (λ i. (c.type_inv.group i).fits) in
    rw c.from.ensures (record { room = omega (arith, c.requires, f, ap length e) })

pub returns-in-Ok : goal.returns-in-Ok
returns-in-Ok c =
    let e = line-block_line c.args.group.now c.in-Ok.ensures in
    let f = line-longest c.args.group.now (λ i. (c.type_inv.group i).fits) in
    record { put = rw e c.put_fields.ensures; short = omega (arith, f, c.put_fields.ensures.wrote.place, ap length e) }

pub returns-in-Err : goal.returns-in-Err
returns-in-Err c =
    let e = line-refused_line c.args.group.now c.in-Err.e c.in-Err.ensures in
    let f = line-longest c.args.group.now (λ i. (c.type_inv.group i).fits) in
    let p = rw c.from.ensures at c.put_refused.ensures in
    record { put = rw e p; short = omega (arith, f, p.wrote.place, ap length e) }
