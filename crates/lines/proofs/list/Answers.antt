-- `lines::list` meets its contract: all lines where there is room, none where not, and the rest wiped. Assumes nothing.
use Prim.Native.Nat.{◌*◌}
use mathlib.Core.Path.{ap, ◌∙◌}
use native.Mathlib.Omega.{arith}
use borrow.Author.Rules.{rules}
use borrow.Author.Tests.{le-leb}
use lib.ListN.{length}
use Rattle.octets.specs.Octets.{zero_from}
use Rattle.lines.specs.Listing.{groups, longest}
use Rattle.lines.proofs.Wrote.{start_wiped}
use Rattle.lines.proofs.list.Goals as goal

pub returns-clause-text_after : goal.returns-clause-text_after
returns-clause-text_after c =
    let a = c.args in
    let h = le-leb (groups a.input.now * longest) (length a.text.now) (omega arith) in
    let w = c.put_lines.ensures.put.wrote in
    let f = start_wiped w (omega (arith, w.place)) in
    rw h (c.clear_from-2.ensures ∙ ap (zero_from c.put_lines.new.self.at) (search rules) ∙ f.1)
