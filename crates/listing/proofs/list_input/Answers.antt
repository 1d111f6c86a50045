-- The header is written, and then the lines.
use Rattle.std.proofs.Common.{rules, subst}
use Rattle.std.specs.Io.KnownBytes.{Appends}
use Rattle.listing.proofs.Shown.{lines_behind}
use Rattle.listing.proofs.list_input.Goals as goal

pub returns : goal.returns
returns g c =
    let output = g.W.Write.contents c.args.shown.now.output in
    let head : Appends output (g.W.Write.contents c.write_all.new.self) c.header.result = search rules in
    lines_behind c.each.result _ _ _ _ (subst (Appends output _) c.header.ensures head) c.each.ensures
