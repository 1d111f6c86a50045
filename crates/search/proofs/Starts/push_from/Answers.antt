-- `search::Starts::push_from` meets its contract: a start more stands behind those put so far. Assumes nothing.
use Prim.Native.Nat.{◌+◌, ◌≤◌}
use native.Mathlib.Omega.{arith}
use mathlib.Core.Path.{◌≡◌, sym, ap, ◌∙◌}
use mathlib.Core.List.{append_assoc}
use lib.ListN.{length}
use lib.Seq.{length-take-le}
use Rattle.std.proofs.lemmas.Grind.{take-set_at}
use Rattle.octets.proofs.Lists.{from_append}
use Rattle.search.proofs.Starts.push_from.Goals as goal

pub loop-k-preserved : goal.loop-k-preserved
loop-k-preserved c =
    let l = c.loop-k in
    let m = c.self.inside.number in
    let fits : m ≤ 16 = c.self.invariant in
    let held : length c.args.self.now ≡ m = ap length (sym c.self.view_is) ∙ length-take-le m c.self.inside.places (omega arith) in (
      l.invariant.0,
      take-set_at l.self-inside.places (m + l.k) (m + (l.k + 1)) (c.args.start + l.k) (omega arith) (omega arith)
          ∙ rw (l.invariant.1, from_append c.args.start l.k 1, append_assoc),
    )
