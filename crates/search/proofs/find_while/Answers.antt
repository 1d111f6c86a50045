-- `search::find_while` meets its contract: no more starts are put than there is room for. Assumes nothing.
use Prim.Native.Nat.{ℕ, zero, suc, ◌+◌, ◌-◌, ◌≤◌}
use native.Mathlib.Omega.{arith}
use mathlib.Core.Path.{◌≡◌, refl, ap, ◌∙◌}
use lib.ListN.{length, length-append}
use Rattle.octets.specs.Lists.{from}
use Rattle.search.proofs.find_while.Goals as goal
use Rattle.search.proofs.find_while.Goals.{else-loop-n-test, then-loop-n-test+then-s-q}

-- so many numbers are in a row
length-from : (s n : ℕ) → length (from s n) ≡ n
length-from s zero = refl
length-from s (suc n) = ap suc (length-from (s + 1) n)

pub returns-clause-at_most_wanted : goal.returns-clause-at_most_wanted
returns-clause-at_most_wanted c =
    let n = c.loop-n-test.n in
    let longer : length c.push_from.new.self ≡ length c.args.found.now + length (from c.args.start n) = ap length c.push_from.ensures ∙ length-append _ _ in
    let in_room : n ≤ c.args.asked.q.wanted - c.len.result =
    elim c.loop-n-test.branch [ else-loop-n-test w ↦ omega (arith, w.n-is) | then-loop-n-test+then-s-q w ↦ omega (arith, w.n-is, w.loop-n-test) ] in
    omega (arith, longer, length-from c.args.start n, in_room)
