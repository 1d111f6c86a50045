-- `gemthatch::gemthatch_search` meets its contract: the search with as many places as the wiped octets have, its starts put into them. Assumes nothing.
use Prim.Native.Nat.{ℕ, ◌/◌}
use native.Mathlib.Omega.{arith}
use mathlib.Core.Path.{◌≡◌, sym, ap, ◌∙◌}
use mathlib.Core.List.{List}
use lib.ListN.{length, take, replicate, length-take}
use Rattle.std.proofs.Common.{min}
use Rattle.octets.specs.Octets.{holds_only}
use Rattle.octets.specs.Refusals.{answer}
use Rattle.gemthatch.specs.OverC.{over_c, lent_map, query, search_number, in_octets, search_list}
use Rattle.gemthatch.proofs.Places.{told_alike, told_found, told_none}
use Rattle.gemthatch.proofs.gemthatch_search.Goals as goal
use Rattle.gemthatch.proofs.gemthatch_search.Goals.{After-min-places}

-- the places that no search has more of
abbrev sixteen : List ℕ
sixteen = replicate 16 0

-- as many places as the octets have, but no more than sixteen
all : (c : After-min-places) → length (take c.min-places.result sixteen) ≡ min (length c.args.list.now / 4) 16
all c = omega (arith, length-take c.min-places.result sixteen, c.min-places.ensures, c.clear_from.auto.memory)

pub slice_bounds-put_numbers-end : goal.slice_bounds-put_numbers-end
slice_bounds-put_numbers-end c =
    let a = c.args in
    let f = told_found (lent_map a.m1 a.time a.count a.memory.now a.map.now) (query a.lo a.hi a.length a.wanted) (length a.list.now / 4) (all (goal.at.slice_bounds-put_numbers-end c).After-min-places) c.in-Ok.ensures.answer c.in-Ok.ensures.list in
    f.0 ∙ ap length (sym f.1)

pub returns-in-Ok-clause-answer : goal.returns-in-Ok-clause-answer
unfolding search_number over_c answer
returns-in-Ok-clause-answer c =
    let a = c.args in
    ap (λ w. over_c w.refusal w.number)
    (told_alike (lent_map a.m1 a.time a.count a.memory.now a.map.now) (query a.lo a.hi a.length a.wanted) (length a.list.now / 4) (all (goal.at.returns-in-Ok-clause-answer c).After-min-places) c.in-Ok.ensures.answer)

pub returns-in-Ok-clause-list : goal.returns-in-Ok-clause-list
unfolding search_list
returns-in-Ok-clause-list c =
    let a = c.args in
    let f = told_found (lent_map a.m1 a.time a.count a.memory.now a.map.now) (query a.lo a.hi a.length a.wanted) (length a.list.now / 4) (all (goal.at.returns-in-Ok-clause-list c).After-min-places) c.in-Ok.ensures.answer c.in-Ok.ensures.list in
    c.put_numbers.ensures
    ∙ ap (λ i. holds_only i (in_octets (take c.in-Ok.number c.search.new.list))) c.clear_from.auto.memory
    ∙ ap (λ ns. holds_only (length a.list.now) (in_octets ns)) f.1

pub returns-in-Err-clause-answer : goal.returns-in-Err-clause-answer
unfolding search_number
returns-in-Err-clause-answer c =
    let a = c.args in
    c.refused.ensures
    ∙ ap (λ w. over_c w.refusal w.number)
    (told_alike (lent_map a.m1 a.time a.count a.memory.now a.map.now) (query a.lo a.hi a.length a.wanted) (length a.list.now / 4) (all (goal.at.returns-in-Err-clause-answer c).After-min-places) c.in-Err.ensures.answer)

pub returns-in-Err-clause-list : goal.returns-in-Err-clause-list
unfolding search_list
returns-in-Err-clause-list c =
    let a = c.args in
    let none = told_none (lent_map a.m1 a.time a.count a.memory.now a.map.now) (query a.lo a.hi a.length a.wanted) (length a.list.now / 4) (all (goal.at.returns-in-Err-clause-list c).After-min-places) c.in-Err.e c.in-Err.ensures.answer in
    c.clear_from.ensures ∙ ap (λ ns. holds_only (length a.list.now) (in_octets ns)) (sym none)
