-- `search::look_in` meets its contract: along the map from lo's octet on, or along a window. Assumes nothing.
use Prim.Native.Nat.{ℕ, ◌+◌, ◌-◌, ◌≤◌}
use native.Mathlib.Omega.{arith}
use mathlib.Core.Path.{◌≡◌, sym, ap, ◌∙◌}
use mathlib.Core.List.{List}
use lib.ListN.{length, take, drop, length-drop}
use lib.Seq.{take_all}
use borrow.Author.Tests.{leb-true}
use Rattle.slotmap.specs.Map.{Mapped, with_map}
use Rattle.search.specs.Search.{listed, states_in}
use Rattle.slotmap.proofs.Fresh.{is_fresh-size}
use Rattle.search.proofs.InMap.{listed-from_lo}
use Rattle.search.proofs.look_in.Goals as goal
use Rattle.search.proofs.look_in.Goals.{Then-is_inside, Start}

-- the table and the map that came
abbrev given : (c : Start) → Mapped
given s = with_map s.args.s s.args.memory.now s.args.map.now

-- the map has M1 octets
sized : (s : Start) → length s.args.map.now ≡ s.args.s.m1
sized s = is_fresh-size (given s) s.requires.fresh

-- the blocks lie wholly in it
inside : (c : Then-is_inside) → let a = c.args in a.asked.q.hi + a.asked.q.length ≤ a.s.now + a.s.m1
inside c =
    let a = c.args in
    leb-true (a.asked.q.hi + a.asked.q.length) (a.s.now + a.s.m1) (sym c.is_inside.ensures ∙ c.if-is_inside.true)

-- the part of it that is lent: the octets from lo's on
lent : (c : Then-is_inside) → let a = c.args in let at = a.asked.q.lo - a.s.now in take (length a.map.now - at) (drop at a.map.now) ≡ drop at a.map.now
lent c =
    let a = c.args in
    let at = a.asked.q.lo - a.s.now in
    take_all (length a.map.now - at) (drop at a.map.now) (rw length-drop (omega arith))

pub slice_bounds-scan-count : goal.slice_bounds-scan-count
slice_bounds-scan-count c =
    let at = goal.at.slice_bounds-scan-count c in
    omega (arith, sized at.Start, inside at.Then-is_inside, c.args.asked.well_asked.in_order)

pub slice_bounds-scan-start : goal.slice_bounds-scan-start
slice_bounds-scan-start c =
    let at = goal.at.slice_bounds-scan-start c in
    omega (arith, sized at.Start, inside at.Then-is_inside, c.args.asked.well_asked.in_order)

pub scan-requires : goal.scan-requires
scan-requires c =
    let at = goal.at.scan-requires c in
    let long = ap length (lent at.Then-is_inside) ∙ length-drop (c.args.asked.q.lo - c.args.s.now) c.args.map.now in
    omega (arith, long, sized at.Start, inside at.Then-is_inside, c.args.asked.well_asked.in_order, c.requires.from_now)

pub returns-then-is_inside : goal.returns-then-is_inside
returns-then-is_inside c =
    let at = goal.at.returns-then-is_inside c in
    let a = c.args in
    c.scan.ensures
    ∙ ap (λ (xs : List ℕ). listed (states_in xs a.asked.q.lo) a.asked.q) (lent at.Then-is_inside)
    ∙ listed-from_lo (given at.Start) c.requires.fresh a.asked.q c.requires.from_now (inside at.Then-is_inside)
