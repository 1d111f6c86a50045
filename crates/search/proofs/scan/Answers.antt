-- `search::scan` meets its contract: the starts below the one that the loop has come to are decided. Assumes nothing.
use Prim.Native.Nat.{◌+◌, ◌≤◌, ◌<◌, min}
use native.Mathlib.Omega.{arith}
use mathlib.Core.Path.{◌≡◌, sym, ◌∙◌}
use lib.ListN.{length}
use Rattle.search.specs.Search.{states_in}
use Rattle.search.specs.Steps.{bound_by}
use Rattle.search.proofs.Decided.{bound-≤, bound_open, passes, all_free, not_all_free, bound_above, none_taken}
use Rattle.search.proofs.Scanned.{Scanned, cut-≤, scanned_skip, scanned_free, scanned_untaken, scanned_early, scanned_all}
use Rattle.search.proofs.scan.Goals as goal
use Rattle.search.proofs.scan.Goals.{After-up_to_last-reserved, After-up_to_last-ruled_out, After-find_while-start, After-find_while-start-then-ruled_out-eq0}

-- ---- what is known at a place

-- in a turn the starts below `start` are decided
here : (c : After-up_to_last-reserved) → let l = c.loop-start in Scanned (states_in c.args.states.now c.args.asked.q.lo) c.args.asked.q l.start l.free l.untaken
here c =
    let e : min c.loop-start.start (c.args.asked.q.hi + 1) ≡ c.loop-start.start = omega (arith, c.loop-start-test.true) in
    rw e at c.loop-start.invariant.2

-- the level 0 starts from it on are found
free :
    (c : After-find_while-start) → let l = c.loop-start in
    let r = c.find_while-start in
    Scanned (states_in c.args.states.now c.args.asked.q.lo) c.args.asked.q l.start l.free l.untaken
    → Scanned (states_in c.args.states.now c.args.asked.q.lo) c.args.asked.q (l.start + r.result) r.new.found l.untaken
free c so_far =
    let a = c.args in
    let l = c.loop-start in
    let r = c.find_while-start in
    let block = all_free a.states.now a.asked.q l.start l.invariant.0 c.up_to_last-reserved.result c.up_to_last-reserved.ensures c.if-reserved-eq0.true in
    scanned_free a.states.now a.asked.q so_far r.result r.ensures.in_range r.ensures.at_most_wanted l.invariant.1 r.ensures.found block r.ensures.behind

module _ (c : After-up_to_last-ruled_out) where
  -- what a block must be below, by the level 1 starts kept
  bounded : c.bound.result ≡ bound_by (length c.loop-start.untaken) c.args.asked.q.wanted
  bounded = rw (← c.len-else-reserved-eq0.ensures) c.bound.ensures

  -- where no slot is ruled out, level 1 starts are still to be kept
  still_kept : c.up_to_last-ruled_out.result ≡ 0 → length c.loop-start.untaken < c.args.asked.q.wanted
  still_kept none =
      let a = c.args in
      let l = c.loop-start in
      let above =
      bound_above a.states.now a.asked.q l.start l.invariant.0 c.up_to_last-reserved.result c.up_to_last-reserved.ensures c.if-reserved-eq0.false
      c.bound.result c.up_to_last-ruled_out.result c.up_to_last-ruled_out.ensures none in
      let less = bound_open (length l.untaken) a.asked.q.wanted (rw bounded at above) in
      omega (arith, cut-≤ a.asked.q.wanted _ l.invariant.2.untaken, less)

-- the level 1 starts from it on are kept
untaken :
    (c : After-find_while-start-then-ruled_out-eq0) → let l = c.loop-start in
    let r = c.find_while-start-then-ruled_out-eq0 in
    length l.untaken < c.args.asked.q.wanted
    → Scanned (states_in c.args.states.now c.args.asked.q.lo) c.args.asked.q l.start l.free l.untaken
    → Scanned (states_in c.args.states.now c.args.asked.q.lo) c.args.asked.q (l.start + r.result) l.free r.new.found
untaken c room so_far =
    let a = c.args in
    let l = c.loop-start in
    let r = c.find_while-start-then-ruled_out-eq0 in
    let some = c.if-reserved-eq0.false in
    let reserved = not_all_free a.states.now a.asked.q l.start l.invariant.0 c.up_to_last-reserved.result c.up_to_last-reserved.ensures some in
    let bound : c.bound.result ≤ 2 = omega (arith, c.bound.ensures, bound-≤ c.len-else-reserved-eq0.result a.asked.q.wanted) in
    let block =
    none_taken a.states.now a.asked.q l.start l.invariant.0 c.up_to_last-reserved.result c.up_to_last-reserved.ensures some
    c.bound.result c.up_to_last-ruled_out.result c.up_to_last-ruled_out.ensures c.if-ruled_out-eq0.true bound in
    scanned_untaken a.states.now a.asked.q so_far r.result r.ensures.in_range r.ensures.at_most_wanted room r.ensures.found
    (omega (arith, c.up_to_last-reserved.ensures, some)) reserved block r.ensures.behind

-- ---- the goals

pub returns-then-len-most : goal.returns-then-len-most
returns-then-len-most c =
    let at = goal.at.returns-then-len-most c in
    scanned_early (free at.After-find_while-start (here at.After-up_to_last-reserved)) (sym c.len.ensures ∙ c.if-len-most.true)

pub loop-start-preserved-else-len-most : goal.loop-start-preserved-else-len-most
loop-start-preserved-else-len-most c =
    let at = goal.at.loop-start-preserved-else-len-most c in
    let l = c.loop-start in
    let r = c.find_while-start in
    let e : min (l.start + r.result) (c.args.asked.q.hi + 1) ≡ l.start + r.result = omega (arith, r.ensures.in_range) in
    (omega (arith, l.invariant.0), omega (arith, r.ensures.at_most_wanted, c.len.ensures, c.if-len-most.false), rw e (free at.After-find_while-start (here at.After-up_to_last-reserved)))

pub find_while-start-requires-then-ruled_out-eq0-clause-not_enough : goal.find_while-start-requires-then-ruled_out-eq0-clause-not_enough
find_while-start-requires-then-ruled_out-eq0-clause-not_enough c =
    still_kept (goal.at.find_while-start-requires-then-ruled_out-eq0-clause-not_enough c).After-up_to_last-ruled_out c.if-ruled_out-eq0.true

pub loop-start-preserved-then-ruled_out-eq0 : goal.loop-start-preserved-then-ruled_out-eq0
loop-start-preserved-then-ruled_out-eq0 c =
    let at = goal.at.loop-start-preserved-then-ruled_out-eq0 c in
    let l = c.loop-start in
    let r = c.find_while-start-then-ruled_out-eq0 in
    let e : min (l.start + r.result) (c.args.asked.q.hi + 1) ≡ l.start + r.result = omega (arith, r.ensures.in_range) in
    let room = still_kept at.After-up_to_last-ruled_out c.if-ruled_out-eq0.true in
    (omega (arith, l.invariant.0), l.invariant.1, rw e (untaken at.After-find_while-start-then-ruled_out-eq0 room (here at.After-up_to_last-reserved)))

pub loop-start-preserved : goal.loop-start-preserved
loop-start-preserved c =
    let at = goal.at.loop-start-preserved c in
    let a = c.args in
    let l = c.loop-start in
    let n = c.up_to_last-ruled_out.result in
    let passed =
    passes a.states.now a.asked.q l.start l.invariant.0 c.bound.result c.up_to_last-reserved.result n c.up_to_last-ruled_out.ensures
    (omega (arith, c.up_to_last-reserved.ensures)) c.if-ruled_out-eq0.false in (
      omega (arith, l.invariant.0),
      l.invariant.1,
      scanned_skip a.states.now a.asked.q (here at.After-up_to_last-reserved) (min (l.start + n) (a.asked.q.hi + 1)) (omega (arith, c.loop-start-test.true)) (omega arith)
          (bounded at.After-up_to_last-ruled_out) (λ t m k. passed t m (omega arith)),
    )

pub returns : goal.returns
returns c =
    let inv = c.loop-start.invariant in
    c.append.ensures ∙ rw c.as_slice.ensures (scanned_all inv.2 (omega (arith, c.loop-start-test.false)))
