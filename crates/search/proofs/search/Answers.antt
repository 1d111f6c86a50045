-- `search::search` meets its contract: what it is refused for, and else what the look along the map or a window finds. Assumes nothing.
use Prim.Native.Nat.{ℕ, ◌-◌, ◌≤◌}
use native.Mathlib.Omega.{arith}
use mathlib.Core.Path.{◌≡◌, sym, ap, ◌∙◌}
use mathlib.Core.List.{List, [], ◌++◌}
use lib.ListN.{length, drop}
use lib.Seq.{length-take-le}
use Rattle.std.proofs.lemmas.List.{drop-replicate}
use Rattle.std.proofs.Common.{Ok}
use Rattle.std.proofs.lemmas.Result.{err_from_is_err_and}
use Rattle.refusal.proofs.Numbers.{numbered}
use Rattle.octets.specs.Octets.{holds_only}
use Rattle.table.specs.Memory.{channel, table_of, call_said}
use Rattle.slotmap.specs.Map.{with_map}
use Rattle.search.specs.Search.{states_of}
use Rattle.search.specs.Steps.{answered}
use Rattle.search.proofs.Listed.{length-listed}
use Rattle.search.proofs.Refusals.{has_room, in_superframe, fit_fresh, fit_m1, asked, search_refusal_unfit, search_refusal-asked, refused_gives, none_gives, some_gives}
use Rattle.search.proofs.search.Goals as goal
use Rattle.search.proofs.search.Goals.{After-fill, In_ok-asked, After-len-number}

-- the list is wiped
wiped : (c : After-fill) → c.fill.new.self ≡ holds_only (length c.args.list.now) []
wiped c =
    let all : length c.args.list.now - 0 ≡ length c.args.list.now = omega arith in
    rw all (c.fill.ensures.after (λ y e. e))

-- what is copied to its front, with the zeros behind it
holds : (places : ℕ) {found copied list : List ℕ} (n : ℕ) → copied ≡ found → n ≡ length found → list ≡ holds_only places [] → copied ++ drop n list ≡ holds_only places found
holds places n e f w =
    let all : places - 0 ≡ places = omega arith in
    rw (e, w, all, drop-replicate, f)

module _ (c : In_ok-asked) where
  -- what a query that is not refused has passed: the wiped list is as long as the one that came
  passes : asked (with_map c.args.s c.args.memory.now c.args.map.now) c.args.q (length c.args.list.now) ≡ 0
  passes =
      ap (asked (with_map c.args.s c.args.memory.now c.args.map.now) c.args.q) (sym c.fill.ensures.len) ∙ c.in_ok-asked.ensures.0

  -- what is found has its places in the list
  fits : {n : ℕ} → n ≡ length (answered (channel c.args.s c.args.memory.now) c.args.q) → n ≤ length c.fill.new.self
  fits e = omega (arith, e, c.fill.ensures.len, length-listed (states_of (table_of (channel c.args.s c.args.memory.now))) c.args.q, has_room c.args.s.m1 c.args.s.now c.args.q (length c.args.list.now) passes)

-- what is found is what is listed for the query that came
finds : (c : After-len-number) → c.look_in-found.result ≡ answered (channel c.args.s c.args.memory.now) c.args.q
finds c = c.look_in-found.ensures ∙ ap (answered (channel c.args.s c.args.memory.now)) c.in_ok-asked.ensures.1

-- how many are found
number : (c : After-len-number) → c.len-number.result ≡ length (answered (channel c.args.s c.args.memory.now) c.args.q)
number c = c.len-number.ensures ∙ ap length (finds c)

pub returns-in_err-test : goal.returns-in_err-test
returns-in_err-test c =
    let p = err_from_is_err_and c.from_residual.result c.from_residual.ensures.1 in
    let x = with_map c.args.s c.args.memory.now c.args.map.now in
    let e = c.in_err-test.field-0.0 in
    let g = refused_gives x c.args.q (length c.args.list.now) e (search_refusal_unfit x c.args.q (length c.args.list.now) c.in_err-test.ensures (numbered e)) in
    rw (p.1, p.2) (record { answer = g.0; list = wiped (goal.at.returns-in_err-test c).After-fill ∙ g.1 })

pub returns-in_err-asked : goal.returns-in_err-asked
returns-in_err-asked c =
    let p = err_from_is_err_and c.from_residual-in_err-asked.result c.from_residual-in_err-asked.ensures.1 in
    let x = with_map c.args.s c.args.memory.now c.args.map.now in
    let n = length c.args.list.now in
    let e = c.in_err-asked.field-0.0 in
    let asks = ap (asked x c.args.q) (sym c.fill.ensures.len) ∙ c.in_err-asked.ensures in
    let g = refused_gives x c.args.q n e (search_refusal-asked x c.args.q n c.in_ok-test.ensures.0 asks (numbered e)) in
    rw (p.1, p.2) (record { answer = g.0; list = wiped (goal.at.returns-in_err-asked c).After-fill ∙ g.1 })

pub look_in-found-requires : goal.look_in-found-requires
look_in-found-requires c =
    let at = goal.at.look_in-found-requires c in
    let x = with_map c.args.s c.args.memory.now c.args.map.now in
    let starts = in_superframe c.args.s.m1 c.args.s.now c.args.q (length c.args.list.now) (passes at.In_ok-asked) in
    record {
      from_now = rw c.in_ok-asked.ensures.1 starts.0;
      in_superframe = rw c.in_ok-asked.ensures.1 starts.1;
      not_too_long = fit_m1 x c.in_ok-test.ensures.0;
      fresh = fit_fresh x c.in_ok-test.ensures.0;
    }

pub returns-then-number-eq0 : goal.returns-then-number-eq0
returns-then-number-eq0 c =
    let at = goal.at.returns-then-number-eq0 c in
    let x = with_map c.args.s c.args.memory.now c.args.map.now in
    let g = none_gives x c.args.q (length c.args.list.now) c.in_ok-test.ensures.0 (passes at.In_ok-asked) (sym (number at.After-len-number) ∙ c.if-number-eq0.true) in
    record { answer = g.0; list = wiped at.After-fill ∙ g.1 }

pub slice_bounds-copy_from_slice-end : goal.slice_bounds-copy_from_slice-end
slice_bounds-copy_from_slice-end c =
    let at = goal.at.slice_bounds-copy_from_slice-end c in
    fits at.In_ok-asked (number at.After-len-number)

pub slice_bounds-copy_from_slice-end-2 : goal.slice_bounds-copy_from_slice-end-2
slice_bounds-copy_from_slice-end-2 c =
    let at = goal.at.slice_bounds-copy_from_slice-end-2 c in
    sym (length-take-le c.len-number.result c.fill.new.self (fits at.In_ok-asked (number at.After-len-number)))

pub copy_from_slice-requires : goal.copy_from_slice-requires
copy_from_slice-requires c =
    let at = goal.at.copy_from_slice-requires c in
    length-take-le c.len-number.result c.fill.new.self (fits at.In_ok-asked (number at.After-len-number))
    ∙ c.len-number.ensures
    ∙ sym (ap length c.as_slice.ensures)

pub returns : goal.returns
returns c =
    let at = goal.at.returns c in
    let x = with_map c.args.s c.args.memory.now c.args.map.now in
    let n = number at.After-len-number in
    let g = some_gives x c.args.q (length c.args.list.now) c.in_ok-test.ensures.0 (passes at.In_ok-asked) (λ z. c.if-number-eq0.false (n ∙ z)) in
    record {
      answer = ap (λ k. call_said (Ok k)) n ∙ g.0;
      list = holds (length c.args.list.now) c.len-number.result (c.copy_from_slice.ensures.after ∙ c.as_slice.ensures ∙ finds at.After-len-number) n (wiped at.After-fill) ∙ g.1;
    }
