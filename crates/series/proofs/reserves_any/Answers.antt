-- `series::reserves_any` meets its contract: one series or two, by bo. Assumes nothing.
use Rattle.std.proofs.Common.{◌≡◌, sym, ◌∙◌}
use Rattle.series.specs.Series.{in_series, reserves}
use Rattle.series.proofs.Series.{reserves_one, reserves_two}
use Rattle.series.proofs.reserves_any.Goals as goal
use Rattle.series.proofs.reserves_any.Goals.{After-in_series}

-- the first series was asked
own : (c : After-in_series) → let a = c.args in in_series a.m1 a.r a.r.first a.r.superframes a.slot ≡ c.in_series.result
own c = cc

pub returns-then-in_series : goal.returns-then-in_series
unfolding reserves
returns-then-in_series c = rw (own (goal.at.returns-then-in_series c).After-in_series, c.if-in_series.true)

pub returns-then-r-eq0 : goal.returns-then-r-eq0
returns-then-r-eq0 c =
    let a = c.args in
    sym (reserves_one a.m1 a.r c.if-r-eq0.true a.slot ∙ own (goal.at.returns-then-r-eq0 c).After-in_series ∙ c.if-in_series.false)

pub returns : goal.returns
returns c =
    let a = c.args in
    rw (
      c.in_series-2.ensures,
      c.from-m.ensures,
      c.from-s.ensures,
      c.further_from.ensures.0,
      reserves_two a.m1 a.r c.if-r-eq0.false a.slot,
      own (goal.at.returns c).After-in_series,
      c.if-in_series.false,
    )
