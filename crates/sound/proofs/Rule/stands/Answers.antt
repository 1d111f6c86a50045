-- `sound::Rule::stands` meets its contract: in range, no sum is above 32 bits. Assumes nothing.
use Rattle.std.proofs.Common.{◌≡◌, ℕ, ◌+◌, ◌-◌, ◌*◌, ◌/◌, ◌≤◌, true, le_trans, mul-le-mul, div-le_self, zero-le, arith}
use Rattle.record.specs.declared.Rec.{Rec}
use Rattle.series.specs.Series.{further_from, last_slot}
use Rattle.series.proofs.Tests.{leb-not}
use Rattle.series.proofs.Series.{last_slot-later, further_from_next, further_before_sum}
use Rattle.sound.specs.Sound.{in_range, lasts}
use Rattle.sound.proofs.Ranges.{Ranges, ranges}
use Rattle.sound.proofs.Rule.stands.Goals as goal

-- the numbers of a record in range are bounded, and so are the products of its sums
bounds : (r : Rec) (m1 : ℕ) → in_range r ≡ true → m1 ≤ 15360 → Ranges r × ((r.superframes - 1) * m1 ≤ 30720) × ((r.rate - 1) * (m1 / r.rate) ≤ 906240)
bounds r m1 h most =
    let k = ranges r h in
    let f : r.superframes - 1 ≤ 2 = omega arith in
    let g : r.rate - 1 ≤ 59 = omega arith in
    let a : (r.superframes - 1) * m1 ≤ 2 * 15360 = mul-le-mul f most in
    let b : (r.rate - 1) * (m1 / r.rate) ≤ 59 * 15360 = mul-le-mul g (le_trans (div-le_self m1 r.rate) most) in
    (k, omega arith, omega arith)

pub overflow_sub-base : goal.overflow_sub-base
overflow_sub-base c = rw c.from.ensures (omega (arith, bounds c.args.r c.args.self.m1 c.requires c.args.self.m1_most))

pub overflow_add-base : goal.overflow_add-base
overflow_add-base c = rw c.from.ensures (omega (arith, bounds c.args.r c.args.self.m1 c.requires c.args.self.m1_most))

pub overflow_sub-last : goal.overflow_sub-last
overflow_sub-last c = rw c.from-rate.ensures (omega (arith, bounds c.args.r c.args.self.m1 c.requires c.args.self.m1_most))

pub nonzero_div-last : goal.nonzero_div-last
nonzero_div-last c = rw c.from-rate.ensures (omega (arith, bounds c.args.r c.args.self.m1 c.requires c.args.self.m1_most))

pub overflow_add-last : goal.overflow_add-last
overflow_add-last c =
    rw (c.from.ensures, c.from-rate.ensures) (omega (arith, bounds c.args.r c.args.self.m1 c.requires c.args.self.m1_most))

pub overflow_add-last-2 : goal.overflow_add-last-2
overflow_add-last-2 c =
    rw (c.from.ensures, c.from-rate.ensures) (omega (arith, bounds c.args.r c.args.self.m1 c.requires c.args.self.m1_most))

pub overflow_sub-last-2 : goal.overflow_sub-last-2
overflow_sub-last-2 c = omega (arith, bounds c.args.r c.args.self.m1 c.requires c.args.self.m1_most)

pub overflow_add-last-3 : goal.overflow_add-last-3
overflow_add-last-3 c =
    rw (c.from.ensures, c.from-rate.ensures) (omega (arith, bounds c.args.r c.args.self.m1 c.requires c.args.self.m1_most))

pub overflow_add-result : goal.overflow_add-result
overflow_add-result c =
    rw c.from.ensures (omega (arith, bounds c.args.r c.args.self.m1 c.requires c.args.self.m1_most))

pub returns : goal.returns
unfolding lasts
returns c =
    let m1 = c.args.self.m1 in
    let r = c.args.r in
    let k = ranges r c.requires in
    let next = further_from_next m1 r k.superframes.0 in
    let from : r.first + (r.superframes - 1) * m1 + (m1 + c.from-2.result) ≡ further_from m1 r = omega arith in
    let last : r.first + (r.superframes - 1) * m1 + (r.rate - 1) * (m1 / r.rate) + c.from-4.result - 1 + c.later_by-later.result ≡ last_slot m1 r =
    omega (arith, last_slot-later m1 r c.from-3.result (omega arith)) in
    rw (c.from.ensures, c.from-rate.ensures, further_before_sum m1 r 0 zero-le, from, last, leb-not 128 (further_from m1 r))
