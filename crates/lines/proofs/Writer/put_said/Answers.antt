-- `lines::Writer::put_said` meets its contract: the line that the refusal calls for. Assumes nothing.
use Prim.Native.Nat.{ℕ}
use mathlib.Core.Path.{◌≡◌, refl, sym}
use Rattle.octets.specs.Refusals.{answer}
use Rattle.octets.proofs.Refusals.{answer_accepted, answer-refused}
use Rattle.lines.specs.Listing.{refused_line}
use Rattle.lines.specs.Day.{ok_line}
use Rattle.lines.proofs.Writer.put_said.Goals as goal

-- an accepted call's line
accepted : (refusal number : ℕ) → refusal ≡ 0 → ok_line number ≡ answer refusal (ok_line number) refused_line
accepted refusal number h = answer_accepted (ok_line number) refused_line (sym h)

-- a refused one's
refused-by : (refusal number : ℕ) → (refusal ≡ 0 → ⊥) → refused_line refusal ≡ answer refusal (ok_line number) refused_line
refused-by refusal number h = answer-refused (ok_line number) refused_line refl h

pub put_told-requires : goal.put_told-requires
unfolding ok_line
put_told-requires c = rw (← accepted c.args.refusal c.args.number c.if-refusal-eq0.true) at c.requires

pub returns-then-refusal-eq0 : goal.returns-then-refusal-eq0
unfolding ok_line
returns-then-refusal-eq0 c = rw (← accepted c.args.refusal c.args.number c.if-refusal-eq0.true) c.put_told.ensures

pub put_refused-requires : goal.put_refused-requires
put_refused-requires c = rw (← refused-by c.args.refusal c.args.number c.if-refusal-eq0.false) at c.requires

pub returns-else-refusal-eq0 : goal.returns-else-refusal-eq0
returns-else-refusal-eq0 c = rw (← refused-by c.args.refusal c.args.number c.if-refusal-eq0.false) c.put_refused.ensures
