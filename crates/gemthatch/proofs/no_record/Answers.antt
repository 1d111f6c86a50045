-- `gemthatch::no_record` meets its contract: the record is all 0. Assumes nothing.
use mathlib.Core.Path.{◌≡◌}
use borrow.Author.Rules.{rules}
use Rattle.record.specs.Record.{blank}
use Rattle.gemthatch.proofs.no_record.Goals as goal

pub returns : goal.returns
unfolding blank
returns c = let z : c.default.result ≡ blank = search rules in rw z
