-- `daylog::log_record` meets its contract: each number stands at its place, the last one in three octets. Assumes nothing.
use Rattle.std.proofs.Common.{ℕ, ◌≡◌, ◌+◌, ◌*◌, List, length, get_or, arith, ◌∙◌, rules}
use lib.Seq.{drop-cons}
use Rattle.octets.specs.Octets.{number, number_at}
use Rattle.octets.proofs.Octets.{number_at_one, number_at_in}
use Rattle.daylog.specs.Entries.{log_record_of}
use Rattle.daylog.proofs.log_record.Goals as goal

-- the last three octets
closing : (m : List ℕ) → length m ≡ 24 → number_at 3 m 21 ≡ get_or m 21 0 + 256 * (get_or m 22 0 + 256 * get_or m 23 0)
unfolding number
closing m h =
    number_at_in 3 m 21 (omega (arith, h)) ∙ rw (drop-cons m 21 0 (omega (arith, h)), drop-cons m 22 0 (omega (arith, h)), drop-cons m 23 0 (omega (arith, h))) (omega arith)

pub returns : goal.returns
unfolding log_record_of
returns c =
    let last : c.from_le_bytes.result ≡ number_at 3 c.args.octets.now 21 = omega (arith, c.from_le_bytes.ensures, closing c.args.octets.now (omega arith)) in
    search (rules, last, number_at_one)
