-- `daylog::claims` promises what its cases compute to, and that only 24 octets are a log record. Assumes nothing.
use mathlib.Core.Path.{refl}
use lib.ListN.{length}
use borrow.Author.Tests.{ne_eqb}
use Rattle.octets.specs.Octets.{number, number_at}
use Rattle.daylog.specs.Entries.{call_in, log_record_of}
use Rattle.daylog.proofs.claims.Goals as goal

pub returns : goal.returns
unfolding call_in log_record_of number_at number
returns c =
    record {
      one_reserve = refl;
      all_ones = refl;
      only_24 = λ o h. simp (ne_eqb (length o) 24 h);
    }
