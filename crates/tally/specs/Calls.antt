-- How calls are counted.
use Rattle.std.specs.Prelude.{ℕ, ◌+◌, min}
use Rattle.octets.specs.Refusals.{answer}
use Rattle.tally.specs.declared.Tally.{Tally}

-- one more; each count stops at 4,294,967,295
abbrev pub one_more : ℕ → ℕ
one_more n = min (n + 1) 4_294_967_295

-- the tally after a call's refusal number, 0 being accepted
unfoldable pub counted : Tally → ℕ → Tally
counted t refusal =
    answer
    refusal
    (record { accepted = one_more t.accepted; refused = t.refused })
    (λ n. record { accepted = t.accepted; refused = one_more t.refused })
