-- `codec::default_figure` meets its contract: what follows from the row. Assumes nothing.
use mathlib.Core.Path.{sym, ◌∙◌, ap}
use Rattle.std.proofs.lemmas.Result.{err_from_is_err_and}
use Rattle.refusal.specs.Refusals.{number_of}
use Rattle.codec.specs.Parameters.{default_lookup}
use Rattle.codec.specs.Rates.{Lookup, refused_lookup}
use Rattle.codec.proofs.Parameters.{found_row, lost_row, unknown-none}
use Rattle.codec.proofs.default_figure.Goals as goal

pub returns-in_err-row_of : goal.returns-in_err-row_of
unfolding default_lookup
returns-in_err-row_of c =
    let p = err_from_is_err_and c.from_residual.result c.from_residual.ensures.1 in
    let l = lost_row _ _ c.in_err-row_of.ensures in
    rw (p.1, p.2) (ap (λ (x : Lookup). x.refusal) (unknown-none _ l.0 _ _) ∙ sym (ap number_of l.1))

pub returns : goal.returns
unfolding default_lookup
returns c =
    let r = found_row _ _ c.in_ok-row_of.ensures in
    let f = r.follows (λ row. record { refusal = 0; number = row.default }) (refused_lookup 22) in
    (ap (λ (x : Lookup). x.refusal) f, sym (ap (λ (x : Lookup). x.number) f))
