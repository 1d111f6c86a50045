-- What a search has found stands at the front of its list.
use Rattle.marked.proofs.Fronts.{counts_found}
use Rattle.marked.proofs.put_search.Goals as goal

pub slice_bounds-list-end : goal.slice_bounds-list-end
slice_bounds-list-end g c = (counts_found _ _ _ _ _ c.in-Ok.ensures.answer c.in-Ok.ensures.list).0

pub slice_bounds-put_numbers-end : goal.slice_bounds-put_numbers-end
slice_bounds-put_numbers-end g c = (counts_found _ _ _ _ _ c.in-Ok.ensures.answer c.in-Ok.ensures.list).1
