-- `search::claims` promises what the laws prove. Assumes nothing.
use Rattle.search.proofs.First.{only_qualifying, in_order, none_left_out}
use Rattle.search.proofs.None.{none_where_refused, refused_where_none}
use Rattle.search.proofs.Window.{window_alone}
use Rattle.search.proofs.InMap.{listed_in_map}
use Rattle.search.proofs.Answers.{at_most_wanted, rest_is_zero, some_found, search_looks, picked_below, found_is_picked}
use Rattle.search.proofs.claims.Goals as goal

pub returns : goal.returns
returns c =
    record {
      only_qualifying = only_qualifying;
      in_order = in_order;
      none_left_out = none_left_out;
      at_most_wanted = at_most_wanted;
      none_where_refused = none_where_refused;
      refused_where_none = refused_where_none;
      rest_is_zero = rest_is_zero;
      some_found = some_found;
      window_alone = window_alone;
      listed_in_map = listed_in_map;
      search_looks = search_looks;
      picked_below = picked_below;
      found_is_picked = found_is_picked;
    }
