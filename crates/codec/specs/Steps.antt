-- What private functions ask and promise: the code's own steps. Nothing that a caller of the crate has to believe.
use Rattle.std.specs.Prelude.{◌≤◌, ◌≡◌, false}
use Rattle.octets.specs.Complement.{beyond127}
use Rattle.codec.specs.declared.Block.{Block}
use Rattle.codec.specs.NineOctets.{bad_address}

-- each field fits the bits that it is written to
pub record Fitting (b : Block) : Type 0 where
  pub d_good : bad_address b.d ≡ false
  pub blg_low : b.blg ≤ 31
  pub roff_low : b.roff ≤ 255
  pub br_low : b.br ≤ 15
  pub bs_low : b.bs ≤ 255
  pub bo_in : beyond127 b.bo ≡ false
  pub bt_low : b.bt ≤ 3
