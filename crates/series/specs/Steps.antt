-- What the private functions promise: the code's own steps. Nothing that a caller of the crate has to believe.
use Rattle.std.specs.Prelude.{ℕ, ◌-◌, cond, nat_le}

-- x less a step, where it is not before one
unfoldable pub less_step : ℕ → ℕ → ℕ
less_step step x = cond (nat_le step x) (x - step) x
