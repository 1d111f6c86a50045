-- What a look at the table says: a slot state, a search. Assumes nothing.
use Prim.Native.Nat.{ℕ, zero, suc}
use native.Mathlib.Omega.{arith}
use mathlib.Core.Path.{◌≡◌, refl}
use mathlib.Core.Bool.{true, false, not}
use mathlib.Core.List.{[], ◌∷◌}
use lib.Dec.{eqb, eqb-suc-zero}
use Rattle.octets.specs.Refusals.{first_of, answer}
use Rattle.sound.specs.Sound.{Channel, sound}
use Rattle.table.specs.Table.{Table, Said, look}
use Rattle.table.specs.Memory.{table_of, call_refusal, says}

-- a refusal that is given if it is one, and a number that is 0 then
looked : (r n : ℕ) → ((r ≡ 0 → ⊥) → n ≡ 0) → let g = first_of ((r, not (eqb r 0)) ∷ []) in (g ≡ r) × (answer g n (λ _. 0) ≡ n)
unfolding answer
looked zero n none = (refl, refl)
looked (suc r) n none = rw (eqb-suc-zero r) (refl, rw (eqb-suc-zero r, none (omega arith)))

module _ (m : Channel) (f : Table → Said) where
  -- of a sound table it says what it makes of the records, if that has no number where it is refused
  pub says-look : sound m ≡ true → (((f (table_of m)).refusal ≡ 0 → ⊥) → (f (table_of m)).number ≡ 0) → says m (look f) ≡ f (table_of m)
  unfolding says call_refusal
  says-look h none =
      let e = looked (f (table_of m)).refusal (f (table_of m)).number none in
      rw h (λ i. record { refusal = e.0 i; number = e.1 i })

  -- and of another one 11
  pub says-look_unsound : sound m ≡ false → says m (look f) ≡ record { refusal = 11; number = 0 }
  unfolding says call_refusal answer
  says-look_unsound h = rw h
