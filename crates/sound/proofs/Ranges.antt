-- What the ranges of a record say of its numbers: each one, and that they fit their octets. Assumes nothing.
use Prim.Native.Nat.{◌^◌, ◌<◌, ◌≤◌}
use native.Mathlib.Omega.{arith}
use mathlib.Core.Path.{◌≡◌}
use mathlib.Core.Bool.{true, not, ◌&&◌, and_assoc, and-true, and-eq-true_iff}
use mathlib.Core.List.{List, [], ◌∷◌}
use lib.Dec.{leb, ltb, eqb}
use borrow.Author.Tests.{ltb-true, leb-true, eqb-true, eqb-false, lt-ltb, not-true}
use Rattle.octets.specs.Lists.{every}
use Rattle.octets.specs.Refusals.{within}
use Rattle.octets.proofs.Refusals.{within-true}
use Rattle.record.specs.Record.{FitRec, AllFit}
use Rattle.record.specs.declared.Rec.{Rec}
use Rattle.record.proofs.Fields.{fit_rec}
use Rattle.sound.specs.Sound.{in_range}

-- the ranges, one by one
pub record Ranges (r : Rec) : Type 0 where
  pub station : r.station < 2 ^ 27
  pub first : r.first ≤ 1_000_000_255
  pub rate : (1 ≤ r.rate) × (r.rate ≤ 60)
  pub superframes : (1 ≤ r.superframes) × (r.superframes ≤ 3)
  pub length : (1 ≤ r.length) × (r.length ≤ 32)
  pub far : r.far ≤ 1
  pub bo : (r.bo < 256) × (r.bo ≡ 128 → ⊥)
  pub zeros : (r.zeros.a ≡ 0) × (r.zeros.b ≡ 0) × (r.zeros.c ≡ 0)

-- a record that is in range has all of them
pub ranges : (r : Rec) → in_range r ≡ true → Ranges r
unfolding in_range
ranges r h =
    let p = simp and-eq-true_iff at h in
    let z = p.1 in
    record {
      station = ltb-true r.station (2 ^ 27) p.0.0.0.0.0.0.0.0;
      first = leb-true r.first 1_000_000_255 p.0.0.0.0.0.0.0.1;
      rate = within-true 1 60 r.rate p.0.0.0.0.0.0.1;
      superframes = within-true 1 3 r.superframes p.0.0.0.0.0.1;
      length = within-true 1 32 r.length p.0.0.0.0.1;
      far = leb-true r.far 1 p.0.0.0.1;
      bo = (ltb-true r.bo 256 p.0.0.1, eqb-false r.bo 128 (not-true (eqb r.bo 128) p.0.1));
      zeros = (eqb-true r.zeros.a 0 z.0, eqb-true r.zeros.b 0 z.1.0, eqb-true r.zeros.c 0 z.1.1.0);
    }

-- ---- octets

-- where bo is an octet, the tests are these
pub in_range-octet : (r : Rec) → r.bo < 256
    → in_range r
    ≡ (ltb r.station (2 ^ 27)
    && leb r.first 1_000_000_255
    && within 1 60 r.rate
    && within 1 3 r.superframes
    && within 1 32 r.length
    && leb r.far 1
    && not (eqb r.bo 128)
    && (eqb r.zeros.a 0 && eqb r.zeros.b 0 && eqb r.zeros.c 0))
unfolding in_range
in_range-octet r h = simp (lt-ltb r.bo 256 h, and_assoc, and-true)

-- a record in range fits its octets
pub fit : (r : Rec) → in_range r ≡ true → FitRec r
fit r h =
    let k = ranges r h in
    fit_rec r (omega arith) (omega arith) (omega arith) (omega arith) (omega arith) (omega arith) k.bo.0 (omega arith) (omega arith) (omega arith)

-- records in range fit theirs
pub all_fit : (rs : List Rec) → every in_range rs ≡ true → AllFit rs
all_fit [] h = tt
all_fit (r ∷ rs) h =
    let p = (and-eq-true_iff (in_range r) (every in_range rs)).0 h in
    (fit r p.0, all_fit rs p.1)
