-- `codec::store_after` meets its contract: the octets are the definition's; the offset's bits stand for it. Assumes nothing.
use mathlib.Core.Path.{◌∙◌, ap}
use native.Mathlib.Omega.{arith}
use mir.Syntax.{w32}
use mir.Val.{SFits}
use mir.Facts.{to_z-of_z}
use Rattle.octets.specs.Complement.{octet_of}
use Rattle.octets.proofs.Complement.{octet_of-within}
use Rattle.codec.proofs.store_after.Goals as goal
use Rattle.codec.proofs.store_after.Goals.{After-struct_told-1}

-- the offset fits its type, so that its bits stand for it
bo-fits : (c : After-struct_told-1) → SFits w32 c.args.b.bo
bo-fits c = record { sfits = c.type_inv.b.1.1.1.1.1.0.1 }

pub overflow_add-result-2 : goal.overflow_add-result-2
overflow_add-result-2 c = record { fits = omega (arith, c.requires.3.bt_low) }

pub overflow_cast-result-5 : goal.overflow_cast-result-5
overflow_cast-result-5 c = record { fits = omega (arith, c.requires.3.bt_low) }

pub returns : goal.returns
returns c =
    let bo = c.twos.ensures ∙ ap octet_of (to_z-of_z (bo-fits (goal.at.returns c).After-struct_told-1)) ∙ octet_of-within c.args.b.bo c.requires.3.bo_in in
    rw (c.requires.0, c.requires.1, bo)
