-- `codec::read` meets its contract: each answer by the law for its refusal; what an octet says of its field. Assumes nothing.
use Prim.Native.Nat.{ℕ}
use mathlib.Core.Path.{◌≡◌, sym, ◌∙◌, ap}
use mathlib.Core.Bool.{false}
use mathlib.Core.List.{List}
use native.Mathlib.Omega.{arith}
use borrow.Author.Tests.{eq-eqb, ne_eqb}
use lib.Dec.{eqb}
use Rattle.octets.specs.Complement.{beyond127}
use Rattle.octets.specs.Refusals.{first_of, outside}
use Rattle.octets.proofs.Complement.{beyond127-signed_of}
use Rattle.std.proofs.Common.{Ok, Err}
use Rattle.refusal.specs.declared.Refusal.TheVariants.{Size, ExtendedId, Code, Roff, Bs, Bo}
use Rattle.refusal.specs.Refusals.{Tells}
use Rattle.codec.specs.declared.Destination.{Destination}
use Rattle.codec.specs.declared.Destination.TheVariants.{Address, NoRebroadcast}
use Rattle.codec.specs.declared.Block.{Block}
use Rattle.codec.specs.NineOctets.{octet, destination_of, block_with, block_of, bad_code, field_tests, read_tests, reading}
use Rattle.codec.proofs.Tests.{read_1, read_2, read_fields, field_3, field_4, field_5, field_6, field_0, octet_low, octet_inside, tells_reading}
use Rattle.codec.proofs.read.Goals as goal
use Rattle.codec.proofs.read.Goals.{After-bad_code, Else-bad_code, Else-octets-lt2, Else-octets-lt2-2, After-shared_slice_known-6-1, Else-octets}

-- nine octets with the right extended ID are refused by their fields
by_fields : (c : After-bad_code) → first_of (field_tests (block_of c.args.octets.now)) ≡ first_of (read_tests c.args.octets.now)
by_fields c =
    let two : c.extended_id.result ≡ 2 = omega arith in
    read_fields _ c.if-octets-ne9.false (sym c.extended_id.ensures ∙ two)

-- past its test, the code is good
good_code : (c : Else-bad_code) → bad_code (block_of c.args.octets.now).br ≡ false
good_code c = ap bad_code (sym c.rate_code-br.ensures) ∙ sym c.bad_code.ensures ∙ c.if-bad_code.false

-- and so is roff
good_roff : (c : Else-octets-lt2) → outside 2 255 (block_of c.args.octets.now).roff ≡ false
good_roff c = octet_inside _ c.if-octets-lt2.false (c.shared_slice_known-4-1.given 4).fits

-- and so is bs
good_bs : (c : Else-octets-lt2-2) → outside 2 255 (block_of c.args.octets.now).bs ≡ false
good_bs c = octet_inside _ c.if-octets-lt2-2.false (c.shared_slice_known-5-1.given 6).fits

-- of the octets of an offset, only 128 is bad
offset : (c : After-shared_slice_known-6-1) → beyond127 (block_of c.args.octets.now).bo ≡ eqb (octet 8 c.args.octets.now) 128
offset c = beyond127-signed_of (octet 8 c.args.octets.now) (c.shared_slice_known-6-1.given 7).fits

-- past them all, the fields call for no refusal
none_called_for :
    (s : List ℕ) → bad_code (block_of s).br ≡ false
    → outside 2 255 (block_of s).roff ≡ false
    → outside 2 255 (block_of s).bs ≡ false
    → beyond127 (block_of s).bo ≡ false
    → first_of (field_tests (block_of s)) ≡ first_of (read_tests s)
    → 0 ≡ first_of (read_tests s)
none_called_for s code roff bs bo fields = field_0 (block_of s) code roff bs bo ∙ fields

-- so they are accepted, and the fields beside the destination of octets are theirs
accept :
    (s : List ℕ) {d : Destination} {b : Block} → 0 ≡ first_of (read_tests s)
    → b ≡ block_with d s
    → d ≡ destination_of s
    → Tells (Ok b) (reading s).refusal (reading s).block
accept s none e f = tells_reading s (Ok _) (sym none, e ∙ ap (λ d. block_with d s) f)

pub returns-then-octets-ne9 : goal.returns-then-octets-ne9
returns-then-octets-ne9 c = tells_reading c.args.octets.now (Err Size) (sym (read_1 _ c.if-octets-ne9.true))

pub returns-then-extended_id-ne2 : goal.returns-then-extended_id-ne2
returns-then-extended_id-ne2 c =
    tells_reading c.args.octets.now (Err ExtendedId) (sym (read_2 _ c.if-octets-ne9.false (λ e. c.if-extended_id-ne2.true (c.extended_id.ensures ∙ e))))

pub returns-then-bad_code : goal.returns-then-bad_code
returns-then-bad_code c =
    let at = goal.at.returns-then-bad_code c in
    let bad = ap bad_code (sym c.rate_code-br.ensures) ∙ sym c.bad_code.ensures ∙ c.if-bad_code.true in
    tells_reading c.args.octets.now (Err Code) (sym (field_3 (block_of c.args.octets.now) bad ∙ by_fields at.After-bad_code))

pub returns-then-octets-lt2 : goal.returns-then-octets-lt2
returns-then-octets-lt2 c =
    let at = goal.at.returns-then-octets-lt2 c in
    tells_reading c.args.octets.now (Err Roff)
    (sym
    (field_4 (block_of c.args.octets.now) (good_code at.Else-bad_code) (octet_low _ c.if-octets-lt2.true)
    ∙ by_fields at.After-bad_code))

pub returns-then-octets-lt2-2 : goal.returns-then-octets-lt2-2
returns-then-octets-lt2-2 c =
    let at = goal.at.returns-then-octets-lt2-2 c in
    tells_reading c.args.octets.now (Err Bs)
    (sym
    (field_5 (block_of c.args.octets.now) (good_code at.Else-bad_code) (good_roff at.Else-octets-lt2) (octet_low _ c.if-octets-lt2-2.true)
    ∙ by_fields at.After-bad_code))

pub returns-then-octets : goal.returns-then-octets
returns-then-octets c =
    let at = goal.at.returns-then-octets c in
    let bad = offset at.After-shared_slice_known-6-1 ∙ eq-eqb _ _ c.if-octets.true in
    tells_reading c.args.octets.now (Err Bo)
    (sym
    (field_6 (block_of c.args.octets.now) (good_code at.Else-bad_code) (good_roff at.Else-octets-lt2) (good_bs at.Else-octets-lt2-2) bad
    ∙ by_fields at.After-bad_code))

pub returns-then-octets-2 : goal.returns-then-octets-2
returns-then-octets-2 c =
    let at = goal.at.returns-then-octets-2 c in
    let s = c.args.octets.now in
    let none = none_called_for s (good_code at.Else-bad_code) (good_roff at.Else-octets-lt2) (good_bs at.Else-octets-lt2-2) (offset at.After-shared_slice_known-6-1 ∙ ne_eqb _ _ c.if-octets.false) (by_fields at.After-bad_code) in
    accept s none c.fields-not_rebroadcast.ensures
    (let e : NoRebroadcast (octet 1 s) (octet 2 s) (octet 3 s) ≡ destination_of s = rw (eq-eqb _ _ c.if-octets-2.true) in e)

pub returns : goal.returns
returns c =
    let at = goal.at.returns c in
    let s = c.args.octets.now in
    let none = none_called_for s (good_code at.Else-bad_code) (good_roff at.Else-octets-lt2) (good_bs at.Else-octets-lt2-2) (offset at.After-shared_slice_known-6-1 ∙ ne_eqb _ _ c.if-octets.false) (by_fields at.After-bad_code) in
    accept s none c.fields-addressed.ensures
    (let e : Address c.address.result ≡ destination_of s = rw (c.address.ensures, ne_eqb _ _ c.if-octets-2.false) in e)
