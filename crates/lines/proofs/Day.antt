-- Laws of the lines of a replayed log and of a table: how long they are, and such a line by value. Assumes nothing.
use Prim.Native.Nat.{ℕ, ◌^◌, ◌≤◌, ◌<◌}
use mathlib.Core.Path.{◌≡◌, refl, sym, ◌∙◌}
use mathlib.Core.List.{List, []}
use native.Mathlib.Nat.{zero-add}
use native.Mathlib.Omega.{arith}
use lib.ListN.{length, take, replicate, length-append}
use lib.Seq.{take-append_seam}
use Rattle.octets.specs.Octets.{holds_only}
use Rattle.octets.specs.Complement.{signed_of}
use Rattle.octets.specs.Refusals.{answer}
use Rattle.octets.proofs.Refusals.{answer_elim}
use Rattle.octets.proofs.Zeros.{sets-holds_only}
use Rattle.record.specs.declared.Rec.{Rec}
use Rattle.lines.specs.Text.{text}
use Rattle.lines.specs.Listing.{refused_line}
use Rattle.lines.specs.Day.{ok_line, said_line, state_line, record_line, line_room, IsLine}
use Rattle.lines.specs.declared.Writer.{Writer}
use Rattle.lines.specs.Steps.{Room, Wrote}
use Rattle.lines.proofs.Decimal.{decimal_one, decimal_two, decimal_thousand, length-decimal}
use Rattle.lines.proofs.Signed.{signed_of-size, length-signed_decimal}

-- ---- how long they are

-- what was said to a log record has at most 19 characters
answer_short : (refusal number : ℕ) → refusal < 2 ^ 32 → number < 2 ^ 32 → length (answer refusal (ok_line number) refused_line) ≤ 19
unfolding ok_line refused_line
answer_short refusal number r n =
    answer_elim (ok_line number) refused_line (λ x. length x ≤ 19) refusal
    (λ z. simp length-append (omega (arith, length-decimal 9 number (omega arith))))
    (λ z. simp length-append (omega (arith, length-decimal 9 refusal (omega arith))))

-- so no log record's line is longer than `line_room`
pub said_room : (place refusal number : ℕ) → place < 2 ^ 64 → refusal < 2 ^ 32 → number < 2 ^ 32 → length (said_line place refusal number) ≤ line_room
unfolding said_line
said_room place refusal number p r n =
    simp length-append (omega (arith, length-decimal 19 place (omega arith), answer_short refusal number r n))

-- nor is a table's first line
pub state_room : (m1 time count : ℕ) → m1 < 2 ^ 32 → time < 2 ^ 32 → count < 2 ^ 32 → length (state_line m1 time count) ≤ line_room
unfolding state_line
state_room m1 time count m t c =
    simp length-append
    (omega (
      arith,
      length-decimal 9 m1 (omega arith),
      length-decimal 9 time (omega arith),
      length-decimal 9 count (omega arith),
    ))

-- nor is a record's
pub record_room : (r : Rec) → (r.station < 2 ^ 32) × (r.first < 2 ^ 32) × (r.rate < 256) × (r.superframes < 256) × (r.length < 256) × (r.far < 256) × (r.bo < 256)
    → length (record_line r) ≤ line_room
unfolding record_line
record_room r h =
    simp length-append
    (omega (
      arith,
      length-decimal 9 r.station (omega arith),
      length-decimal 9 r.first (omega arith),
      length-decimal 2 r.rate (omega arith),
      length-decimal 2 r.superframes (omega arith),
      length-decimal 2 r.length (omega arith),
      length-decimal 2 r.far (omega arith),
      length-signed_decimal 2 (signed_of r.bo) (omega (arith, signed_of-size r.bo (omega arith))),
    ))

-- ---- a line by value

-- there is room for it at the start
pub start_room : {w : Writer} {x : List ℕ} → length x ≤ line_room → w.at ≡ 0 → length w.octets.now ≡ line_room → Room w x
start_room h e f = record { room = omega arith }

-- the octets o after a text was put at the start of zeros, with its length, are a line by value: that text
pub line_put : {x l o : List ℕ} {r : ℕ} → length x ≤ line_room → Wrote (replicate line_room 0) 0 x r l → o ≡ l
    → IsLine r o × ((take r o ≡ x) × (length (take r o) ≤ line_room))
line_put {x} {l} {o} {r} h w same =
    let e : r ≡ length x = w.place ∙ zero-add (length x) in
    let f : o ≡ holds_only line_room x = same ∙ w.holds ∙ sets-holds_only line_room [] x 0 refl (omega arith) in
    let g : take r o ≡ x = rw (e, f, take-append_seam) in
    ((omega arith, rw g (sym e), rw g (sym f)), (g, rw g h))

-- ---- a sample

-- a place that takes more than 32 bits, three digits at a time: `decimal` would count its steps down one by one
pub long_place : said_line 4294967296 23 0 ≡ text "4294967296 refused 23\n"
unfolding answer refused_line said_line
long_place =
    rw (
      decimal_thousand 4294967296 (omega arith),
      decimal_thousand 4294967 (omega arith),
      decimal_thousand 4294 (omega arith),
      decimal_one 4 (omega arith),
      decimal_two 23 (omega arith) (omega arith),
    )
