-- The text of a table of 2,048 records has room for all its lines. Assumes nothing.
use Rattle.std.proofs.Common.{◌≡◌, ◌+◌, ◌*◌, ◌≤◌, ℕ, List, [], refl, sym, ap, ◌∙◌, arith, le-leb, length, length-take, take, take_at}
use Rattle.std.proofs.lemmas.List.{length-replicate}
use Rattle.octets.specs.Octets.{holds_only}
use Rattle.record.specs.Record.{capacity, packed}
use Rattle.record.proofs.Images.{same-capacity, length-all_records}
use Rattle.record.proofs.Packed.{packed-zeros, capacity-packed}
use Rattle.sound.specs.Sound.{Channel, records}
use Rattle.lines.specs.Day.{line_room}
use Rattle.day.specs.Day.{joined, moment_lines, moment_in}

-- no more records than the memory has room for
records_fit : (m : Channel) → length m.memory ≡ 32768 → length (records m) ≤ 2048
unfolding records
records_fit m octets =
    let zeros : length (packed 2048 []) ≡ 32768 = rw (packed-zeros 2048) (length-replicate {A = ℕ} 32768 0) in
    let room : capacity m.memory ≡ 2048 = same-capacity m.memory (packed 2048 []) (octets ∙ sym zeros) ∙ capacity-packed 2048 [] (omega arith) in
    rw (length-take, length-all_records, room) (omega arith)

-- what `day::moment` leaves at the start of the text
pub moment-shown : (m : Channel) (t : List ℕ) {n : ℕ} {u : List ℕ} → length m.memory ≡ 32768 → 2049 * line_room ≤ length t
    → n ≡ length (moment_in m t) → u ≡ holds_only (length t) (moment_in m t) → take n u ≡ joined (moment_lines m)
unfolding moment_in
moment-shown m t {n} {u} octets room value text =
    let fits : (length (records m) + 1) * line_room ≤ length t = omega (arith, records_fit m octets) in
    let all : moment_in m t ≡ joined (moment_lines m) = rw (le-leb _ _ fits) refl in
    ap (λ k. take k u) value ∙ ap (take (length (moment_in m t))) text ∙ take_at (moment_in m t) _ _ refl ∙ all
