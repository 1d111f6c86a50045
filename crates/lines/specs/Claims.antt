-- What is claimed of the lines, besides each function's promise. `claims` in src/lib.rt promises all of it.
use Rattle.std.specs.Prelude.{ℕ, ◌%◌, ◌≤◌, ◌≡◌, List, [], ◌∷◌, ◌++◌, length}
use Rattle.octets.specs.Octets.{AreOctets}
use Rattle.record.specs.Record.{three_zeros}
use Rattle.lines.specs.Text.{text}
use Rattle.lines.specs.Listing.{header, line, all_lines, listing, longest}
use Rattle.lines.specs.Day.{said_line, state_line, record_line}

pub record Claims : Type 0 where
  -- document 01's sample
  pub sample :
      listing (0x00 ∷ 0x00 ∷ 0x01 ∷ 0x20 ∷ 0x02 ∷ 0x03 ∷ 0x05 ∷ 0xFE ∷ 0x12 ∷ [])
      ≡ text "d blg roff br bs bo bt\n1 4 2 3 5 -2 2\n"
  -- document 02's P2, a group with no re-broadcast
  pub no_rebroadcast_lem :
      line (0xFF ∷ 0xFF ∷ 0xFF ∷ 0xFF ∷ 0xFF ∷ 0x0D ∷ 0xFF ∷ 0x7F ∷ 0x13 ∷ [])
      ≡ text "- 31 255 13 255 127 3\n"
  -- empty input prints the header line only
  pub empty : listing [] ≡ header
  -- a group that does not have nine octets, so a short last one
  pub short : (g : List ℕ) → (length g ≡ 9 → ⊥) → line g ≡ text "refused 1\n"
  -- no group's line is longer than `longest`
  pub no_longer : (g : List ℕ) → AreOctets g → length (line g) ≤ longest
  -- it does not matter in which pieces of whole groups an input comes
  pub pieces : (s t : List ℕ) → length s % 9 ≡ 0 → all_lines (s ++ t) ≡ all_lines s ++ all_lines t
  -- an accepted log record's line, and a refused one's at a place that takes more than 32 bits
  pub said_sample : (said_line 1 0 0 ≡ text "1 ok 0\n") × (said_line 4294967296 23 0 ≡ text "4294967296 refused 23\n")
  -- a table at a moment: its first line, and a record's
  pub moment_sample :
      (state_line 4500 100 1 ≡ text "4500 100 1\n")
      × (record_line (record { station = 1; first = 105; rate = 3; superframes = 2; length = 5; far = 0; bo = 0xFE; zeros = three_zeros }) ≡ text "1 105 3 2 5 0 -2\n")
