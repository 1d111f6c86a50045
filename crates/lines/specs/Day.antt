-- The lines of a replayed log, and of a table at a moment.
use Rattle.std.specs.Prelude.{ℕ, ◌≤◌, ◌≡◌, List, ◌++◌, length, take, Result, Ok, Err}
use Rattle.refusal.specs.declared.Refusal.{Refusal}
use Rattle.refusal.specs.Refusals.{number_of}
use Rattle.octets.specs.Octets.{holds_only}
use Rattle.octets.specs.Complement.{signed_of}
use Rattle.octets.specs.Refusals.{answer}
use Rattle.record.specs.declared.Rec.{Rec}
use Rattle.lines.specs.Text.{text, decimal, signed_decimal}
use Rattle.lines.specs.Listing.{refused_line}

-- an accepted call: the word and the number reported
unfoldable pub ok_line : ℕ → List ℕ
ok_line n = text "ok " ++ decimal n ++ text "\n"

-- a log record's line: its place, a space, then "ok" and the number reported, or "refused" and the refusal's number
unfoldable pub said_line : ℕ → ℕ → ℕ → List ℕ
said_line place refusal number = decimal place ++ text " " ++ answer refusal (ok_line number) refused_line

-- the line of what a result tells
abbrev pub told_line : ℕ → Result ℕ Refusal → List ℕ
told_line place (Ok number) = said_line place 0 number
told_line place (Err e) = said_line place (number_of e) 0

-- a table's first line: M1, now and count
unfoldable pub state_line : ℕ → ℕ → ℕ → List ℕ
state_line m1 now count = decimal m1 ++ text " " ++ decimal now ++ text " " ++ decimal count ++ text "\n"

-- a record's line: its fields, in the record's order, bo as the number that it says
unfoldable pub record_line : Rec → List ℕ
record_line r =
    decimal r.station
    ++ text " "
    ++ decimal r.first
    ++ text " "
    ++ decimal r.rate
    ++ text " "
    ++ decimal r.superframes
    ++ text " "
    ++ decimal r.length
    ++ text " "
    ++ decimal r.far
    ++ text " "
    ++ signed_decimal (signed_of r.bo)
    ++ text "\n"

-- none of these lines is longer than "4294967295 4294967295 255 255 255 255 -128" and its end
abbrev pub line_room : ℕ
line_room = 43

-- a line by value: so many of its octets are the line, which has room, and the rest are 0
abbrev pub IsLine : ℕ → List ℕ → Type 0
IsLine n octets = (n ≤ line_room) × (length (take n octets) ≡ n) × (holds_only line_room (take n octets) ≡ octets)
