-- The listing of nine-octet groups: a header, and a line for each group.
use Rattle.std.specs.Prelude.{ℕ, zero, suc, ◌+◌, ◌*◌, ◌/◌, cond, List, [], ◌++◌, leb, length, take, drop}
use Rattle.octets.specs.Refusals.{answer}
use Rattle.codec.specs.declared.Destination.{Destination}
use Rattle.codec.specs.declared.Destination.TheVariants.{Address, NoRebroadcast}
use Rattle.codec.specs.declared.Block.{Block}
use Rattle.codec.specs.NineOctets.{reading}
use Rattle.lines.specs.Text.{text, decimal, signed_decimal}

-- the header line
abbrev pub header : List ℕ
header = text "d blg roff br bs bo bt\n"

-- what is printed for d: the address, or "-" where there is no re-broadcast
unfoldable pub destination_text : Destination → List ℕ
destination_text (Address d) = decimal d
destination_text (NoRebroadcast o1 o2 o3) = text "-"

-- the fields of a block, a space between two
unfoldable pub block_line : Block → List ℕ
block_line b =
    destination_text b.d
    ++ text " "
    ++ decimal b.blg
    ++ text " "
    ++ decimal b.roff
    ++ text " "
    ++ decimal b.br
    ++ text " "
    ++ decimal b.bs
    ++ text " "
    ++ signed_decimal b.bo
    ++ text " "
    ++ decimal b.bt
    ++ text "\n"

-- a refused group: the word and the number
unfoldable pub refused_line : ℕ → List ℕ
refused_line n = text "refused " ++ decimal n ++ text "\n"

-- a group's line
unfoldable pub line : List ℕ → List ℕ
line g = answer (reading g).refusal (block_line (reading g).block) refused_line

-- group k of an input, counted from 0: nine octets, or what is left
abbrev pub group : List ℕ → ℕ → List ℕ
group s k = take 9 (drop (k * 9) s)

-- how many groups there are, a short last one included
abbrev pub groups : List ℕ → ℕ
groups s = (length s + 8) / 9

-- the lines of the first n groups
unfoldable pub first_lines : ℕ → List ℕ → List ℕ
first_lines zero s = []
first_lines (suc n) s = first_lines n s ++ line (group s n)

-- the lines of all groups
abbrev pub all_lines : List ℕ → List ℕ
all_lines s = first_lines (groups s) s

-- the whole listing of an input
abbrev pub listing : List ℕ → List ℕ
listing s = header ++ all_lines s

-- no line is longer than "134217727 31 255 13 254 -127 3" and its end
abbrev pub longest : ℕ
longest = 31

-- the lines that a lent text gets: all, or none where it has no room for a longest line for each group
abbrev pub lines_in : List ℕ → List ℕ → List ℕ
lines_in s t = cond (leb (groups s * longest) (length t)) (all_lines s) []
