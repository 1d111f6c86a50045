-- Document 01's refusals by their numbers, and what a result tells.
use Rattle.std.specs.Prelude.{ℕ, ◌≡◌, Result, Ok, Err}
use Rattle.refusal.specs.declared.Refusal.{Refusal}
use Rattle.refusal.specs.declared.Refusal.TheVariants.{Size, ExtendedId, Code, Roff, Bs, Bo, RateList, Address, Field, Figure, NotSound, Behind, Late, Rate, NoSuperframes, Held, Full, Limit, SearchRange, Wanted, NoStart, Parameter, Entry, Early, Map, Destination}

-- a refusal's number in document 01, and in document 02 from 23 on
abbrev pub number_of : Refusal → ℕ
number_of Size = 1
number_of ExtendedId = 2
number_of Code = 3
number_of Roff = 4
number_of Bs = 5
number_of Bo = 6
number_of RateList = 7
number_of Address = 8
number_of Field = 9
number_of Figure = 10
number_of NotSound = 11
number_of Behind = 12
number_of Late = 13
number_of Rate = 14
number_of NoSuperframes = 15
number_of Held = 16
number_of Full = 17
number_of Limit = 18
number_of SearchRange = 19
number_of Wanted = 20
number_of NoStart = 21
number_of Parameter = 22
number_of Entry = 23
number_of Early = 24
number_of Map = 25
number_of Destination = 34

-- what a call tells that is refused with a number, 0 for none, or else gives a value: the refusal of that number, or the value
abbrev pub Tells : {A : Type 0} → Result A Refusal → ℕ → A → Type 0
Tells (Ok x) refusal value = (refusal ≡ 0) × (x ≡ value)
Tells (Err e) refusal value = refusal ≡ number_of e
