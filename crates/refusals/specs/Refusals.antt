-- Document 01, "Records and images": the table of refusals. The Rust has none.
--
--   number_of r  ==  the number of a refusal: the column "No."
--   place_of r   ==  the place of a refusal: the column "Place"
--
-- A refusal whose place is a record's start, or depends on what was handed in, carries its place.
use Rattle.std.specs.Prelude.{ℕ}
use Rattle.refusals.specs.declared.Refusal.{Refusal}
use Rattle.refusals.specs.declared.Refusal.TheVariants.{
  Oversized,
  Remainder,
  WrongKind,
  WrongLength,
  Cut,
  Flag,
  Room,
  ImageLength,
  ImageHeader,
  ImageWindow,
}

abbrev pub number_of : Refusal → ℕ
number_of Oversized = 1
number_of (Remainder at) = 2
number_of (WrongKind at) = 3
number_of (WrongLength at) = 4
number_of (Cut at) = 5
number_of (Flag at) = 6
number_of (Room at) = 7
number_of ImageLength = 8
number_of ImageHeader = 9
number_of ImageWindow = 10

abbrev pub place_of : Refusal → ℕ
place_of Oversized = 0
place_of (Remainder at) = at
place_of (WrongKind at) = at
place_of (WrongLength at) = at
place_of (Cut at) = at
place_of (Flag at) = at
place_of (Room at) = at
place_of ImageLength = 0
place_of ImageHeader = 0
place_of ImageWindow = 1284
