-- Document 01, "Worked instructions": the cases marked P, as one table.
--
--   Example            ==  `op is w` gives an opcode its class word, `op is w uses u defines d` its two masks too
--   holds_of example   ==  the definitions give these words
--   all_hold examples  ==  each of them holds
--   examples           ==  the table, in document 01's order
--   Worked             ==  every line of the table holds
use Rattle.std.specs.Prelude.{ℕ, ◌≡◌, Bool, true, ◌&&◌, List, [], ◌∷◌, eqb}
use Rattle.classifier.specs.Classify.{classify_of}
use Rattle.masks.specs.Masks.{masks_of}

infix 85 ◌is◌
infix 85 ◌is◌uses◌defines◌
pub data Example : Type 0 where
  ◌is◌ : ℕ → ℕ → Example
  ◌is◌uses◌defines◌ : ℕ → ℕ → ℕ → ℕ → Example

abbrev pub holds_of : Example → Bool
holds_of (op is w) = eqb (classify_of op) w
holds_of (op is w uses u defines d) = eqb (classify_of op) w && eqb (masks_of op).uses u && eqb (masks_of op).defs d

abbrev pub all_hold : List Example → Bool
all_hold [] = true
all_hold (e ∷ es) = holds_of e && all_hold es

abbrev pub examples : List Example
examples =
    0x7000 is 0x0404 uses 0x0000 defines 0x0001
    ∷ 0x4E75 is 0x0205 uses 0xFFFF defines 0xFFFF
    ∷ 0x49C0 is 0x0404 uses 0x0001 defines 0x1000
    ∷ 0xB141 is 0x0404 uses 0x0003 defines 0x0000
    ∷ 0x49D0 is 0xC404 uses 0x0100 defines 0x1000
    ∷ 0x41D0 is 0x0004 uses 0x0100 defines 0x0100
    ∷ 0x2040 is 0x0404 uses 0x0101 defines 0x0100
    ∷ 0x51C8 is 0x098D
    ∷ 0x6000 is 0x009D
    ∷ 0x6100 is 0x089D
    ∷ 0xD1C0 is 0x0C05
    ∷ 0xE0F0 is 0xC404
    ∷ 0x0E10 is 0xC404
    ∷ 0x2030 is 0x5404
    ∷ []

pub record Worked : Type 0 where
  pub every : all_hold examples ≡ true
