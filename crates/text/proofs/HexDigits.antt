-- Hexadecimal digits that are put from the last one on.
-- Assumes nothing.
use Prim.Native.Nat.{ℕ, zero, suc, ◌-◌, ◌/◌, ◌%◌, ◌<◌, ◌≤◌}
use mathlib.Core.Path.{◌≡◌, sym}
use mathlib.Core.List.{List, [], ◌∷◌, ◌++◌, append_assoc}
use native.Mathlib.Numerals.{add-one}
use native.Mathlib.Omega.{arith}
use lib.ListN.{length, drop, set}
use Rattle.std.proofs.lemmas.List.{drop-set}
use Rattle.text.specs.Hex.{hex_digit, hex_digits}

-- one more, where so many are left
pub digit_before : (left rest : ℕ) (digits : List ℕ) → 0 < left → left ≤ length digits
    → hex_digits (left - 1) (rest / 16) ++ drop (left - 1) (set digits (left - 1) (hex_digit (rest % 16)))
    ≡ hex_digits left rest ++ drop left digits
digit_before zero rest digits h l = absurd (omega arith)
digit_before (suc left) rest digits h l =
    let k : suc left - 1 ≡ left = omega arith in
    rw (k, drop-set digits left (hex_digit (rest % 16)) (omega arith), add-one left)
    (sym (append_assoc (hex_digits left (rest / 16)) (hex_digit (rest % 16) ∷ []) (drop (suc left) digits)))
