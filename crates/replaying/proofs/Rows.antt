-- Writing bytes in hexadecimal, come to a byte or to a row: what is left, written from here, gives all of it.
-- Assumes nothing.
use Prim.Native.Nat.{ℕ, zero, suc, ◌+◌, ◌*◌, ◌/◌, ◌≤◌, ◌<◌}
use mathlib.Core.Path.{◌≡◌, refl, sym, ap, ◌∙◌}
use mathlib.Core.List.{List, [], ◌∷◌, ◌++◌, append-nil}
use native.Mathlib.Numerals.{add-one}
use native.Mathlib.Omega.{arith}
use Rattle.std.proofs.Common.{min, inl, inr}
use Rattle.std.proofs.lemmas.Bool.{cases_lt}
use Rattle.std.proofs.lemmas.List.{nil_from_length, take_at, drop_at}
use lib.ListN.{length, get_or, take, drop, length-append, length-take, length-drop, drop_of_length-le}
use lib.Seq.{drop-cons, take_all}
use Rattle.text.specs.Hex.{hex_byte_of}
use Rattle.text.specs.Written.{newline, written, written_of}
use Rattle.text.proofs.Writing.{wrote, wrote_more, wrote_then, wrote_whole, written_none}
use Rattle.replaying.specs.HexLines.{hex_bytes_of, hex_rows}

hex_length : (bs : List ℕ) → length (hex_bytes_of bs) ≡ 2 * length bs
unfolding hex_bytes_of
hex_length [] = refl
hex_length (b ∷ bs) = omega (arith, hex_length bs)

pub record Row (xs out₀ : List ℕ) (start : ℕ) (out : List ℕ) (place i : ℕ) : Type 0 where
  pub inside : i ≤ length xs
  pub same : length out ≡ length out₀
  pub at : place ≡ start + 2 * i
  pub leads : written_of out place (hex_bytes_of (drop i xs)) ≡ written_of out₀ start (hex_bytes_of xs)

module _ {xs out₀ : List ℕ} {start : ℕ} {out : List ℕ} {place i : ℕ} (g : Row xs out₀ start out place i) (room : start + 2 * length xs + 1 ≤ length out₀) where
  pub row_byte : i < length xs → {place' : ℕ} {out' : List ℕ} → written place' out' ≡ written_of out place (hex_byte_of (get_or xs i 0))
      → Row xs out₀ start out' place' (i + 1)
  unfolding hex_bytes_of
  row_byte h e =
      let p = g.at in
      let s = g.same in
      let w = wrote out place (hex_byte_of (get_or xs i 0)) (omega arith) e in
      record {
        inside = omega arith;
        same = w.same ∙ s;
        at = omega (arith, w.place);
        leads =
            rw (add-one i)
            (wrote_then w (hex_bytes_of (drop (suc i) xs)) (omega (arith, w.place)) ∙ (rw (drop-cons xs i 0 h) at g.leads));
      }

  pub row_end : length xs ≤ i → {next : ℕ} {after : List ℕ} → written next after ≡ written_of out place newline
      → written next after ≡ written_of out₀ start (hex_bytes_of xs ++ newline)
  unfolding hex_bytes_of
  row_end h e =
      let l = hex_length xs in
      let n : hex_bytes_of (drop i xs) ≡ [] = ap hex_bytes_of (drop_of_length-le xs h) in
      let all : written place out ≡ written_of out₀ start (hex_bytes_of xs) = sym (written_none out place) ∙ (rw n at g.leads) in
      let w = wrote out₀ start (hex_bytes_of xs) (omega arith) all in
      wrote_whole (wrote_more w newline (omega (arith, w.place)) e)

-- the rows of the bytes that are left have room, and give all of them
pub record Rows (bytes out₀ : List ℕ) (start : ℕ) (out : List ℕ) (place : ℕ) (rest : List ℕ) : Type 0 where
  pub room : place + 2 * length rest + (length rest + 31) / 32 ≤ length out
  pub leads : written_of out place (hex_rows ((length rest + 31) / 32) rest) ≡ written_of out₀ start (hex_rows 41 bytes)

-- a row is 32 bytes, or the last
module _ (rest row rest' : List ℕ) (parts : rest ≡ row ++ rest') (size : length row ≡ min 32 (length rest)) where
  row_first : take 32 rest ≡ row
  row_first =
      let sum = ap length parts ∙ length-append row rest' in
      elim (cases_lt (length rest) 32) [
        | inl short ↦
            let none : rest' ≡ [] = nil_from_length rest' (omega arith) in
            take_all 32 rest (omega arith) ∙ parts ∙ rw none (append-nil row)
        | inr long ↦ rw parts (take_at row rest' 32 (omega arith))
      ]

  row_behind : drop 32 rest ≡ rest'
  row_behind =
      let sum = ap length parts ∙ length-append row rest' in
      elim (cases_lt (length rest) 32) [
        | inl short ↦
            let none : rest' ≡ [] = nil_from_length rest' (omega arith) in
            rw none (drop_of_length-le rest {i = 32} (omega arith))
        | inr long ↦ rw parts (drop_at row rest' 32 (omega arith))
      ]

module _ {bytes out₀ : List ℕ} {start : ℕ} {out : List ℕ} {place : ℕ} {rest : List ℕ} (g : Rows bytes out₀ start out place rest) where
  pub rows_next : (row rest' : List ℕ) → rest ≡ row ++ rest' → length row ≡ min 32 (length rest) → 0 < length rest
      → {place' : ℕ} {out' : List ℕ} → written place' out' ≡ written_of out place (hex_bytes_of row ++ newline)
      → Rows bytes out₀ start out' place' rest'
  unfolding hex_rows
  rows_next row rest' parts size some e =
      let sum = ap length parts ∙ length-append row rest' in
      let line : List ℕ = hex_bytes_of row ++ newline in
      let l : length line ≡ 2 * length row + 1 =
      length-append (hex_bytes_of row) newline ∙ omega (arith, hex_length row) in
      let room = g.room in
      let w = wrote out place line (omega arith) e in
      let n : (length rest + 31) / 32 ≡ suc ((length rest' + 31) / 32) = omega arith in
      record {
        room = omega (arith, w.place, w.same);
        leads =
            wrote_then w (hex_rows ((length rest' + 31) / 32) rest') (omega (arith, w.place))
            ∙ (rw (n, row_first rest row rest' parts size, row_behind rest row rest' parts size) at g.leads);
      }

  pub rows_end : length rest ≡ 0 → written place out ≡ written_of out₀ start (hex_rows 41 bytes)
  unfolding hex_rows
  rows_end none = sym (written_none out place) ∙ (rw none at g.leads)

pub rows_length : (n : ℕ) (bs : List ℕ) → length (hex_rows n bs) ≤ 2 * length bs + n
unfolding hex_rows
rows_length zero bs = omega arith
rows_length (suc n) bs =
    let line : List ℕ = hex_bytes_of (take 32 bs) ++ newline in
    omega (
      arith,
      length-append line (hex_rows n (drop 32 bs)),
      length-append (hex_bytes_of (take 32 bs)) newline,
      hex_length (take 32 bs),
      length-take 32 bs,
      length-drop 32 bs,
      rows_length n (drop 32 bs),
    )
