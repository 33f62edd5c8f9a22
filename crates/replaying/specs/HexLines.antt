-- The lines in which the replay prints an image. The Rust has none. Every line ends in a newline.
--
--   hex_bytes_of bytes   ==  bytes in upper-case hexadecimal, two digits a byte with nothing between
--   hex_rows rows bytes  ==  the bytes in so many lines, 32 bytes to a line as long as there are so many
use Rattle.std.specs.Prelude.{ℕ, zero, suc, List, [], ◌∷◌, ◌++◌, take, drop}
use Rattle.text.specs.Hex.{hex_byte_of}
use Rattle.text.specs.Written.{newline}

unfoldable pub hex_bytes_of : List ℕ → List ℕ
hex_bytes_of [] = []
hex_bytes_of (byte ∷ bytes) = hex_byte_of byte ++ hex_bytes_of bytes

unfoldable pub hex_rows : ℕ → List ℕ → List ℕ
hex_rows zero bytes = []
hex_rows (suc rows) bytes = hex_bytes_of (take 32 bytes) ++ newline ++ hex_rows rows (drop 32 bytes)
