-- The line in which the replay prints the head of a window. The Rust has none. It ends in a newline.
--
--   head_line w  ==  `head OPCODE at ADDRESS`, the opcode in four and the address in eight upper-case hexadecimal
--                    digits; `head none` where the window is shut
use Rattle.std.specs.Prelude.{ℕ, cond, List, ◌++◌}
use Rattle.text.specs.Hex.{hex_of, hex_long_of}
use Rattle.text.specs.Written.{text_of, newline}
use Rattle.window.specs.declared.Window.{Window}

abbrev pub head_line : Window → List ℕ
head_line w =
    cond w.opened
    (text_of "head " ++ hex_of w.op ++ text_of " at " ++ hex_long_of w.address ++ newline)
    (text_of "head none" ++ newline)
