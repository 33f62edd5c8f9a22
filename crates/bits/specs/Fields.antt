-- Document 01, "Classifying an opcode": the fields of an opcode. The Rust: mode, reg, dst_mode, dst_reg, opmode, dn.
--
--   group_of op     ==  "The top four bits choose the group"
--   mode_of op      ==  "mode is bits 3 to 5"
--   reg_of op       ==  "reg bits 0 to 2"
--   dst_mode_of op  ==  bits 6 to 8: the mode of MOVE's destination, the Rust's dst_mode and opmode
--   dst_reg_of op   ==  bits 9 to 11: the register of MOVE's destination, the Rust's dst_reg and dn
use Rattle.std.specs.Prelude.{ℕ, ◌/◌, ◌%◌}

abbrev pub group_of : ℕ → ℕ
group_of op = op / 4096

abbrev pub mode_of : ℕ → ℕ
mode_of op = op / 8 % 8

abbrev pub reg_of : ℕ → ℕ
reg_of op = op % 8

abbrev pub dst_mode_of : ℕ → ℕ
dst_mode_of op = op / 64 % 8

abbrev pub dst_reg_of : ℕ → ℕ
dst_reg_of op = op / 512 % 8
