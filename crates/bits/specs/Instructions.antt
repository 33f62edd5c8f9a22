-- The patterns by which document 01 and the Rust know instructions inside a group (the top four bits), as bits 11 to 0
-- or the low part of them. A pattern is named for the instructions that it is meant for; which others it catches is
-- said where it is used.
--
--   data_register     ==  the operand is a data register: mode 0                     op & 0038 is 0000 (hex)
--   address_register  ==  the operand is an address register: mode 1                 op & 0038 is 0008 (hex)
--   any_register      ==  the operand is a register: mode 0 or 1                     op & 0030 is 0000 (hex)
--   immediate         ==  the operand is immediate: mode 7 reg 4                     op & 003F is 003C (hex)
--   size01            ==  bits 6 and 7 are 01                                        op & 00C0 is 0040 (hex)
--   size11            ==  bits 6 and 7 are 11                                        op & 00C0 is 00C0 (hex)
--   to_operand        ==  bit 8 is set: the operand is the destination               op & 0100 is 0100 (hex)
--   bit_dynamic       ==  BTST, BCHG, BCLR, BSET with the bit in a register; MOVEP   op & 0100 is 0100 (hex)
--   bit_static        ==  BTST, BCHG, BCLR, BSET with the bit immediate              op & 0F00 is 0800 (hex)
--   btst              ==  BTST, among the bit operations                             op & 00C0 is 0000 (hex)
--   cmp2              ==  CMP2, CHK2                                                 op & 0FC0 is 00C0 (hex)
--   cas               ==  CAS, CAS2                                                  op & 09C0 is 08C0 (hex)
--   cmpi              ==  CMPI                                                       op & 0F00 is 0C00 (hex)
--   move_from_sr      ==  MOVE from SR                                               op & 0FC0 is 00C0 (hex)
--   move_from_ccr     ==  MOVE from CCR                                              op & 0FC0 is 02C0 (hex)
--   move_to_ccr       ==  MOVE to CCR                                                op & 0FC0 is 04C0 (hex)
--   move_to_sr        ==  MOVE to SR                                                 op & 0FC0 is 06C0 (hex)
--   movem             ==  MOVEM                                                      op & 0B80 is 0880 (hex)
--   tas               ==  TAS                                                        op & 0FC0 is 0AC0 (hex)
--   mull_divl         ==  MULL, DIVL                                                 op & 0F80 is 0C00 (hex)
--   swap              ==  SWAP                                                       op & 0FF8 is 0840 (hex)
--   nbcd_ext          ==  NBCD, EXT, EXTB                                            op & 0E00 is 0800 (hex)
--   clr               ==  CLR                                                        op & 0F00 is 0200 (hex)
--   negx              ==  NEGX                                                       op & 0F00 is 0000 (hex)
--   neg               ==  NEG                                                        op & 0F00 is 0400 (hex)
--   not'              ==  NOT                                                        op & 0F00 is 0600 (hex)
--   lea               ==  LEA                                                        op & 01C0 is 01C0 (hex)
--   chk               ==  CHK                                                        op & 01C0 is 0180 (hex)
--   tst               ==  TST                                                        op & 0F00 is 0A00 (hex)
--   dbcc              ==  DBcc                                                       op & 00F8 is 00C8 (hex)
--   bra               ==  BRA                                                        op & 0F00 is 0000 (hex)
--   sbcd_abcd         ==  SBCD in group 8, ABCD in group 12                          op & 01F0 is 0100 (hex)
--   pack              ==  PACK                                                       op & 01F0 is 0140 (hex)
--   addx_subx         ==  ADDX, SUBX                                                 op & 0130 is 0100 (hex)
--   exg_data          ==  EXG of data registers                                      op & 01F8 is 0140 (hex)
--   exg_address       ==  EXG of address registers                                   op & 01F8 is 0148 (hex)
--   exg_both          ==  EXG of a data and an address register                      op & 01F8 is 0188 (hex)
--   bit_field         ==  the bit field instructions                                 op & 08C0 is 08C0 (hex)
--   rox               ==  ROXL, ROXR                                                 op & 0018 is 0010 (hex)
use Rattle.bits.specs.Pattern.{Pattern, bits, ◌O, ◌I, ◌X}

-- ---- operands, in the low six bits
abbrev pub data_register : Pattern
data_register = bits O O O X X X

abbrev pub address_register : Pattern
address_register = bits O O I X X X

abbrev pub any_register : Pattern
any_register = bits O O X X X X

abbrev pub immediate : Pattern
immediate = bits I I I I O O

-- ---- bits 6 and 7, and bit 8, in any group
abbrev pub size01 : Pattern
size01 = bits O I X X X X X X

abbrev pub size11 : Pattern
size11 = bits I I X X X X X X

abbrev pub to_operand : Pattern
to_operand = bits I X X X X X X X X

-- ---- group 0
abbrev pub bit_dynamic : Pattern
bit_dynamic = bits I X X X X X X X X

abbrev pub bit_static : Pattern
bit_static = bits I O O O X X X X X X X X

abbrev pub btst : Pattern
btst = bits O O X X X X X X

abbrev pub cmp2 : Pattern
cmp2 = bits O O O O I I X X X X X X

abbrev pub cas : Pattern
cas = bits I X X O I I X X X X X X

abbrev pub cmpi : Pattern
cmpi = bits I I O O X X X X X X X X

-- ---- group 4
abbrev pub move_from_sr : Pattern
move_from_sr = bits O O O O I I X X X X X X

abbrev pub move_from_ccr : Pattern
move_from_ccr = bits O O I O I I X X X X X X

abbrev pub move_to_ccr : Pattern
move_to_ccr = bits O I O O I I X X X X X X

abbrev pub move_to_sr : Pattern
move_to_sr = bits O I I O I I X X X X X X

abbrev pub movem : Pattern
movem = bits I X O O I X X X X X X X

abbrev pub tas : Pattern
tas = bits I O I O I I X X X X X X

abbrev pub mull_divl : Pattern
mull_divl = bits I I O O O X X X X X X X

abbrev pub swap : Pattern
swap = bits I O O O O I O O O X X X

abbrev pub nbcd_ext : Pattern
nbcd_ext = bits I O O X X X X X X X X X

abbrev pub clr : Pattern
clr = bits O O I O X X X X X X X X

abbrev pub negx : Pattern
negx = bits O O O O X X X X X X X X

abbrev pub neg : Pattern
neg = bits O I O O X X X X X X X X

abbrev pub not' : Pattern
not' = bits O I I O X X X X X X X X

abbrev pub lea : Pattern
lea = bits I I I X X X X X X

abbrev pub chk : Pattern
chk = bits I I O X X X X X X

abbrev pub tst : Pattern
tst = bits I O I O X X X X X X X X

-- ---- groups 5 and 6
abbrev pub dbcc : Pattern
dbcc = bits I I O O I X X X

abbrev pub bra : Pattern
bra = bits O O O O X X X X X X X X

-- ---- groups 8, 9 with 13, and 12
abbrev pub sbcd_abcd : Pattern
sbcd_abcd = bits I O O O O X X X X

abbrev pub pack : Pattern
pack = bits I O I O O X X X X

abbrev pub addx_subx : Pattern
addx_subx = bits I X X O O X X X X

abbrev pub exg_data : Pattern
exg_data = bits I O I O O O X X X

abbrev pub exg_address : Pattern
exg_address = bits I O I O O I X X X

abbrev pub exg_both : Pattern
exg_both = bits I I O O O I X X X

-- ---- group 14
abbrev pub bit_field : Pattern
bit_field = bits I X X X I I X X X X X X

abbrev pub rox : Pattern
rox = bits I O X X X
