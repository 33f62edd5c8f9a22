-- Document 01, part 3, "Masks": sets of registers and their masks. The Rust: the bits of the masks of reg_masks_060.
--
--   Regs            ==  a set of registers: a test that says of each number whether the register of that number is in
--                       the set
--   register n      ==  the register of number n alone
--   D n             ==  the data register Dn alone, number n          "D0 to D7 bits 0 to 7"
--   A n             ==  the address register An alone, number 8 + n   "A0 to A7 bits 8 to 15"
--   none            ==  no register
--   all             ==  every register
--   union s t       ==  the registers that are in s or in t
--   digits_of k s   ==  the number of k binary digits whose digit i is 1 where register i is in the set
--   mask_of_regs s  ==  the mask of a set, 16 bits: bit i is set where register i is in the set
use Rattle.std.specs.Prelude.{ℕ, zero, suc, ◌+◌, ◌*◌, Bool, true, false, ◌||◌, eqb}
use Rattle.bits.specs.Words.{num}

abbrev pub Regs : Type 0
Regs = ℕ → Bool

abbrev pub register : ℕ → Regs
register n i = eqb i n

abbrev pub D : ℕ → Regs
D n = register n

abbrev pub A : ℕ → Regs
A n = register (8 + n)

abbrev pub none : Regs
none i = false

abbrev pub all : Regs
all i = true

abbrev pub union : Regs → Regs → Regs
union s t i = s i || t i

abbrev pub digits_of : ℕ → Regs → ℕ
digits_of zero s = 0
digits_of (suc k) s = digits_of k (λ i. s (suc i)) * 2 + num (s 0)

unfoldable pub mask_of_regs : Regs → ℕ
mask_of_regs s = digits_of 16 s
