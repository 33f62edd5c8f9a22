-- An array constant as the code lays it out, as a list: so that a table stands in the code alone, and its test is computed on what stands there.
-- Assumes nothing.
use mathlib.Core.List.{List, [], ◌∷◌}
use Prim.Native.Nat.{ℕ}
use mir.Syntax

-- an element: a number that fits a byte is written as an `int`
abbrev element : Syntax.Opd → ℕ
element (Syntax.copy from) = 0
element (Syntax.int width n) = n
element (Syntax.int_neg width n) = 0
element (Syntax.int_big width n) = n
element (Syntax.float format n) = 0
element Syntax.opd_true = 0
element Syntax.opd_false = 0
element Syntax.opd_unit = 0
element (Syntax.ptr_const n) = 0
element (Syntax.size_of _) = 0
element (Syntax.align_of _) = 0
element (Syntax.num_of _ _) = 0
element (Syntax.fn_addr _ _) = 0
element (Syntax.vtable _ _) = 0

abbrev elements : List Syntax.Opd → List ℕ
elements [] = []
elements (x ∷ xs) = element x ∷ elements xs

abbrev array : Syntax.Rv → List ℕ
array (Syntax.rv_opd x) = []
array (Syntax.op2 op x y) = []
array (Syntax.op1 op x) = []
array (Syntax.addr_of from) = []
array (Syntax.aggregate xs) = elements xs
array (Syntax.repeat x n) = []
array (Syntax.repeat_p _ _) = []
array (Syntax.select _ _ _) = []

-- the numbers of a constant that lies in memory of its own
abbrev lent : Syntax.Const → List ℕ
lent (Syntax.c_int width n) = []
lent (Syntax.c_bool b) = []
lent (Syntax.c_float format n) = []
lent Syntax.c_unit = []
lent (Syntax.c_ints width ns) = ns
lent (Syntax.c_repeat value n) = []
lent (Syntax.c_parts parts) = []
lent (Syntax.c_here n) = []

-- what a statement lays out
abbrev pub laid_out : Syntax.Body → List ℕ
laid_out Syntax.skip = []
laid_out (Syntax.seq first then) = []
laid_out (Syntax.assign to value) = array value
laid_out (Syntax.block inner) = []
laid_out (Syntax.loop inner) = []
laid_out (Syntax.cond test taken left) = []
laid_out (Syntax.switch on arms) = []
laid_out (Syntax.exit n) = []
laid_out Syntax.return = []
laid_out (Syntax.call name arguments to) = []
laid_out Syntax.unreachable = []
laid_out (Syntax.call_v _ _ _ _) = []
laid_out (Syntax.lend_static to type value) = lent value
