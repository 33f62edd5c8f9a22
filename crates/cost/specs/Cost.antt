-- Document 01, "One retirement": the cost and the next window. The Rust: cycles_060 past the lookup.
--
--   flow_cost raw           ==  another change of flow
--                               "the larger of the fallback and 5"
--   plain_of word raw       ==  "the fallback if VARIABLE or UNCLASSIFIED, or the packed clocks"
--   base_of i k             ==  the base
--                               "plus 1 if indexed"
--   pairs i k w             ==  it joins the head
--                               "If the window is open and the dispatch test passes"
--   as_head op i k          ==  the window with this instruction as head, its opcode and its ppc kept
--                               "the window becomes this instruction's"; document 02, R-6: "The window keeps both"
--   cost_by, heads_by       ==  the cost, and whether the instruction becomes the head, one line for each of document
--                               01's three points
--                               "window shut .. Otherwise .. the window becomes this instruction's, unless its class is
--                               1, which shuts it"
--   window_by               ==  the next window: the head's, or shut
--   charged_by              ==  the cost, and whether the instruction becomes the head
--   cost_of r, window_of r  ==  what the retirement r costs, and the window that it leaves
--   predicted_of r          ==  what the cache predicted of it, as a number
--                               document 02, R-5: "0 to 3 in this order, 0 for non-branches"
--
-- In `cost_by` the base less 1 is 0 where the base is 0, as the Rust's `.max(0)` has it. Neither it nor `heads_by` is
-- given the opcode, nor looks at the window's `op` and `address`.
use Rattle.std.specs.Prelude.{ℕ, ◌+◌, ◌-◌, max, Bool, true, false, cond, not, ◌&&◌, ◌||◌, ℤ, ◌==◌}
use Rattle.class_word.specs.Word.{
  has,
  class_of,
  clocks_of,
  clocks,
  DBCC,
  VARIABLE,
  UNCLASSIFIED,
  EA_INDEXED,
  DEFINES_CCR,
}
use Rattle.window.specs.Raw.{fallback_of}
use Rattle.cost.specs.Retiring.{Retiring, Point, branch, flow, neither, point_of}
use Rattle.window.specs.Windows.{shut}
use Rattle.window.specs.Dispatch.{memory, passes}
use Rattle.window.specs.declared.dispatch.Instruction.{Instruction}
use Rattle.window.specs.declared.dispatch.Controls.{Controls}
use Rattle.window.specs.declared.Window.{Window}
use Rattle.cost.specs.declared.branch.Answer.{Answer}
use Rattle.cost.specs.Branch.{taken_of, branch_cost, answer_number}
use Rattle.cost.specs.declared.Charged.{Charged}

abbrev pub flow_cost : ℤ → ℕ
flow_cost raw = max (fallback_of raw) 5

unfoldable pub plain_of : ℕ → ℤ → ℕ
plain_of word raw = cond (has word VARIABLE || has word UNCLASSIFIED) (fallback_of raw) (clocks_of word)

unfoldable pub base_of : Instruction → Controls → ℕ
base_of i k = plain_of i.word.0 k.raw.0 + cond (has i.word.0 EA_INDEXED) 1 0

unfoldable pub pairs : Instruction → Controls → Window → Bool
pairs i k w = w.opened && passes i k w

abbrev pub as_head : ℕ → Instruction → Controls → Window
as_head op i k =
    record {
      opened = true;
      defs = i.defs;
      ccr = has i.word.0 DEFINES_CCR;
      mem = memory i.word.0;
      warm = k.cached;
      op = op;
      address = k.ppc;
    }

abbrev pub cost_by : Point → Instruction → Controls → Window → Answer → ℕ
cost_by branch i k w a = branch_cost (has i.word.0 DBCC) (taken_of i k) w.opened a
cost_by flow i k w a = flow_cost k.raw.0
cost_by neither i k w a = cond (pairs i k w) (base_of i k - 1) (base_of i k)

abbrev pub heads_by : Point → Instruction → Controls → Window → Bool
heads_by branch i k w = false
heads_by flow i k w = false
heads_by neither i k w = not (pairs i k w) && not (class_of i.word.0 == 1)

abbrev pub window_by : Point → ℕ → Instruction → Controls → Window → Window
window_by x op i k w = cond (heads_by x i k w) (as_head op i k) shut

abbrev pub charged_by : Point → Instruction → Controls → Window → Answer → Charged
charged_by x i k w a = record { cost = clocks (cost_by x i k w a); heads = heads_by x i k w }

unfoldable pub cost_of : Retiring → ℕ
cost_of r = cost_by (point_of r.instruction r.controls) r.instruction r.controls r.window r.answer

unfoldable pub window_of : Retiring → Window
window_of r = window_by (point_of r.instruction r.controls) r.op r.instruction r.controls r.window

abbrev pub predicted_of : Retiring → ℕ
predicted_of r = answer_number r.answer
