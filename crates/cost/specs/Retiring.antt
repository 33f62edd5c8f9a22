-- Document 01, "One retirement": all that the cost and the next window depend on. The Rust: PendingHead060 and
-- cycles_060's three cases.
--
--   Retiring             ==  a retirement as it is met: its opcode, the instruction that this is to the window, the
--                            controls, the window before it and the cache's answer
--   retiring op i k w a  ==  the retirement that has these five
--   Point, point_of i k  ==  which of the three points of "One retirement" it is: `branch` "1. BRANCH", `flow` "2.
--                            Else, flowed", `neither` "3. Else"
--   other_point k        ==  which of the last two, of what is no branch
use Rattle.std.specs.Prelude.{ℕ, cond}
use Rattle.class_word.specs.Word.{has, BRANCH}
use Rattle.window.specs.declared.dispatch.Instruction.{Instruction}
use Rattle.window.specs.declared.dispatch.Controls.{Controls}
use Rattle.window.specs.declared.Window.{Window}
use Rattle.cost.specs.declared.branch.Answer.{Answer}

pub record Retiring : Type 0 where
  pub op : ℕ
  pub instruction : Instruction
  pub controls : Controls
  pub window : Window
  pub answer : Answer

abbrev pub retiring : ℕ → Instruction → Controls → Window → Answer → Retiring
retiring op i k w a = record { op = op; instruction = i; controls = k; window = w; answer = a }

pub data Point : Type 0 where
  branch flow neither : Point

abbrev pub other_point : Controls → Point
other_point k = cond k.flowed flow neither

unfoldable pub point_of : Instruction → Controls → Point
point_of i k = cond (has i.word.0 BRANCH) branch (other_point k)
