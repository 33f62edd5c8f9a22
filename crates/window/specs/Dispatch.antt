-- Document 01, "Dispatch test, in order". The Rust: soep_dispatch_test.
--
-- The head is the instruction that the open window w stands for; the follower i retires with the controls k.
--
--   memory word           ==  an instruction with this class word reads or writes memory
--   is_simple word        ==  "follower class 0 and none of EA_INDEXED, UNCLASSIFIED, VARIABLE"
--   late_ccr word w       ==  "a late CCR user behind a definer"
--   second_memory word w  ==  "memory behind memory"
--   Rule, rules           ==  the six rules, the enum of the code, and their list in document 01's order
--   holds i k w rule      ==  the rule holds; over each line, document 01's words
--   first_failing h l     ==  the first of the list l of which h does not hold, if there is one
--   failing i k w         ==  the first rule that fails, if there is one. Document 02's R-1 reads it too: "the first
--                             dispatch rule that failed, in document 01's order"
--   is_passed d           ==  there is none
--   passes i k w          ==  the dispatch test passes: none fails
use Rattle.std.specs.Prelude.{ℕ, Bool, true, false, not, cond, ◌&&◌, ◌||◌, List, [], ◌∷◌, eqb, Option, Some, None}
use Rattle.std.specs.Int.Bits.{bit_or}
use Rattle.bits.specs.Words.{meets}
use Rattle.class_word.specs.Word.{
  has,
  class_of,
  VARIABLE,
  UNCLASSIFIED,
  EA_INDEXED,
  USES_CCR_LATE,
  READS_MEM,
  WRITES_MEM,
}
use Rattle.window.specs.declared.dispatch.Instruction.{Instruction}
use Rattle.window.specs.declared.dispatch.Controls.{Controls}
use Rattle.window.specs.declared.dispatch.Rule.{Rule}
use Rattle.window.specs.declared.dispatch.Rule.TheVariants.{
  EssOn,
  BothCached,
  Simple,
  RegistersFree,
  NoLateCcr,
  OneMemory,
}
use Rattle.window.specs.declared.Window.{Window}

abbrev pub memory : ℕ → Bool
memory word = has word READS_MEM || has word WRITES_MEM

unfoldable pub is_simple : ℕ → Bool
is_simple word =
    eqb (class_of word) 0
    && not (has word EA_INDEXED)
    && not (has word UNCLASSIFIED)
    && not (has word VARIABLE)

abbrev pub late_ccr : ℕ → Window → Bool
late_ccr word w = has word USES_CCR_LATE && w.ccr

abbrev pub second_memory : ℕ → Window → Bool
second_memory word w = memory word && w.mem

abbrev pub rules : List Rule
rules = EssOn ∷ BothCached ∷ Simple ∷ RegistersFree ∷ NoLateCcr ∷ OneMemory ∷ []

unfoldable pub holds : Instruction → Controls → Window → Rule → Bool
-- "ESS on"
holds i k w EssOn = k.ess
-- "head and follower both cached"
holds i k w BothCached = w.warm && k.cached
-- "follower class 0 and none of EA_INDEXED, UNCLASSIFIED, VARIABLE"
holds i k w Simple = is_simple i.word.0
-- "(use or def) shares no bit with the head's def"
holds i k w RegistersFree = not (meets (bit_or i.uses i.defs) w.defs)
-- "not a late CCR user behind a definer"
holds i k w NoLateCcr = not (late_ccr i.word.0 w)
-- "not memory behind memory"
holds i k w OneMemory = not (second_memory i.word.0 w)

unfoldable pub first_failing : (Rule → Bool) → List Rule → Option Rule
first_failing h [] = None
first_failing h (rule ∷ l) = cond (h rule) (first_failing h l) (Some rule)

unfoldable pub failing : Instruction → Controls → Window → Option Rule
failing i k w = first_failing (holds i k w) rules

abbrev pub is_passed : Option Rule → Bool
is_passed None = true
is_passed (Some rule) = false

abbrev pub passes : Instruction → Controls → Window → Bool
passes i k w = is_passed (failing i k w)
