-- The whole page of the rules. Document 02, R-3: "A page is printed from it." The Rust has none.
--
--   runs_text    ==  part one, in order of opcodes: a line for each run of rows with the same rule
--   rule_text n  ==  of part two, rule n: its heading, and what it gives for each operand mode
--   page_text    ==  the whole output: the runs, each rule once, and the closing line
use Rattle.std.specs.Prelude.{ℕ, List, ◌++◌}
use Rattle.classifier.specs.Rules.{rule_count}
use Rattle.rule_text.specs.Each.{each_from}
use Rattle.rule_text.specs.Names.{mode_count}
use Rattle.rule_text.specs.Lines.{row_count, row_text, heading_line, mode_line, closing_line}

abbrev pub runs_text : List ℕ
runs_text = each_from 0 row_count row_text

abbrev pub rule_text : ℕ → List ℕ
rule_text n = heading_line n ++ each_from 0 mode_count (mode_line n)

abbrev pub page_text : List ℕ
page_text = runs_text ++ each_from 0 rule_count rule_text ++ closing_line
