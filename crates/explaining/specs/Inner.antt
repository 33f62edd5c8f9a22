-- What the functions inside answer.
--
--   count_text ns n  ==  the line of the reason of this number, whose count is the number of that place of ns
--   met_by p t said  ==  the retirements of what a trace said, as they are met from the state t; none of a refused one
--   Lined            ==  what is known when the lines of the retirements rs are written: the place behind them, how
--                        many there are, the sum of their costs, and how many have each reason
use Rattle.std.specs.Prelude.{ℕ, ◌≡◌, Bool, List, [], map, length, get_or}
use Rattle.text.specs.Written.{written, written_of}
use Rattle.cost.specs.Retiring.{Retiring}
use Rattle.cost.specs.Cost.{cost_of}
use Rattle.profile.specs.declared.Profile.{Profile}
use Rattle.state.specs.declared.Oep060Timing.{Oep060Timing}
use Rattle.state.specs.Events.{retirements, total}
use Rattle.state.specs.Timing.{state_of}
use Rattle.step.specs.Boards.{board_of}
use Rattle.records.specs.Trace.{Trace, events, refused}
use Rattle.reasons.specs.declared.reason.Reason.TheVariants.{Static}
use Rattle.reasons.specs.Reasons.{reasons}
use Rattle.explaining.specs.declared.Put.{Put}
use Rattle.explaining.specs.WhyLines.{why_lines, counted, count_line}

unfoldable pub count_text : List ℕ → ℕ → List ℕ
count_text ns n = count_line (get_or reasons n Static) (get_or ns n 0)

abbrev pub met_by : Profile → Oep060Timing → Trace → List Retiring
met_by p t (events es) = retirements (board_of p) (state_of t) es
met_by p t (refused refusal) = []

pub record Lined (full : Bool) (out₀ : List ℕ) (start : ℕ) (rs : List Retiring) (put : Put) (out : List ℕ)
    : Type 0 where
  pub lines : written put.place out ≡ written_of out₀ start (why_lines full 0 rs)
  pub count : put.count ≡ length rs
  pub sum : put.total ≡ total (map cost_of rs)
  pub each : (n : ℕ) → get_or put.counts n 0 ≡ counted n rs
