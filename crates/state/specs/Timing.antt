-- The crate's state as the structs of the code hold it, and what happens to it whatever the opcodes are. The Rust:
-- Oep060Timing, break_060_pipeline, clear_all, clear_user.
--
--   state_of t, timing_of s  ==  the state that a struct holds, and the struct that holds a state
--   timing_at ts bs w        ==  the struct of these tags, bytes and window
--   Asked, asked a c         ==  the cache's answer together with the next cache
--   asked_of c i k           ==  the same of a cache, when an instruction retires
--   stepped_by t i r         ==  the whole state and the cost after an instruction retires as r, and the cache's answer
--   seen_of t                ==  the state as it is read
--   broken_of t              ==  the state after a break
--   cleared_of t             ==  the state after a clear of all
--   user_cleared_of t        ==  the state after a clear of user entries
--   fresh_of                 ==  "a fresh state (zeros, window shut)"
use Rattle.std.specs.Prelude.{ℕ, List}
use Rattle.class_word.specs.Word.{clocks}
use Rattle.branch_cache.specs.declared.BranchCache060.{BranchCache060}
use Rattle.branch_cache.specs.Cache as cache
use Rattle.window.specs.declared.dispatch.Instruction.{Instruction}
use Rattle.window.specs.declared.dispatch.Controls.{Controls}
use Rattle.window.specs.declared.Window.{Window}
use Rattle.window.specs.Windows.{shut}
use Rattle.cost.specs.declared.branch.Answer.{Answer}
use Rattle.cost.specs.Cost.{cost_of}
use Rattle.state.specs.declared.Retirement.{Retirement}
use Rattle.state.specs.declared.Oep060Timing.{Oep060Timing}
use Rattle.state.specs.declared.Stepped.{Stepped}
use Rattle.state.specs.Events.{
  State,
  answer_of,
  cache_after,
  as_met,
  past,
  seen_state,
  broken_state,
  cleared_state,
  user_cleared,
}
use Rattle.state.specs.CrateCache.{crate_cache}
use Rattle.branch_cache.specs.Cache.{cache_at}

abbrev pub state_of : Oep060Timing → State crate_cache
state_of t = record { cache = t.cache; window = t.window }

abbrev pub timing_of : State crate_cache → Oep060Timing
timing_of s = record { cache = s.cache; window = s.window }

abbrev pub timing_at : List ℕ → List ℕ → Window → Oep060Timing
timing_at tags state w = record { cache = cache_at tags state; window = w }

pub record Asked : Type 0 where
  pub answer : Answer
  pub cache : BranchCache060

abbrev pub asked : Answer → BranchCache060 → Asked
asked answer cache = record { answer = answer; cache = cache }

abbrev pub asked_of : BranchCache060 → Instruction → Controls → Asked
asked_of c i k = asked (answer_of crate_cache c i k) (cache_after crate_cache c i k)

unfoldable pub stepped_by : Oep060Timing → Instruction → Retirement → Stepped
stepped_by t i r = record {
  timing = timing_of (past crate_cache (state_of t) i r);
  cost = clocks (cost_of (as_met crate_cache (state_of t) i r));
  answer = (as_met crate_cache (state_of t) i r).answer;
}

abbrev pub seen_of : Oep060Timing → Oep060Timing
seen_of t = timing_of (seen_state crate_cache (state_of t))

abbrev pub broken_of : Oep060Timing → Oep060Timing
broken_of t = timing_of (broken_state crate_cache (state_of t))

abbrev pub cleared_of : Oep060Timing → Oep060Timing
cleared_of t = timing_of (cleared_state crate_cache (state_of t))

abbrev pub user_cleared_of : Oep060Timing → Oep060Timing
user_cleared_of t = timing_of (user_cleared crate_cache (state_of t))

abbrev pub fresh_of : Oep060Timing
fresh_of = record { cache = cache.cache_fresh_of; window = shut }
