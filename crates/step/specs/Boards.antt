-- The boards that are chosen at start: a profile, with the branch cache of 256 slots of document 000; and one event on
-- the state as the structs of the code hold it. The Rust has the crate's profile alone: Oep060Timing, cycles_060,
-- break_060_pipeline.
--
-- In each, p is the profile.
--   board_of p        ==  the profile and the cache
--   stepped_of p t r  ==  the whole state and the cost after a retirement, and the cache's answer
--   after_of p t e    ==  the state after an event
use Rattle.profile.specs.declared.Profile.{Profile}
use Rattle.profile.specs.Profile.{profile_of}
use Rattle.state.specs.declared.Retirement.{Retirement}
use Rattle.state.specs.declared.Event.{Event}
use Rattle.state.specs.declared.Oep060Timing.{Oep060Timing}
use Rattle.state.specs.declared.Stepped.{Stepped}
use Rattle.state.specs.Board.{Board}
use Rattle.state.specs.Events.{after}
use Rattle.state.specs.CrateCache.{crate_cache}
use Rattle.state.specs.Timing.{state_of, timing_of, stepped_by}

abbrev pub board_of : Profile → Board
board_of p = record { profile = profile_of p; rule = crate_cache }

abbrev pub stepped_of : Profile → Oep060Timing → Retirement → Stepped
stepped_of p t r = stepped_by t (profile_of p r.op) r

abbrev pub after_of : Profile → Oep060Timing → Event → Oep060Timing
after_of p t e = timing_of (after (board_of p) (state_of t) e)
