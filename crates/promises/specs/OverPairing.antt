-- Document 02, R-4: "Prove that in this profile, among valid MOVE (groups 1 to 3), MOVEQ, ADDQ, SUBQ, EOR, EXTB and
-- CMPM, no accepted pair has a follower that reads or writes a data or address register its head writes, as Motorola's
-- Programmer's Reference Manual gives them."
--
-- In each, p is the profile.
--   accepted p s h f   ==  from the state s the retirement h leaves an open window, and behind it f passes the dispatch
--                          test: h is the head, and f its follower
--   touches f n        ==  the follower reads or writes register n: D0 to D7 are 0 to 7, A0 to A7 are 8 to 15
--   OverPairs p s h f  ==  two valid instructions that are accepted, and of which the follower touches a register that
--                          its head writes
--   NeverOverPairs p   ==  there is no such pair, whatever the state and the controls
use Rattle.std.specs.Prelude.{ℕ, ◌<◌, ◌≡◌, Bool, true, ◌||◌}
use Rattle.profile.specs.declared.Profile.{Profile}
use Rattle.profile.specs.Profile.{profile_of}
use Rattle.cost.specs.Cost.{pairs}
use Rattle.state.specs.declared.Retirement.{Retirement}
use Rattle.state.specs.declared.Event.TheVariants.{Retired}
use Rattle.state.specs.Events.{State, after}
use Rattle.state.specs.CrateCache.{crate_cache}
use Rattle.step.specs.Boards.{board_of}
use Rattle.manual.specs.Manual.{form_of}

abbrev pub accepted : Profile → State crate_cache → Retirement → Retirement → Bool
accepted p s h f = pairs (profile_of p f.op) f.controls (after (board_of p) s (Retired h)).window

abbrev pub touches : Retirement → ℕ → Bool
touches f n = (form_of f.op).reads n || (form_of f.op).writes n

pub record OverPairs (p : Profile) (s : State crate_cache) (h f : Retirement) : Type 0 where
  pub head_valid : (form_of h.op).valid ≡ true
  pub follower_valid : (form_of f.op).valid ≡ true
  pub taken : accepted p s h f ≡ true
  pub number : ℕ
  pub register : number < 16
  pub written : (form_of h.op).writes number ≡ true
  pub touched : touches f number ≡ true

abbrev pub NeverOverPairs : Profile → Type 0
NeverOverPairs p = (s : State crate_cache) (h f : Retirement) → OverPairs p s h f → ⊥
