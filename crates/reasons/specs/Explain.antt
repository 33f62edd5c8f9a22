-- One retirement, and why it costs what it costs, on the numbers that are lent for the state. Document 02, R-1: "one
-- reason per retirement"; R-5: "Step and R-1 pass it on".
--
--   explained_of r       ==  what a retirement as it is met comes to: its clocks, what the cache predicted, its reason,
--                            the window before it, and the registers that stand in the way
--   ExplainedAt          ==  this, together with every lent number afterwards
--   explained_at o l     ==  these two
--   met_of p l r         ==  the retirement r as it is met on the lent numbers l, in the profile p
--   explain_at_of p l r  ==  the same explained, with the lent numbers that the step leaves
--   told_for p l e       ==  the event e explained on the lent numbers l, where it is a retirement
use Rattle.std.specs.Prelude.{None, Option, Some}
use Rattle.class_word.specs.Word.{clocks}
use Rattle.cost.specs.Retiring.{Retiring}
use Rattle.cost.specs.Cost.{cost_of}
use Rattle.profile.specs.declared.Profile.{Profile}
use Rattle.state.specs.declared.Retirement.{Retirement}
use Rattle.state.specs.declared.Event.{Event}
use Rattle.state.specs.declared.Event.TheVariants.{Retired, Broken, ClearedAll, ClearedUser}
use Rattle.state.specs.Events.{retiring_of}
use Rattle.state.specs.Timing.{state_of}
use Rattle.step.specs.Boards.{board_of}
use Rattle.in_place.specs.Lent.{Lent, state_at}
use Rattle.in_place.specs.Retire.{event_at_of}
use Rattle.reasons.specs.declared.explain.Explained.{Explained}
use Rattle.reasons.specs.Reasons.{reason_of, shared}

abbrev pub explained_of : Retiring → Explained
explained_of r =
    record {
      cost = clocks (cost_of r);
      answer = r.answer;
      reason = reason_of r;
      window = r.window;
      registers = shared r;
    }

pub record ExplainedAt : Type 0 where
  pub explained : Explained
  pub lent : Lent

abbrev pub explained_at : Explained → Lent → ExplainedAt
explained_at o l = record { explained = o; lent = l }

abbrev pub met_of : Profile → Lent → Retirement → Retiring
met_of p l r = retiring_of (board_of p) (state_of (state_at l)) r

abbrev pub explain_at_of : Profile → Lent → Retirement → ExplainedAt
explain_at_of p l r = explained_at (explained_of (met_of p l r)) (event_at_of p l (Retired r))

abbrev pub told_for : Profile → Lent → Event → Option Explained
told_for p l (Retired r) = Some (explained_of (met_of p l r))
told_for p l Broken = None
told_for p l ClearedAll = None
told_for p l ClearedUser = None
