-- One retirement, and any event, on lent numbers. Document 01, "One retirement" and "Records and images". The Rust:
-- cycles_060, break_060_pipeline, clear_all, clear_user.
--
--   Paid                   ==  what a retirement costs and what the cache predicted of it, as a number, together with
--                              every lent number afterwards
--   paid cost n l          ==  these three
--   clocks_in told         ==  the clocks in the one 64-bit number that a single step hands back: its low 32 bits
--   answer_in told         ==  what the cache predicted, as a number: the 32 bits above them
--   paid_by told l         ==  these two, with the lent numbers l afterwards
--   paid_of s              ==  the same of a next state, its cost and the cache's answer, s
--   retire_by_of i op k l  ==  the retirement of the opcode op, which is i to the window, with the controls k, on the
--                              lent numbers l
--   retire_at_of p l r     ==  the retirement r on the lent numbers l, in the profile p
--   event_at_of p l e      ==  the lent numbers after the event e
--   paid_for p l e         ==  what is paid for the event e on the lent numbers l: what a retirement costs and what the
--                              cache predicted; nothing for any other event
use Rattle.std.specs.Prelude.{ℕ, ◌/◌, ◌%◌, ◌^◌, Option, Some, None}
use Rattle.class_word.specs.declared.Clocks.{Clocks}
use Rattle.class_word.specs.Word.{clocks}
use Rattle.cost.specs.Branch.{answer_number}
use Rattle.window.specs.declared.dispatch.Instruction.{Instruction}
use Rattle.window.specs.declared.dispatch.Controls.{Controls}
use Rattle.state.specs.declared.Retirement.{Retirement}
use Rattle.state.specs.declared.Event.{Event}
use Rattle.state.specs.declared.Event.TheVariants.{Retired, Broken, ClearedAll, ClearedUser}
use Rattle.state.specs.declared.Stepped.{Stepped}
use Rattle.profile.specs.declared.Profile.{Profile}
use Rattle.state.specs.Timing.{stepped_by}
use Rattle.step.specs.Boards.{stepped_of, after_of}
use Rattle.in_place.specs.Lent.{Lent, state_at, lent_of}
use Rattle.in_place.specs.declared.events.Paid as events

pub record Paid : Type 0 where
  pub cost : Clocks
  pub answer : ℕ
  pub lent : Lent

abbrev pub paid : Clocks → ℕ → Lent → Paid
paid cost n l = record { cost = cost; answer = n; lent = l }

abbrev pub clocks_in : ℕ → Clocks
clocks_in told = clocks (told % 2 ^ 32)

abbrev pub answer_in : ℕ → ℕ
answer_in told = told / 2 ^ 32

abbrev pub paid_by : ℕ → Lent → Paid
paid_by told l = paid (clocks_in told) (answer_in told) l

abbrev pub paid_of : Stepped → Paid
paid_of s = paid s.cost (answer_number s.answer) (lent_of s.timing)

abbrev pub retire_by_of : Instruction → ℕ → Controls → Lent → Paid
retire_by_of i op k l = paid_of (stepped_by (state_at l) i (record { op = op; controls = k }))

abbrev pub retire_at_of : Profile → Lent → Retirement → Paid
retire_at_of p l r = paid_of (stepped_of p (state_at l) r)

abbrev pub event_at_of : Profile → Lent → Event → Lent
event_at_of p l e = lent_of (after_of p (state_at l) e)

abbrev pub paid_for : Profile → Lent → Event → Option events.Paid
paid_for p l (Retired r) = Some (record { cost = (retire_at_of p l r).cost; answer = (retire_at_of p l r).answer })
paid_for p l Broken = None
paid_for p l ClearedAll = None
paid_for p l ClearedUser = None
