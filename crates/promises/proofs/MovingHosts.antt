-- Demand 3 of what a host calls: its step, its run of a trace and its batch of words, from their own promises as the checker reads them.
-- Assumes nothing.
use Prim.Native.Nat.{◌+◌, ◌/◌, ◌%◌, ◌^◌, ◌≤◌}
use mathlib.Core.Path.{◌≡◌, sym, ap, ◌∙◌}
use mathlib.Core.Logic.{◌↔◌}
use mathlib.Core.Bool.{true, false}
use mathlib.Core.List.{List, map}
use lib.ListN.{length, take}
use contract.Lifetimes
use Rattle.window.specs.Raw.{raw_count}
use Rattle.cost.specs.Cost.{cost_of}
use Rattle.profile.specs.declared.Profile.{Profile}
use Rattle.profile.specs.Profile.{profile_at}
use Rattle.state.specs.declared.Retirement.{Retirement}
use Rattle.state.specs.Events.{retiring_of, count_of}
use Rattle.state.specs.Flags.{retirement_of}
use Rattle.state.specs.Timing.{state_of, seen_of, stepped_by}
use Rattle.step.specs.Boards.{board_of}
use Rattle.in_place.specs.Lent.{Lent, lent, state_at}
use Rattle.in_place.specs.Retire.{Paid}
use Rattle.state.specs.declared.Oep060Timing.{Oep060Timing}
use Rattle.batch.specs.Batch.{events_of, batch_of}
use Rattle.host.specs.HostRan.{HostOutcome}
use Rattle.host.specs.HostWords.{retirements_of}
use Rattle.host.proofs.timing_060_retire_at.Reads as retire
use Rattle.host.proofs.timing_060_run_trace_at.Reads as run-trace
use Rattle.host.proofs.timing_060_run_batch_at.Reads as run-batch
use Rattle.promises.specs.Moving.{Meeting, meetings, is_free, is_zero}
use Rattle.promises.proofs.Demand.{board_demand3}
use Rattle.promises.proofs.Moving.{time_moves}
use Rattle.state.specs.declared.Event.{Event}
use Rattle.records.specs.TraceTable.{Accepts}
use Rattle.refusals.specs.Given.{is_accepted}
use Rattle.refusals.specs.Runs.{Runs, runs, rooms_of}
use Rattle.little_endian.specs.Numbers.{numbers_at}

-- the step: its clocks, the low 32 bits, are 0 exactly when demand 3 says so
module _ (κs : Lifetimes.Lfts 3) (a : _) (o : _) (x : _) (p : retire.Post κs a o x) where
  abbrev P : Profile
  P = profile_at a.1.1.1.0

  abbrev from : Lent
  from = lent a.0.now a.1.0.now a.1.1.0.now

  abbrev retired : Retirement
  retired = retirement_of a.1.1.1.1.0 a.1.1.1.1.1.0 a.1.1.1.1.1.1.0 a.1.1.1.1.1.1.1.0 (raw_count a.1.1.1.1.1.1.1.1.0)

  abbrev meeting : Meeting
  meeting = record { state = state_of (state_at from); retirement = retired }

  cost_is : o % 2 ^ 32 ≡ cost_of (retiring_of (board_of P) (state_of (state_at from)) retired)
  unfolding stepped_by
  cost_is = ap (λ (q : Paid). q.cost.0) p

  pub host_step_zero : (o % 2 ^ 32 ≡ 0) ↔ (is_free P meeting ≡ true)
  host_step_zero =
      let zero = (board_demand3 P).zero_exactly (state_of (state_at from)) retired in
      (λ z. zero.0 (sym cost_is ∙ z), λ h. cost_is ∙ zero.1 h)

-- a run: at least half as many clocks as retirements, rounded up where the window began shut
module _ (κs : Lifetimes.Lfts 6) (a : _) (o : _) (x : _) (p : run-trace.Post κs a o x) where
  abbrev Q : Profile
  Q = profile_at a.1.1.1.1.1.0

  abbrev lent_runs : Runs
  lent_runs = runs a.1.0.now a.1.1.1.1.1.1.0.now

  abbrev given : Oep060Timing
  given = state_at (lent a.1.1.0.now a.1.1.1.0.now a.1.1.1.1.0.now)

  pub host_run_moves : o.count / 2 ≤ o.total
  host_run_moves =
      rw (ap (λ (q : HostOutcome). q.ran.count) p, ap (λ (q : HostOutcome). q.ran.total) p)
      ((time_moves Q).trace a.0.now lent_runs given)

  pub host_run_moves_shut : given.window.opened ≡ false → (o.count + 1) / 2 ≤ o.total
  host_run_moves_shut h =
      rw (ap (λ (q : HostOutcome). q.ran.count) p, ap (λ (q : HostOutcome). q.ran.total) p)
      ((time_moves Q).trace_shut a.0.now lent_runs given h)

  -- each cost in the lent bytes
  pub host_run_zero : (es : List Event) → Accepts a.0.now (rooms_of lent_runs) es
      → map is_zero (numbers_at (count_of es) 4 x.1.0.now 0) ≡ map (is_free Q) (meetings Q (state_of (seen_of given)) es)
  host_run_zero es ok = ap (λ (q : HostOutcome). map is_zero (numbers_at (count_of es) 4 q.runs.costs 0)) p ∙ (time_moves Q).trace_zero a.0.now lent_runs given es ok

-- a batch of words: the same
module _ (κs : Lifetimes.Lfts 6) (a : _) (o : _) (x : _) (p : run-batch.Post κs a o x) where
  abbrev R : Profile
  R = profile_at a.1.1.1.1.1.0

  abbrev places : Runs
  places = runs a.1.0.now a.1.1.1.1.1.1.0.now

  abbrev came : Oep060Timing
  came = state_at (lent a.1.1.0.now a.1.1.1.0.now a.1.1.1.1.0.now)

  abbrev rs : List Retirement
  rs = retirements_of a.0.now

  pub host_batch_moves : o.count / 2 ≤ o.total
  host_batch_moves =
      rw (ap (λ (q : HostOutcome). q.ran.count) p, ap (λ (q : HostOutcome). q.ran.total) p)
      ((time_moves R).batch rs places came)

  pub host_batch_moves_shut : came.window.opened ≡ false → (o.count + 1) / 2 ≤ o.total
  host_batch_moves_shut h =
      rw (ap (λ (q : HostOutcome). q.ran.count) p, ap (λ (q : HostOutcome). q.ran.total) p)
      ((time_moves R).batch_shut rs places came h)

  pub host_batch_zero : is_accepted (batch_of R rs places came).ran.verdict ≡ true
      → map is_zero (take (length rs) x.1.0.now) ≡ map (is_free R) (meetings R (state_of (seen_of came)) (events_of rs))
  host_batch_zero ok = ap (λ (q : HostOutcome). map is_zero (take (length rs) q.runs.costs)) p ∙ (time_moves R).batch_zero rs places came ok
