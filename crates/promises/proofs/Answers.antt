-- The facts of every answer: of a step by what the cache predicts, and of a run step by step.
-- Assumes nothing.
use Prim.Native.Nat.{ℕ}
use mathlib.Core.Path.{◌≡◌, refl, sym, ap, ◌∙◌}
use mathlib.Core.Logic.{◌↔◌}
use mathlib.Core.Bool.{Bool, true, false, not, cond, ◌&&◌, true≢false}
use mathlib.Core.List.{List, [], ◌∷◌, map}
use native.Mathlib.Omega.{arith}
use lib.Dec.{eqb}
use lib.ListN.{length, take, drop}
use lib.Seq.{take_at}
use Rattle.std.specs.Prelude.{Option, Some, None, Ok, Err}
use Rattle.bits.proofs.Bools.{and_left}
use Rattle.little_endian.specs.Numbers.{put_at}
use Rattle.class_word.specs.Word.{has, BRANCH, DBCC}
use Rattle.branch_cache.specs.Cache.{cache_predict_of}
use Rattle.cost.specs.declared.branch.Answer.TheVariants.{NotConsulted}
use Rattle.cost.specs.Branch.{taken_of, predicts_taken, asked_cost, branch_cost, answer_number, heard}
use Rattle.cost.specs.Cost.{cost_of, predicted_of}
use Rattle.cost.proofs.Led.{kind_branch}
use Rattle.profile.specs.declared.Profile.{Profile}
use Rattle.state.specs.declared.Retirement.{Retirement}
use Rattle.state.specs.declared.Event.{Event}
use Rattle.state.specs.declared.Event.TheVariants.{Retired, Broken, ClearedAll, ClearedUser}
use Rattle.state.specs.declared.Oep060Timing.{Oep060Timing}
use Rattle.state.specs.Events.{State, answer_of, after, retirements, answers, count_of}
use Rattle.state.specs.CrateCache.{crate_cache}
use Rattle.state.specs.Timing.{state_of, seen_of, stepped_by}
use Rattle.step.specs.Boards.{board_of, stepped_of}
use Rattle.refusals.specs.Given.{is_accepted}
use Rattle.refusals.specs.Runs.{Runs, rooms_of}
use Rattle.refusals.specs.Verdict.{Verdict}
use Rattle.records.specs.TraceTable.{Accepts}
use Rattle.trace.specs.Run.{answers_of, run_trace_of}
use Rattle.trace.proofs.Parts.{each_count}
use Rattle.trace.proofs.Refused.{run_accepted}
use Rattle.batch.specs.Judge.{batch_verdict_of}
use Rattle.batch.specs.Batch.{events_of, batch_outcome_by, batch_of}
use Rattle.promises.specs.Moving.{meetings}
use Rattle.promises.specs.Answers.{instruction, consulted, told, told_at, EveryAnswer}
use Rattle.promises.proofs.Batches.{all_count}

-- what is told, by whether the cache is asked and what it predicts
abbrev told_by : Bool → Option Bool → ℕ
told_by q x = answer_number (cond q (heard x) NotConsulted)

zero_by : (q : Bool) (x : Option Bool) → (told_by q x ≡ 0) ↔ (q ≡ false)
zero_by false x = (λ h. refl, λ h. refl)
zero_by true None = (λ h. absurd (omega (arith, h)), λ h. absurd (true≢false h))
zero_by true (Some false) = (λ h. absurd (omega (arith, h)), λ h. absurd (true≢false h))
zero_by true (Some true) = (λ h. absurd (omega (arith, h)), λ h. absurd (true≢false h))

-- a prediction is known by what is told of it
abbrev predicted : ℕ → Option Bool
predicted n = cond (eqb n 1) None (Some (eqb n 3))

known : (x : Option Bool) → predicted (told_by true x) ≡ x
known None = refl
known (Some false) = refl
known (Some true) = refl

asked_is : (dbcc taken opened : Bool) (x : Option Bool) → branch_cost dbcc taken opened (heard x) ≡ asked_cost (predicts_taken (heard x)) taken opened
asked_is dbcc taken opened None = refl
asked_is dbcc taken opened (Some false) = refl
asked_is dbcc taken opened (Some true) = refl

seven_by : (x : Option Bool) (taken opened : Bool) → (asked_cost (predicts_taken (heard x)) taken opened ≡ 7) ↔ (eqb (told_by true x) 3 ≡ not taken)
seven_by None true opened = (λ h. refl, λ h. refl)
seven_by None false opened = (λ h. absurd (omega (arith, h)), λ h. absurd (true≢false (sym h)))
seven_by (Some false) true opened = (λ h. refl, λ h. refl)
seven_by (Some false) false opened = (λ h. absurd (omega (arith, h)), λ h. absurd (true≢false (sym h)))
seven_by (Some true) true true = (λ h. absurd (omega (arith, h)), λ h. absurd (true≢false h))
seven_by (Some true) true false = (λ h. absurd (omega (arith, h)), λ h. absurd (true≢false h))
seven_by (Some true) false opened = (λ h. refl, λ h. refl)

module _ (P : Profile) (t : Oep060Timing) (r : Retirement) where
  abbrev said : Option Bool
  said = cache_predict_of t.cache r.controls.ppc

  told_is : told P t r ≡ told_by (consulted P r) said
  unfolding stepped_by answer_of
  told_is = refl

  non_branch_lem : has (instruction P r).word.0 BRANCH ≡ false → told P t r ≡ 0
  non_branch_lem b = told_is ∙ (zero_by (consulted P r) said).1 (rw b)

  not_consulted_lem : (told P t r ≡ 0) ↔ (consulted P r ≡ false)
  not_consulted_lem = (λ h. (zero_by (consulted P r) said).0 (sym told_is ∙ h), λ h. told_is ∙ (zero_by (consulted P r) said).1 h)

  module _ (q : consulted P r ≡ true) where
    asked : told P t r ≡ told_by true said
    asked = told_is ∙ ap (λ (b : Bool). told_by b said) q

    -- the number of each prediction, and no other's
    so : (x : Option Bool) → (told P t r ≡ told_by true x) ↔ (said ≡ x)
    so x = (λ h. sym (known said) ∙ ap predicted (sym asked ∙ h) ∙ known x, λ h. asked ∙ ap (told_by true) h)

    cost_is : (stepped_of P t r).cost.0 ≡ asked_cost (predicts_taken (heard said)) (taken_of (instruction P r) r.controls) t.window.opened
    unfolding stepped_by answer_of cost_of
    cost_is =
        rw (kind_branch (instruction P r) r.controls (and_left (has (instruction P r).word.0 BRANCH) (r.controls.ebc && r.controls.cached) q), q)
        (asked_is (has (instruction P r).word.0 DBCC) (taken_of (instruction P r) r.controls) t.window.opened said)

    seven_so : ((stepped_of P t r).cost.0 ≡ 7) ↔ (eqb (told P t r) 3 ≡ not (taken_of (instruction P r) r.controls))
    seven_so =
        let s = seven_by said (taken_of (instruction P r) r.controls) t.window.opened in
        (λ h. ap (λ (n : ℕ). eqb n 3) asked ∙ s.0 (sym cost_is ∙ h), λ h. cost_is ∙ s.1 (sym (ap (λ (n : ℕ). eqb n 3) asked) ∙ h))

step_by_step_lem : (P : Profile) (s : State crate_cache) (es : List Event) → answers (board_of P) s es ≡ map (told_at P) (meetings P s es)
unfolding retirements stepped_by
step_by_step_lem P s [] = refl
step_by_step_lem P s (Retired r ∷ es) = ap (λ (ns : List ℕ). told_at P (record { state = s; retirement = r }) ∷ ns) (step_by_step_lem P (after (board_of P) s (Retired r)) es)
step_by_step_lem P s (Broken ∷ es) = step_by_step_lem P (after (board_of P) s Broken) es
step_by_step_lem P s (ClearedAll ∷ es) = step_by_step_lem P (after (board_of P) s ClearedAll) es
step_by_step_lem P s (ClearedUser ∷ es) = step_by_step_lem P (after (board_of P) s ClearedUser) es

trace_answers_lem : (P : Profile) (trace : List ℕ) (lent : Runs) (t : Oep060Timing) (es : List Event) → Accepts trace (rooms_of lent) es
    → take (count_of es) (run_trace_of P trace lent t).lent.answers ≡ map (told_at P) (meetings P (state_of (seen_of t)) es)
unfolding put_at
trace_answers_lem P trace lent t es ok =
    rw (run_accepted P trace lent t ok)
    (take_at (answers_of P t es) _ (count_of es) (each_count (board_of P) predicted_of (state_of (seen_of t)) es) ∙ step_by_step_lem P (state_of (seen_of t)) es)

module _ (P : Profile) (rs : List Retirement) (lent : Runs) (t : Oep060Timing) where
  batch_by : (v : Verdict) → is_accepted (batch_outcome_by P v rs lent t).ran.verdict ≡ true
      → take (length rs) (batch_outcome_by P v rs lent t).lent.answers ≡ map (told_at P) (meetings P (state_of (seen_of t)) (events_of rs))
  batch_by (Ok done) h =
      take_at (answers_of P t (events_of rs)) (drop (length rs) lent.answers) (length rs) (each_count (board_of P) predicted_of (state_of (seen_of t)) (events_of rs) ∙ all_count rs)
      ∙ step_by_step_lem P (state_of (seen_of t)) (events_of rs)
  batch_by (Err refusal) h = absurd (true≢false (sym h))

  batch_answers_lem : is_accepted (batch_of P rs lent t).ran.verdict ≡ true → take (length rs) (batch_of P rs lent t).lent.answers ≡ map (told_at P) (meetings P (state_of (seen_of t)) (events_of rs))
  unfolding batch_of
  batch_answers_lem = batch_by (batch_verdict_of (length rs) (rooms_of lent))

pub every_answer : (P : Profile) → EveryAnswer P
every_answer P =
    record {
      non_branch = non_branch_lem P;
      not_consulted = not_consulted_lem P;
      miss = λ t r q. so P t r q None;
      not_taken = λ t r q. so P t r q (Some false);
      taken = λ t r q. so P t r q (Some true);
      seven = seven_so P;
      trace_answers = trace_answers_lem P;
      batch_answers = batch_answers_lem P;
    }
