-- The promise of each public function that tells a reason, as the checker reads it, allows one answer at each input, all that was lent included.
-- Assumes nothing.
use mathlib.Core.Path.{sym, ◌∙◌}
use contract.Lifetimes
use Rattle.in_place.specs.Lent.{lent}
use Rattle.refusals.specs.Runs.{runs}
use Rattle.trace.specs.Run.{trace_outcome}
use Rattle.reasons.specs.Explain.{explained_at}
use Rattle.reasons.specs.ExplainRun.{explain_outcome}
use Rattle.promises.specs.Determined.{Determined, result}
use Rattle.text.specs.Written.{written}
use Rattle.reasons.proofs.reason.U8FromReason.from.Reads as reasons-u8-from-reason
use Rattle.reasons.proofs.reason.ReasonFromRule.from.Reads as reasons-reason-from-rule
use Rattle.reasons.proofs.explain_in_place.Reads as reasons-explain-in-place
use Rattle.reasons.proofs.explain_trace.Reads as reasons-explain-trace
use Rattle.explaining.proofs.why_text.Reads as explaining-why-text

module _ (κs : Lifetimes.Lfts 0) where
  pub reasons_u8_from_reason_determined : Determined result (reasons-u8-from-reason.Post κs)
  reasons_u8_from_reason_determined i r r' x x' p q = p ∙ sym q

  pub reasons_reason_from_rule_determined : Determined result (reasons-reason-from-rule.Post κs)
  reasons_reason_from_rule_determined i r r' x x' p q = p ∙ sym q

module _ (κs : Lifetimes.Lfts 2) where
  pub explaining_why_text_determined : Determined (λ r x. written r x.1.0.now) (explaining-why-text.Post κs)
  explaining_why_text_determined i r r' x x' p q = p.0 ∙ sym q.0

module _ (κs : Lifetimes.Lfts 3) where
  pub reasons_explain_in_place_determined : Determined (λ r x. explained_at r (lent x.0.now x.1.0.now x.1.1.0.now)) (reasons-explain-in-place.Post κs)
  reasons_explain_in_place_determined i r r' x x' p q = p ∙ sym q

module _ (κs : Lifetimes.Lfts 4) where
  pub reasons_explain_trace_determined : Determined
      (λ r x. explain_outcome (trace_outcome r (runs x.1.0.now x.1.1.0.now)) x.1.1.1.0.now) (reasons-explain-trace.Post κs)
  reasons_explain_trace_determined i r r' x x' p q = p ∙ sym q
