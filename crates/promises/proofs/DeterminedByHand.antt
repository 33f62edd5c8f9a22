-- Four functions whose promise is written by hand once more. The relation that is written of each allows one answer at each input, and is the function's promise: of `break_in_place` and `run_batch_of_64` the promise as the checker reads it; of `run_batch` and `break_060_pipeline` the clause of the contract, which the code is proved to meet. Of these two, too, the promise as the checker reads it allows one answer.
-- Assumes nothing.
use mathlib.Core.Path.{◌≡◌, refl, sym, ◌∙◌}
use seplogic.Ra.Ura.{Ura}
use base.Logic.{SProp, emp}
use prog.Memory.{Memory}
use prog.Model.{Model}
use prog.Routine.{Routine}
use prog.Wired.{Wired}
use types.Logic.{Logic}
use contract.Lifetimes
use contract.Monad.{Fun, fact}
use contract.Running.{Running}
use denote.Triple.Clauses.{AtExit}
use denote.Triple.Entry.{Args, Res}
use denote.Triple.Spec.{Spec, Meets, exits}
use Rattle.refusals.specs.Runs.{runs}
use Rattle.batch.specs.Batch.{batch_outcome}
use Rattle.window.proofs.break_in_place.Reads as window-break-in-place
use Rattle.window.specs.contracts.break_060_pipeline as window-break
use Rattle.window.proofs.break_060_pipeline.Reads as window-break-reads
use Rattle.batch.specs.contracts.run_batch as batch-run-batch
use Rattle.batch.proofs.run_batch.Reads as batch-run-batch-reads
use Rattle.batch.proofs.run_batch.Met as batch-run-batch-met
use Rattle.batch.proofs.run_batch.Symbol as batch-run-batch-code
use Rattle.batch.proofs.run_batch_of_64.Reads as batch-run-batch-of-64
use Rattle.promises.specs.Determined.{Determined, result}
use Rattle.promises.specs.ByHand.{ByHand, BreakAllows, BreakInPlaceAllows, BatchAllows, BatchOf64Allows}

pub by_hand : ByHand
by_hand =
    record {
      break060_pipeline = λ i r r' x x' p q. p ∙ sym q;
      break_in_place = λ i r r' x x' p q. p ∙ sym q;
      run_batch = λ i r r' x x' p q. p ∙ sym q;
      run_batch_of_64 = λ i r r' x x' p q. p ∙ sym q;
    }

-- the promises that the checker reads: each is the relation, and allows one answer
module _ (κs : Lifetimes.Lfts 0) where
  pub window_break_in_place_is : (i : _) (r : _) (x : _) → window-break-in-place.Post κs i r x ≡ BreakInPlaceAllows i.0 r tt
  window_break_in_place_is i r x = refl

  pub window_break_in_place_determined : Determined result (window-break-in-place.Post κs)
  window_break_in_place_determined i r r' x x' p q = p ∙ sym q

module _ (κs : Lifetimes.Lfts 2) where
  pub batch_run_batch_of_64_is : (i : _) (r : _) (x : _)
      → batch-run-batch-of-64.Post κs i r x
      ≡ BatchOf64Allows (record { records = i.0; count = i.1.0; lent = runs i.1.1.0.now i.1.1.1.0.now; chosen = i.1.1.1.1.0 }) r (runs x.1.1.0.now x.1.1.1.0.now)
  batch_run_batch_of_64_is i r x = refl

  pub batch_run_batch_of_64_determined : Determined (λ r x. batch_outcome r (runs x.1.1.0.now x.1.1.1.0.now)) (batch-run-batch-of-64.Post κs)
  batch_run_batch_of_64_determined i r r' x x' p q = p ∙ sym q

-- what the checker reads of the other two allows one answer too
module _ (κs : Lifetimes.Lfts 1) where
  pub window_break_060_pipeline_determined : Determined (λ r x. x.0.now) (window-break-reads.Post κs)
  window_break_060_pipeline_determined i r r' x x' p q = p ∙ sym q

module _ (κs : Lifetimes.Lfts 3) where
  pub batch_run_batch_determined : Determined (λ r x. batch_outcome r (runs x.1.0.now x.1.1.0.now)) (batch-run-batch-reads.Post κs)
  batch_run_batch_determined i r r' x x' p q = p ∙ sym q

-- the clause of `break_060_pipeline` is the relation, in any model
module _ (κs : Lifetimes.Lfts 1) {M : Type 1} {𝓤 : Ura M} (𝓛 : Logic 𝓤) (mem : Memory → SProp 𝓤) (run : Routine → Fun 𝓤) where
  pub window_break_is : (a : Args window-break.signature κs) (r : Res window-break.signature κs) (e : AtExit window-break.ended κs)
      → (window-break.clauses 𝓛 mem run κs a).ensures tt r e ≡ fact 𝓤 (BreakAllows a.0.now r e.0.now)
  window_break_is a r e = refl

-- the contract of `run_batch` with the relation for its clause: the clause is that, in any model, and the code meets it
module _ (κs : Lifetimes.Lfts 3) where
  abbrev pub RunBatchAllows : Args batch-run-batch.signature κs → Res batch-run-batch.signature κs → AtExit batch-run-batch.ended κs → Type 0
  RunBatchAllows a r e = BatchAllows (record { records = a.0.now; lent = runs a.1.0.now a.1.1.0.now; chosen = a.1.1.1.0 }) r (runs e.1.0.now e.1.1.0.now)

  module _ {M : Type 1} {𝓤 : Ura M} (𝓛 : Logic 𝓤) (mem : Memory → SProp 𝓤) (run : Routine → Fun 𝓤) where
    pub batch_run_batch_is : (a : Args batch-run-batch.signature κs) (r : Res batch-run-batch.signature κs) (e : AtExit batch-run-batch.ended κs)
        → (batch-run-batch.clauses 𝓛 mem run κs a).ensures tt r e ≡ fact 𝓤 (RunBatchAllows a r e)
    batch_run_batch_is a r e = refl

module _ {M : Type 1} {𝓤 : Ura M} (𝓛 : Logic 𝓤) where
  abbrev pub by_relation : Spec 𝓤 batch-run-batch.signature
  by_relation κs a = record {
    ghost = Unit {0};
    requires = λ g. emp 𝓤;
    ensures = λ g r. exits 𝓛 batch-run-batch.signature (batch-run-batch.ended).kept κs a (λ e. fact 𝓤 (RunBatchAllows κs a r e));
  }

pub batch_run_batch_meets : {M : Type 1} {𝓤 : Ura M} (𝓛 : Logic 𝓤) (𝓜 : Model 𝓤 𝓛.H) (𝓡 : Running 𝓤 𝓛.H 𝓜)
    → Wired 𝓡.env batch-run-batch-code.code
    → Meets 𝓛 batch-run-batch.signature (𝓡.run (𝓡.env batch-run-batch-code.name)) (by_relation 𝓛)
batch_run_batch_meets {𝓤 = 𝓤} 𝓛 𝓜 𝓡 wired = batch-run-batch-met.met 𝓤 𝓛 𝓜 𝓡 wired
