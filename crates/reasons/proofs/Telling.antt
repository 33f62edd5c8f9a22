-- The reasons of a run that has come to a place: those of what is left of the trace, put behind the others, are those of the whole.
-- Assumes nothing.
use Prim.Native.Nat.{ℕ, ◌+◌, ◌<◌}
use mathlib.Core.Path.{◌≡◌, refl, sym, ap, subst, ◌∙◌}
use mathlib.Core.List.{List, [], ◌∷◌, map, append-nil}
use native.Mathlib.Nat.{add-zero}
use native.Mathlib.Omega.{arith}
use lib.ListN.{length, take-append-drop}
use Rattle.little_endian.specs.Numbers.{put_at}
use Rattle.little_endian.proofs.Numbers.{put_length, put_joins}
use Rattle.cost.specs.Retiring.{Retiring}
use Rattle.profile.specs.declared.Profile.{Profile}
use Rattle.state.specs.declared.Retirement.{Retirement}
use Rattle.state.specs.declared.Event.{Event}
use Rattle.state.specs.declared.Event.TheVariants.{Retired, Broken, ClearedAll, ClearedUser}
use Rattle.state.specs.declared.Oep060Timing.{Oep060Timing}
use Rattle.state.specs.CrateCache.{crate_cache}
use Rattle.state.specs.Events.{State, retiring_of, retirements, count_of}
use Rattle.state.specs.Timing.{state_of, seen_of}
use Rattle.step.specs.Boards.{board_of, after_of}
use Rattle.std.specs.Prelude.{Err}
use Rattle.records.specs.Record.{got, ended, read_at}
use Rattle.records.specs.Trace.{Trace, events, refused, ahead, read_from}
use Rattle.records.specs.Judged.{FitsAnswers}
use Rattle.records.proofs.Walking.{from_end, from_bad, from_got}
use Rattle.records.proofs.Judging.{tells_ahead, tells_room}
use Rattle.refusals.specs.declared.Refusal.{Refusal}
use Rattle.trace.proofs.Seen.{state_seen}
use Rattle.reasons.specs.Reasons.{reason_number, reason_of}
use Rattle.reasons.specs.ExplainRun.{reasons_left}

abbrev pub numbers_from : Profile → Oep060Timing → List Event → List ℕ
numbers_from P t es = map (λ (r : Retiring). reason_number (reason_of r)) (retirements (board_of P) (state_of t) es)

-- the reasons afterwards where k are written already and the rest is to be run from t
abbrev pub reasons_from : Profile → List ℕ → ℕ → Oep060Timing → Trace → List ℕ
reasons_from P reasons k t (events es) = put_at reasons k (numbers_from P t es)
reasons_from P reasons k t (refused refusal) = reasons

none_left : (P : Profile) (reasons : List ℕ) (k : ℕ) (t : Oep060Timing) → reasons_from P reasons k t (events []) ≡ reasons
unfolding retirements put_at
none_left P reasons k t = simp (append-nil, add-zero, take-append-drop)

one_more : (P : Profile) (reasons : List ℕ) (k : ℕ) (t : Oep060Timing) (r : Retirement) (said : Trace) → k < length reasons → FitsAnswers k (length reasons) (ahead (Retired r) said)
    → reasons_from P reasons k t (ahead (Retired r) said)
    ≡ reasons_from P (put_at reasons k (reason_number (reason_of (retiring_of (board_of P) (state_of t) r)) ∷ [])) (k + 1) (after_of P t (Retired r)) said
unfolding retirements
one_more P reasons k t r (events es) l f =
    sym (put_joins reasons k (reason_number (reason_of (retiring_of (board_of P) (state_of t) r)) ∷ []) (omega (arith, l)) (numbers_from P (after_of P t (Retired r)) es))
one_more P reasons k t r (refused refusal) l f = absurd f

quiet_one : (P : Profile) (reasons : List ℕ) (k : ℕ) (t : Oep060Timing) (e : Event) (said : Trace) → count_of (e ∷ []) ≡ 0
    → reasons_from P reasons k t (ahead e said) ≡ reasons_from P reasons k (after_of P t e) said
unfolding retirements
quiet_one P reasons k t (Retired r) (events es) z = absurd (omega arith)
quiet_one P reasons k t Broken (events es) z = refl
quiet_one P reasons k t ClearedAll (events es) z = refl
quiet_one P reasons k t ClearedUser (events es) z = refl
quiet_one P reasons k t e (refused refusal) z = refl

pub reasons_seen : (P : Profile) (said : Trace) (reasons : List ℕ) (t : Oep060Timing) {u : Oep060Timing} → u ≡ seen_of t → reasons_left P said reasons u ≡ reasons_left P said reasons t
reasons_seen P (events es) reasons t e =
    ap (reasons_left P (events es) reasons) e
    ∙ ap (λ (s : State crate_cache). put_at reasons 0 (map (λ (r : Retiring). reason_number (reason_of r)) (retirements (board_of P) s es))) (state_seen (board_of P) (state_of t))
reasons_seen P (refused refusal) reasons t e = refl

pub record Telling (P : Profile) (trace reasons₀ : List ℕ) (t₀ : Oep060Timing) (reasons : List ℕ) (at k : ℕ) (t : Oep060Timing) : Type 0 where
  pub same : length reasons ≡ length reasons₀
  pub tells : FitsAnswers k (length reasons) (read_from trace at)
  pub leads : reasons_from P reasons k t (read_from trace at) ≡ reasons_left P (read_from trace 0) reasons₀ t₀

pub telling_start : (P : Profile) (trace reasons : List ℕ) (t : Oep060Timing) {u : Oep060Timing} → u ≡ seen_of t → FitsAnswers 0 (length reasons) (read_from trace 0)
    → Telling P trace reasons t reasons 0 0 u
telling_start P trace reasons t {u} e f = record { same = refl; tells = f; leads = go (read_from trace 0) }
  where
    go : (said : Trace) → reasons_from P reasons 0 u said ≡ reasons_left P said reasons t
    go (events es) = rw e
    go (refused refusal) = refl

module _ {P : Profile} {trace reasons₀ : List ℕ} {t₀ : Oep060Timing} {reasons : List ℕ} {at k : ℕ} {t : Oep060Timing} (g : Telling P trace reasons₀ t₀ reasons at k t) where
  pub telling_end : read_at trace at ≡ ended → reasons ≡ reasons_left P (read_from trace 0) reasons₀ t₀
  telling_end q = sym (none_left P reasons k t) ∙ sym (ap (reasons_from P reasons k t) (from_end trace at q)) ∙ g.leads

  pub telling_bad : (refusal : Refusal) → read_at trace at ≡ Err refusal → ⊥
  telling_bad refusal q = subst (FitsAnswers k (length reasons)) (from_bad trace at refusal q) g.tells

  module _ (e : Event) (next : ℕ) (q : read_at trace at ≡ got e next) where
    tells_here : FitsAnswers k (length reasons) (ahead e (read_from trace next))
    tells_here = subst (FitsAnswers k (length reasons)) (from_got trace at e next q) g.tells

    tells_next : FitsAnswers (k + count_of (e ∷ [])) (length reasons) (read_from trace next)
    tells_next = tells_ahead k (length reasons) e (read_from trace next) tells_here

    pub telling_quiet : count_of (e ∷ []) ≡ 0 → Telling P trace reasons₀ t₀ reasons next k (after_of P t e)
    telling_quiet z =
        record {
          same = g.same;
          tells = rw (← add-zero k, ← z) tells_next;
          leads = sym (ap (reasons_from P reasons k t) (from_got trace at e next q) ∙ quiet_one P reasons k t e (read_from trace next) z) ∙ g.leads;
        }

  module _ (r : Retirement) (next : ℕ) (q : read_at trace at ≡ got (Retired r) next) where
    pub telling_room : k < length reasons
    telling_room = omega (arith, tells_room (k + 1) (length reasons) (read_from trace next) (tells_next (Retired r) next q))

    pub telling_one : Telling P trace reasons₀ t₀ (put_at reasons k (reason_number (reason_of (retiring_of (board_of P) (state_of t) r)) ∷ [])) next (k + 1) (after_of P t (Retired r))
    telling_one =
        let long = put_length reasons k (reason_number (reason_of (retiring_of (board_of P) (state_of t) r)) ∷ []) (omega (arith, telling_room)) in
        record {
          same = long ∙ g.same;
          tells = rw long (tells_next (Retired r) next q);
          leads =
              sym (ap (reasons_from P reasons k t) (from_got trace at (Retired r) next q) ∙ one_more P reasons k t r (read_from trace next) telling_room (tells_here (Retired r) next q))
              ∙ g.leads;
        }
