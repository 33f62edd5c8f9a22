-- A run from a state and from the state as it is read: the same costs, and the final state as it is read.
-- Assumes nothing.
use mathlib.Core.Path.{◌≡◌, refl, sym, ap, ap₂, ◌∙◌}
use mathlib.Core.Bool.{Bool, true, false, cond}
use mathlib.Core.List.{List, [], ◌∷◌}
use Rattle.window.specs.declared.Window.{Window}
use Rattle.window.specs.Windows.{shut, seen}
use Rattle.cost.proofs.Seen.{seen_cost, seen_window, next_seen}
use Rattle.state.specs.declared.Event.{Event}
use Rattle.state.specs.declared.Event.TheVariants.{Retired, Broken, ClearedAll, ClearedUser}
use Rattle.state.specs.Board.{Board}
use Rattle.state.specs.Events.{State, answer_of, cache_after, seen_state, after, retirements, finally, costs}

-- a window as it is read is read as it is
pub seen_seen : (w : Window) → seen (seen w) ≡ seen w
seen_seen w = go w.opened refl
  where
    go : (o : Bool) → w.opened ≡ o → seen (cond o w shut) ≡ cond o w shut
    go true e = ap (λ (x : Bool). cond x w shut) e
    go false e = refl

module _ (B : Board) where
  abbrev put : B.rule.Cache → Window → State B.rule
  put c w = record { cache = c; window = w }

  pub state_seen : (s : State B.rule) → seen_state B.rule (seen_state B.rule s) ≡ seen_state B.rule s
  state_seen s = ap (put s.cache) (seen_seen s.window)

  -- an event from the state as it is read leaves what it leaves from the state, and that is as it is read
  pub after_seen : (s : State B.rule) (e : Event) → after B (seen_state B.rule s) e ≡ after B s e
  after_seen s (Retired r) =
      ap (put (cache_after B.rule s.cache (B.profile r.op) r.controls))
      (seen_window r.op (B.profile r.op) r.controls s.window (answer_of B.rule s.cache (B.profile r.op) r.controls))
  after_seen s Broken = refl
  after_seen s ClearedAll = ap (put (B.rule.clear_all s.cache)) (seen_seen s.window)
  after_seen s ClearedUser = ap (put (B.rule.clear_user s.cache)) (seen_seen s.window)

  pub seen_after : (s : State B.rule) (e : Event) → seen_state B.rule (after B s e) ≡ after B s e
  seen_after s (Retired r) =
      ap (put (cache_after B.rule s.cache (B.profile r.op) r.controls))
      (next_seen r.op (B.profile r.op) r.controls s.window (answer_of B.rule s.cache (B.profile r.op) r.controls))
  seen_after s Broken = refl
  seen_after s ClearedAll = ap (put (B.rule.clear_all s.cache)) (seen_seen s.window)
  seen_after s ClearedUser = ap (put (B.rule.clear_user s.cache)) (seen_seen s.window)

  pub costs_seen : (s : State B.rule) (es : List Event) → costs B (seen_state B.rule s) es ≡ costs B s es
  unfolding retirements
  costs_seen s [] = refl
  costs_seen s (Retired r ∷ es) =
      ap₂ ◌∷◌
      (seen_cost r.op (B.profile r.op) r.controls s.window (answer_of B.rule s.cache (B.profile r.op) r.controls))
      (ap (λ (x : State B.rule). costs B x es) (after_seen s (Retired r)))
  costs_seen s (Broken ∷ es) = refl
  costs_seen s (ClearedAll ∷ es) = ap (λ (x : State B.rule). costs B x es) (after_seen s ClearedAll)
  costs_seen s (ClearedUser ∷ es) = ap (λ (x : State B.rule). costs B x es) (after_seen s ClearedUser)

  pub finally_seen : (s : State B.rule) (es : List Event) → finally B (seen_state B.rule s) es ≡ seen_state B.rule (finally B s es)
  unfolding finally
  finally_seen s [] = refl
  finally_seen s (e ∷ es) = ap (λ (x : State B.rule). finally B x es) (after_seen s e ∙ sym (seen_after s e)) ∙ finally_seen (after B s e) es
