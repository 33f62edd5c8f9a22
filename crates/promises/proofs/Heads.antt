-- What stands for the head's opcode and address: the last retirement's, or what a state began with.
-- Assumes nothing.
use mathlib.Core.Path.{◌≡◌, refl, sym, ap, ◌∙◌}
use mathlib.Core.Bool.{Bool, true, false, cond, true≢false}
use mathlib.Core.List.{List, [], ◌∷◌}
use Rattle.std.specs.Prelude.{Option, Some, None}
use Prim.Native.Nat.{ℕ}
use Rattle.window.specs.declared.dispatch.Instruction.{Instruction}
use Rattle.window.specs.declared.dispatch.Controls.{Controls}
use Rattle.window.specs.declared.Window.{Window}
use Rattle.window.specs.Windows.{shut, seen}
use Rattle.cost.specs.Retiring.{point_of}
use Rattle.cost.specs.Cost.{as_head, heads_by, window_of}
use Rattle.state.specs.declared.Retirement.{Retirement}
use Rattle.state.specs.declared.Event.{Event}
use Rattle.state.specs.declared.Event.TheVariants.{Retired, Broken, ClearedAll, ClearedUser}
use Rattle.state.specs.Board.{Board}
use Rattle.state.specs.Events.{State, after, finally}
use Rattle.trace.proofs.Seen.{seen_after}
use Rattle.promises.specs.Heads.{or_else, last_of, EveryHead}
use Rattle.promises.proofs.Unnamed.{same_costs_lem, same_next_lem}

seen_open : (w : Window) → (seen w).opened ≡ true → seen w ≡ w
seen_open w = go w.opened
  where
    go : (o : Bool) → (cond o w shut).opened ≡ true → cond o w shut ≡ w
    go true e = refl
    go false e = absurd (true≢false (sym e))

-- the last of a retirement and more is one
some_none : (o : Option Retirement) (r : Retirement) → or_else o r ≡ None → ⊥
some_none None r e = cc
some_none (Some x) r e = cc

-- the last of a retirement and more: that of the rest, or itself
by_last : (o : Option Retirement) (x r : Retirement) → or_else o x ≡ Some r → {P : Type 0} → (o ≡ None → x ≡ r → P) → (o ≡ Some r → P) → P
by_last None x r e f g = f refl cc
by_last (Some y) x r e f g = g e

module _ (B : Board) where
  abbrev S : Type 0
  S = State B.rule

  abbrev Named : Window → ℕ → ℕ → Type 0
  Named w op address = (w.op ≡ op) × (w.address ≡ address)

  by_head : (op : ℕ) (i : Instruction) (k : Controls) (h : Bool) → (cond h (as_head op i k) shut).opened ≡ true → Named (cond h (as_head op i k) shut) op k.ppc
  by_head op i k true e = (refl, refl)
  by_head op i k false e = absurd (true≢false (sym e))

  named : (s : S) (r : Retirement) → (after B s (Retired r)).window.opened ≡ true → Named (after B s (Retired r)).window r.op r.controls.ppc
  unfolding window_of
  named s r =
      let i = B.profile r.op in
      by_head r.op i r.controls (heads_by (point_of i r.controls) i r.controls s.window)

  zero_when_shut_lem : (s : S) (e : Event) → (after B s e).window.opened ≡ false → (after B s e).window ≡ shut
  zero_when_shut_lem s e o =
      sym (ap (λ (x : S). x.window) (seen_after B s e)) ∙ ap (λ (b : Bool). cond b (after B s e).window shut) o

  -- what a clear leaves, where it is open in the end
  kept : (s t : S) → t.window ≡ seen s.window → (es : List Event) → (finally B t es).window.opened ≡ true → (finally B t es).window ≡ t.window
      → (finally B t es).window ≡ s.window
  kept s t w es o e = e ∙ w ∙ seen_open s.window (sym (ap (λ (v : Window). v.opened) (e ∙ w)) ∙ o)

  -- with no retirement an open window is the one that it began with
  first : (s : S) (es : List Event) → last_of es ≡ None → (finally B s es).window.opened ≡ true → (finally B s es).window ≡ s.window
  unfolding finally
  first s [] e o = refl
  first s (Retired r ∷ es) e o = absurd (some_none (last_of es) r e)
  first s (Broken ∷ es) e o =
      absurd (true≢false (sym o ∙ ap (λ (w : Window). w.opened) (first (after B s Broken) es e o)))
  first s (ClearedAll ∷ es) e o = kept s (after B s ClearedAll) refl es o (first (after B s ClearedAll) es e o)
  first s (ClearedUser ∷ es) e o = kept s (after B s ClearedUser) refl es o (first (after B s ClearedUser) es e o)

  begun : (s : S) (es : List Event) (x r : Retirement) → last_of es ≡ None → x ≡ r → (finally B (after B s (Retired x)) es).window.opened ≡ true
      → Named (finally B (after B s (Retired x)) es).window r.op r.controls.ppc
  begun s es x r n q o =
      let w = first (after B s (Retired x)) es n o in
      let h = named s x (sym (ap (λ (v : Window). v.opened) w) ∙ o) in
      (ap (λ (v : Window). v.op) w ∙ h.0 ∙ ap (λ (y : Retirement). y.op) q, ap (λ (v : Window). v.address) w ∙ h.1 ∙ ap (λ (y : Retirement). y.controls.ppc) q)

  -- else it is the last retirement's
  last : (s : S) (es : List Event) (r : Retirement) → last_of es ≡ Some r → (finally B s es).window.opened ≡ true
      → Named (finally B s es).window r.op r.controls.ppc
  unfolding finally
  last s [] r e o = cc
  last s (Retired x ∷ es) r e o =
      by_last (last_of es) x r e (λ n q. begun s es x r n q o) (λ p. last (after B s (Retired x)) es r p o)
  last s (Broken ∷ es) r e o = last (after B s Broken) es r e o
  last s (ClearedAll ∷ es) r e o = last (after B s ClearedAll) es r e o
  last s (ClearedUser ∷ es) r e o = last (after B s ClearedUser) es r e o

pub every_head : (B : Board) → EveryHead B
every_head B =
    record {
      same_costs = same_costs_lem B;
      same_next = same_next_lem B;
      head_named = named B;
      zero_when_shut = zero_when_shut_lem B;
      break_shuts = λ s. refl;
      clear_all_keeps = λ s. refl;
      clear_user_keeps = λ s. refl;
      head_is_last = last B;
      head_is_first = λ s es e o. (ap (λ (w : Window). w.op) (first B s es e o), ap (λ (w : Window). w.address) (first B s es e o));
    }
