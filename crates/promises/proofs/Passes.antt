-- The dispatch test is all six rules joined.
-- Assumes nothing.
use mathlib.Core.Path.{◌≡◌, refl, ap, ◌∙◌}
use mathlib.Core.Bool.{Bool, true, false, not, cond, ◌&&◌}
use mathlib.Core.List.{List, [], ◌∷◌}
use Rattle.std.specs.Prelude.{Some}
use lib.Bits.{bit_or}
use Rattle.std.proofs.Math.Bool.{and-true, and_assoc}
use Rattle.bits.specs.Words.{meets}
use Rattle.window.specs.declared.dispatch.Instruction.{Instruction}
use Rattle.window.specs.declared.dispatch.Controls.{Controls}
use Rattle.window.specs.declared.dispatch.Rule.{Rule}
use Rattle.window.specs.declared.Window.{Window}
use Rattle.window.specs.Dispatch.{is_simple, late_ccr, second_memory, rules, holds, first_failing, failing, is_passed, passes}

-- the list's tests, joined
abbrev all_of : (Rule → Bool) → List Rule → Bool
all_of h [] = true
all_of h (a ∷ l) = h a && all_of h l

none_joined : (h : Rule → Bool) (l : List Rule) → is_passed (first_failing h l) ≡ all_of h l
unfolding first_failing
none_joined h [] = refl
none_joined h (a ∷ l) = go (h a) (none_joined h l)
  where
    go : (b : Bool) → is_passed (first_failing h l) ≡ all_of h l → is_passed (cond b (first_failing h l) (Some a)) ≡ (b && all_of h l)
    go true e = e
    go false e = refl

last_three : (x y z : Bool) → (x && (y && (z && true))) ≡ (x && y && z)
last_three x y z = simp (and-true, and_assoc)

pub passes_and : (i : Instruction) (k : Controls) (w : Window)
    → passes i k w
    ≡ (k.ess && ((w.warm && k.cached) && (is_simple i.word.0
    && (not (meets (bit_or i.uses i.defs) w.defs) && not (late_ccr i.word.0 w) && not (second_memory i.word.0 w)))))
unfolding failing holds
passes_and i k w =
    none_joined (holds i k w) rules
    ∙ ap (λ (t : Bool). k.ess && ((w.warm && k.cached) && (is_simple i.word.0 && t)))
    (last_three (not (meets (bit_or i.uses i.defs) w.defs)) (not (late_ccr i.word.0 w)) (not (second_memory i.word.0 w)))
