-- Numbers hold what the structs hold, and so the step of a retirement.
-- Assumes nothing.
use mathlib.Core.Path.{◌≡◌, sym, ap, ◌∙◌}
use mathlib.Core.List.{List}
use Prim.Native.Nat.{ℕ, ◌%◌}
use native.Mathlib.Omega.{arith}
use Rattle.class_word.specs.declared.Clocks.{Clocks}
use Rattle.window.specs.declared.Window.{Window}
use Rattle.cost.specs.Branch.{answer_number}
use Rattle.cost.proofs.Answered.{number_most}
use Rattle.state.specs.declared.Retirement.{Retirement}
use Rattle.state.specs.declared.Oep060Timing.{Oep060Timing}
use Rattle.state.specs.declared.Stepped.{Stepped}
use Rattle.state.specs.Timing.{timing_at}
use Rattle.profile.specs.declared.Profile.{Profile}
use Rattle.step.specs.Boards.{stepped_of}
use Rattle.in_place.specs.WindowNumbers.{window_at, numbers_of}
use Rattle.in_place.specs.Lent.{Lent, lent, state_at}
use Rattle.in_place.proofs.NumbersHeld.{window_held}
use Rattle.in_place.specs.Retire.{Paid, paid, retire_at_of}

-- what a retirement costs, what the cache predicted, as a number, and the state that it leaves
pub record Left : Type 0 where
  pub cost : Clocks
  pub answer : ℕ
  pub timing : Oep060Timing

abbrev pub left_of : Stepped → Left
left_of s = record { cost = s.cost; answer = answer_number s.answer; timing = s.timing }

-- the same from the numbers that it leaves
abbrev pub left_at : List ℕ → List ℕ → List ℕ → Clocks → ℕ → Left
left_at ts bs ns cost n = record { cost = cost; answer = n; timing = timing_at ts bs (window_at ns) }

module _ (p : Profile) (l : Lent) (r : Retirement) {ts bs ns : List ℕ} {cost : Clocks} {n : ℕ} (e : paid cost n (lent ts bs ns) ≡ retire_at_of p l r) where
  pub stepped_held : left_at ts bs ns cost n ≡ left_of (stepped_of p (state_at l) r)
  stepped_held =
      let s = stepped_of p (state_at l) r in
      ap (λ (x : Paid). left_at x.lent.tags x.lent.state x.lent.window x.cost x.answer) e
      ∙ ap (λ (w : Window). record { cost = s.cost; answer = answer_number s.answer; timing = timing_at s.timing.cache.tags s.timing.cache.state w }) (window_held s.timing.window)

  -- the numbers that it leaves are those of a window
  pub window_plain : numbers_of (window_at ns) ≡ ns
  window_plain =
      let s = stepped_of p (state_at l) r in
      let q = ap (λ (x : Paid). x.lent.window) e in
      ap (λ (z : List ℕ). numbers_of (window_at z)) q ∙ ap numbers_of (window_held s.timing.window) ∙ sym q

-- a byte holds the number of the answer
pub answer_held : (p : Profile) (l : Lent) (r : Retirement) {x : Clocks} {y : ℕ} {m : Lent} → paid x y m ≡ retire_at_of p l r → y % 256 ≡ y
answer_held p l r {x} {y} e =
    let q : y ≡ answer_number (stepped_of p (state_at l) r).answer = ap (λ (x : Paid). x.answer) e in
    omega (arith, q, number_most (stepped_of p (state_at l) r).answer)

-- what is taken out of the one number is what was paid
pub taken_out : (p : Profile) (l : Lent) (r : Retirement) {x : Clocks} {y : ℕ} {m : Lent} → paid x y m ≡ retire_at_of p l r → {c : Clocks} → c ≡ x → {n : ℕ} → n ≡ y % 256 → paid c n m ≡ retire_at_of p l r
taken_out p l r e f g = rw (f, g, answer_held p l r e) e
