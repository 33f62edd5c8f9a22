-- What the step hands back, taken apart, and the window before it explain a retirement.
-- Assumes nothing.
use Prim.Native.Nat.{ℕ, ◌%◌}
use mathlib.Core.Path.{◌≡◌, ap, ◌∙◌}
use native.Mathlib.Omega.{arith}
use lib.Bits.{bit_and, bit_or}
use Rattle.class_word.specs.declared.Clocks.{Clocks}
use Rattle.class_word.specs.Word.{clocks}
use Rattle.window.specs.declared.dispatch.Instruction.{Instruction}
use Rattle.window.specs.declared.Window.{Window}
use Rattle.cost.specs.declared.branch.Answer.{Answer}
use Rattle.cost.specs.Branch.{answer_number, answer_at}
use Rattle.cost.specs.Cost.{cost_of}
use Rattle.cost.specs.Retiring.{point_of}
use Rattle.cost.proofs.Answered.{number_most, answer_back}
use Rattle.profile.specs.declared.Profile.{Profile}
use Rattle.profile.specs.Profile.{profile_of}
use Rattle.state.specs.declared.Retirement.{Retirement}
use Rattle.state.specs.declared.Event.TheVariants.{Retired}
use Rattle.state.specs.Timing.{stepped_by}
use Rattle.in_place.specs.WindowNumbers.{window_at}
use Rattle.in_place.specs.Lent.{Lent}
use Rattle.in_place.specs.Retire.{Paid, clocks_in, answer_in, paid_by, retire_at_of, event_at_of}
use Rattle.reasons.specs.declared.reason.Reason.{Reason}
use Rattle.reasons.specs.Reasons.{reason_by, reason_of}
use Rattle.reasons.specs.Explain.{explained_at, met_of, explain_at_of}

module _ (p : Profile) (l : Lent) (r : Retirement) (told : ℕ) {m : Lent} (e : paid_by told m ≡ retire_at_of p l r) where
  told_cost : clocks_in told ≡ clocks (cost_of (met_of p l r))
  unfolding stepped_by
  told_cost = ap (λ (x : Paid). x.cost) e

  told_answer : answer_at (answer_in told % 256) ≡ (met_of p l r).answer
  unfolding stepped_by
  told_answer =
      let a = (met_of p l r).answer in
      let q : answer_in told ≡ answer_number a = ap (λ (x : Paid). x.answer) e in
      let n : answer_in told % 256 ≡ answer_number a = omega (arith, q, number_most a) in
      ap answer_at n ∙ answer_back a

  told_lent : m ≡ event_at_of p l (Retired r)
  unfolding stepped_by
  told_lent = ap (λ (x : Paid). x.lent) e

  explained_met : {x : Clocks} → x ≡ clocks_in told → {a : Answer} → a ≡ answer_at (answer_in told % 256)
      → {y : Reason} → y ≡ reason_by (point_of (profile_of p r.op) r.controls) (profile_of p r.op) r.controls (window_at l.window) a
      → explained_at
      (record { cost = x; answer = a; reason = y; window = window_at l.window; registers = bit_and (bit_or (profile_of p r.op).uses (profile_of p r.op).defs) (window_at l.window).defs })
      m
      ≡ explain_at_of p l r
  unfolding reason_of
  explained_met f g h = rw (h, g, f, told_cost, told_answer, told_lent)

pub explained_so : (p : Profile) (l : Lent) (r : Retirement) {i : Instruction} → i ≡ profile_of p r.op → {w : Window} → w ≡ window_at l.window
    → (told : ℕ) {m : Lent} → paid_by told m ≡ retire_at_of p l r
    → {x : Clocks} → x ≡ clocks_in told → {n : ℕ} → n ≡ answer_in told % 256 → {a : Answer} → a ≡ answer_at n
    → {y : Reason} → y ≡ reason_by (point_of i r.controls) i r.controls w a → {s : ℕ} → s ≡ bit_and (bit_or i.uses i.defs) w.defs
    → explained_at (record { cost = x; answer = a; reason = y; window = w; registers = s }) m ≡ explain_at_of p l r
explained_so p l r j v told e f g h q u =
    rw (u, v, j) (explained_met p l r told e f (h ∙ ap answer_at g) (rw (v, j) at q))
