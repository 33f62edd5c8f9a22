-- What the loop of a batch keeps, over plain values: the records that are left, run from here, give what all of them
-- give from the start. The batch of words (`host`) keeps the same.
--     rest_of    what the records that are left come to, behind the costs and answers that stand
--     rest_turn  one record further; `rest_next` the same by its index
--     rest_none  no record is left; `batch_ends` the outcome then
use mathlib.Core.Path.{◌≡◌, sym, ap, ◌∙◌}
use mathlib.Core.List.{List, [], ◌∷◌, ◌++◌, append-nil}
use Prim.Native.Nat.{ℕ, suc, ◌+◌, ◌<◌}
use native.Mathlib.Omega.{arith}
use native.Mathlib.Numerals.{add-one}
use lib.ListN.{length, get_or, set, take, drop, take-append-drop}
use lib.Seq.{take-suc-set, append_snoc, drop-set-lt, drop-cons}
use Rattle.cost.specs.Branch.{answer_number}
use Rattle.profile.specs.declared.Profile.{Profile}
use Rattle.state.specs.declared.Retirement.{Retirement}
use Rattle.state.specs.declared.Oep060Timing.{Oep060Timing}
use Rattle.state.specs.declared.Stepped.{Stepped}
use Rattle.state.specs.Events.{total}
use Rattle.state.specs.Timing.{seen_of}
use Rattle.step.specs.Boards.{stepped_of}
use Rattle.refusals.specs.Runs.{Runs, runs}
use Rattle.refusals.specs.Verdict.{accepted}
use Rattle.batch.specs.Batch.{batch_outcome, batch_accepted_of}
use Rattle.batch.proofs.Run.{end_of, paid_of, told_of, end_none, paid_none, told_none, end_first, paid_first, told_first}

-- how far a batch is
pub record Reached : Type 0 where
  pub timing : Oep060Timing
  pub total : ℕ
  pub lent : Runs

abbrev pub reached : Oep060Timing → ℕ → List ℕ → List ℕ → Reached
reached t n cs ns = record { timing = t; total = n; lent = runs cs ns }

-- i costs and answers stand in the two runs, and n is the costs' sum: what the records rs, run from the state t, make
-- of that
abbrev pub rest_of : Profile → ℕ → ℕ → Runs → Oep060Timing → List Retirement → Reached
rest_of p i n lent t rs =
    reached
    (end_of p t rs)
    (n + total (paid_of p t rs))
    (take i lent.costs ++ paid_of p t rs ++ drop (i + length rs) lent.costs)
    (take i lent.answers ++ told_of p t rs ++ drop (i + length rs) lent.answers)

same : {t u : Oep060Timing} {n m : ℕ} {cs ds ns ms : List ℕ} → t ≡ u → n ≡ m → cs ≡ ds → ns ≡ ms
    → reached t n cs ns ≡ reached u m ds ms
same e f g h = rw (e, f, g, h)

-- a number put in place i, and the later ones behind it
placed : (cs : List ℕ) (i x k : ℕ) (later : List ℕ) → i < length cs
    → take (suc i) (set cs i x) ++ later ++ drop (suc i + k) (set cs i x)
    ≡ take i cs ++ (x ∷ later) ++ drop (i + suc k) cs
placed cs i x k later h =
    let after : i < suc i + k = omega arith in
    let next : suc i + k ≡ i + suc k = omega arith in
    rw (take-suc-set cs i x h, append_snoc (take i cs) x later, drop-set-lt (suc i + k) cs i x after, next)

module _ (p : Profile) where
  -- a cost and an answer are put in place i
  pub rest_turn : (i n : ℕ) (lent : Runs) (t : Oep060Timing) (r : Retirement) (rs : List Retirement)
      → i < length lent.costs → i < length lent.answers
      → let s = stepped_of p t r in
      rest_of p (i + 1) (n + s.cost.0) (runs (set lent.costs i s.cost.0) (set lent.answers i (answer_number s.answer)))
      s.timing rs
      ≡ rest_of p i n lent t (r ∷ rs)
  rest_turn i n lent t r rs h k =
      let s : Stepped = stepped_of p t r in
      let sum : n + s.cost.0 + total (paid_of p s.timing rs) ≡ n + (s.cost.0 + total (paid_of p s.timing rs)) =
      omega arith in
      same
      (sym (end_first p t r rs))
      (sum ∙ ap (λ (ns : List ℕ). n + total ns) (sym (paid_first p t r rs)))
      (rw (add-one, paid_first p t r rs) (placed lent.costs i s.cost.0 (length rs) (paid_of p s.timing rs) h))
      (rw (add-one, told_first p t r rs)
      (placed lent.answers i (answer_number s.answer) (length rs) (told_of p s.timing rs) k))

  pub rest_next : (i n : ℕ) (lent : Runs) (t : Oep060Timing) (rs : List Retirement) (none : Retirement)
      → i < length rs → i < length lent.costs → i < length lent.answers
      → {s : Stepped} → s ≡ stepped_of p t (get_or rs i none)
      → rest_of p (i + 1) (n + s.cost.0)
      (runs (set lent.costs i s.cost.0) (set lent.answers i (answer_number s.answer))) s.timing (drop (i + 1) rs)
      ≡ rest_of p i n lent t (drop i rs)
  rest_next i n lent t rs none h k l e =
      let here : get_or rs i none ∷ drop (i + 1) rs ≡ drop i rs = rw add-one (sym (drop-cons rs i none h)) in
      rw e (rest_turn i n lent t (get_or rs i none) (drop (i + 1) rs) k l)
      ∙ ap (λ (rs : List Retirement). rest_of p i n lent t rs) here

  pub rest_none : (i n : ℕ) (lent : Runs) (t : Oep060Timing)
      → rest_of p i n lent t [] ≡ record { timing = t; total = n; lent = lent }
  rest_none i n lent t =
      let sum : n + 0 ≡ n = omega arith in
      let here : i + 0 ≡ i = omega arith in
      same
      (end_none p t)
      (rw paid_none sum)
      (rw (paid_none, append-nil, here) (take-append-drop i lent.costs))
      (rw (told_none, append-nil, here) (take-append-drop i lent.answers))

  pub batch_ends : (i n : ℕ) (left lent : Runs) (t u : Oep060Timing) (rs : List Retirement) {none : List Retirement}
      → none ≡ []
      → rest_of p i n left t none ≡ rest_of p 0 0 lent (seen_of u) rs
      → batch_outcome (record { verdict = accepted; count = length rs; total = n; timing = t }) left
      ≡ batch_accepted_of p rs lent u
  batch_ends i n left lent t u rs o e =
      let sum : 0 + total (paid_of p (seen_of u) rs) ≡ total (paid_of p (seen_of u) rs) = omega arith in
      let past : 0 + length rs ≡ length rs = omega arith in
      ap (λ (r : Reached).
      batch_outcome (record { verdict = accepted; count = length rs; total = r.total; timing = r.timing }) r.lent)
      (sym (rest_none i n left t) ∙ ap (λ (rs : List Retirement). rest_of p i n left t rs) (sym o) ∙ e)
      ∙ rw (sum, past)
