-- A refusal by its number and its place.
-- Assumes nothing.
use mathlib.Core.Path.{◌≡◌, refl, sym}
use mathlib.Core.Bool.{true, true≢false}
use Prim.Native.Nat.{ℕ}
use lib.Dec.{eqb}
use borrow.Author.Tests.{eq-eqb, eqb-true}
use Rattle.std.specs.Prelude.{Ok, Err}
use Rattle.bits.proofs.Bools.{and_left, and_right}
use Rattle.refusals.specs.declared.Refusal.{Refusal}
use Rattle.refusals.specs.Verdict.{Verdict}
use Rattle.refusals.specs.Refusals.{number_of, place_of}
use Rattle.refusals.specs.Given.{gives}

-- the refusal with this number at this place, of which P holds
pub record Told (n p : ℕ) (P : Refusal → Type 0) : Type 0 where
  pub refusal : Refusal
  pub number : number_of refusal ≡ n
  pub place : place_of refusal ≡ p
  pub so : P refusal

pub told_gives : {n p : ℕ} {v : Verdict} → Told n p (λ refusal. v ≡ Err refusal) → gives n p v ≡ true
told_gives {n} {p} t = rw (t.so, eq-eqb _ _ t.number, eq-eqb _ _ t.place)

pub gives_told : {n p : ℕ} (v : Verdict) → gives n p v ≡ true → Told n p (λ refusal. v ≡ Err refusal)
gives_told (Ok done) h = absurd (true≢false (sym h))
gives_told {n} {p} (Err refusal) h =
    let a = eqb (number_of refusal) n in
    let b = eqb (place_of refusal) p in
    record { refusal = refusal; number = eqb-true _ _ (and_left a b h); place = eqb-true _ _ (and_right a b h); so = refl }
