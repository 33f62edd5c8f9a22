-- Rows tried in order: a test that fails goes on to the next row, one that holds gives the answer; what every row has, the first that holds has.
-- Assumes nothing.
use mathlib.Core.Path.{◌≡◌, refl, sym, ◌∙◌, ap}
use mathlib.Core.Bool.{Bool, true, false, cond}
use Rattle.bits.specs.Rows.{Rows, otherwise, ◌⇒◌⨾◌, first, every_row}
use Rattle.bits.proofs.Bools.{and_left, and_right}

-- the answer g is what these rows give
pub record Left {A : Type 0} (g : A) (rows : Rows A) : Type 0 where
  pub gives : g ≡ first rows

pub begin : {A : Type 0} (rows : Rows A) → Left (first rows) rows
begin rows = record { gives = refl }

pub skip : {A : Type 0} {g a : A} {t : Bool} {rows : Rows A} → Left g (t ⇒ a ⨾ rows) → t ≡ false → Left g rows
skip {a = a} {rows = rows} h f = record { gives = h.gives ∙ ap (λ (u : Bool). cond u a (first rows)) f }

pub found : {A : Type 0} {g a : A} {t : Bool} {rows : Rows A} → Left g (t ⇒ a ⨾ rows) → t ≡ true → {r : A} → r ≡ a → r ≡ g
found {a = a} {rows = rows} h f e = e ∙ sym (h.gives ∙ ap (λ (u : Bool). cond u a (first rows)) f)

pub last : {A : Type 0} {g a : A} → Left g (otherwise a) → {r : A} → r ≡ a → r ≡ g
last h e = e ∙ sym h.gives

pub first_has : {A : Type 0} (p : A → Bool) (rows : Rows A) → every_row p rows ≡ true → p (first rows) ≡ true
first_has p (otherwise a) e = e
first_has p (t ⇒ a ⨾ rows) e = go t (first_has p rows (and_right (p a) (every_row p rows) e))
  where
    go : (u : Bool) → p (first rows) ≡ true → p (cond u a (first rows)) ≡ true
    go true k = and_left (p a) (every_row p rows) e
    go false k = k

-- what is taken of the first row's answer is the first row's answer of what is taken of each
abbrev pub map_rows : {A B : Type 0} → (A → B) → Rows A → Rows B
map_rows f (otherwise a) = otherwise (f a)
map_rows f (t ⇒ a ⨾ rows) = t ⇒ f a ⨾ map_rows f rows

pub first_map : {A B : Type 0} (f : A → B) (rows : Rows A) → f (first rows) ≡ first (map_rows f rows)
first_map f (otherwise a) = refl
first_map f (t ⇒ a ⨾ rows) = go t (first_map f rows)
  where
    go : (u : Bool) → f (first rows) ≡ first (map_rows f rows) → f (cond u a (first rows)) ≡ cond u (f a) (first (map_rows f rows))
    go true k = refl
    go false k = k
