-- A rule as rows tried in order: "The Rust's test order within a group counts".
--
--   Rows A                ==  rows that answer something of the kind A
--   test ⇒ answer ⨾ rows  ==  the answer where the test holds, else what the later rows say
--   otherwise answer      ==  the last row, which holds always
--   first rows            ==  the answer of the first row whose test holds
--   rows_after n rows     ==  the rows that are left when the first n are struck out
--   every_row p rows      ==  p holds of each row's answer, whichever row it is
use Rattle.std.specs.Prelude.{ℕ, zero, suc, Bool, cond, ◌&&◌}

infixr 20 ◌⇒◌⨾◌
pub data Rows (A : Type 0) : Type 0 where
  otherwise : A → Rows A
  ◌⇒◌⨾◌ : Bool → A → Rows A → Rows A

abbrev pub first : {A : Type 0} → Rows A → A
first (otherwise a) = a
first (t ⇒ a ⨾ rows) = cond t a (first rows)

abbrev pub rows_after : {A : Type 0} → ℕ → Rows A → Rows A
rows_after zero rows = rows
rows_after (suc n) (otherwise a) = otherwise a
rows_after (suc n) (t ⇒ a ⨾ rows) = rows_after n rows

abbrev pub every_row : {A : Type 0} → (A → Bool) → Rows A → Bool
every_row p (otherwise a) = p a
every_row p (t ⇒ a ⨾ rows) = p a && every_row p rows
