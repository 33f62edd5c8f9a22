-- The texts of a table: a test computed at every number gives each.
-- Assumes nothing.
use Prim.Native.Nat.{ℕ, ◌<◌}
use mathlib.Core.Path.{◌≡◌, refl}
use mathlib.Core.Bool.{Bool, true}
use mathlib.Core.List.{List}
use Rattle.std.specs.Str.{bytes_eq}
use Rattle.std.proofs.lemmas.Slice.Eq.{bytes_eq-Decides}
use Rattle.bits.specs.Below.{every_below}
use Rattle.bits.proofs.Below.{each_below}

pub same_text : {xs ys : List ℕ} → bytes_eq xs ys ≡ true → xs ≡ ys
same_text {xs} {ys} t = (bytes_eq-Decides xs ys).0 t

-- what a test gives at any number, the goal is at this one: the test is read off what the goal asks of it
pub listed : {P : Type 0} (test : ℕ → Bool) (n m : ℕ) → m < n → ((k : ℕ) → m ≡ k → test k ≡ true → P) → every_below n test ≡ true → P
listed test n m h f t = f m refl (each_below n test t m h)
