-- Texts written one behind the other, for `grind`: where the next one goes, that no byte came or went, and that both
-- together are one text. Under `using` these find the goals of a chain of `put_..` calls.
-- Assumes nothing.
use Prim.Native.Nat.{ℕ, ◌+◌, ◌≤◌}
use mathlib.Core.Path.{◌≡◌, refl}
use mathlib.Core.List.{List, [], ◌++◌}
use native.Mathlib.Omega.{arith}
use lib.ListN.{length, length-append}
use Rattle.little_endian.proofs.Numbers.{put_length, put_joins}
use Rattle.text.specs.Written.{written, written_of}
use Rattle.text.proofs.Writing.{written_none}

pub place_behind : (lent : List ℕ) (at : ℕ) (text : List ℕ) → (written_of lent at text).next ≡ at + length text
unfolding written_of
place_behind lent at text = refl

pub same_length : (lent : List ℕ) (at : ℕ) (text : List ℕ) → at + length text ≤ length lent
    → length (written_of lent at text).bytes ≡ length lent
unfolding written_of
same_length lent at text room = put_length lent at text room

pub one_text : (lent : List ℕ) (at : ℕ) (text more : List ℕ) → at + length text ≤ length lent
    → written_of (written_of lent at text).bytes (written_of lent at text).next more ≡ written_of lent at (text ++ more)
unfolding written_of
one_text lent at text more room =
    let n : at + length text + length more ≡ at + length (text ++ more) = omega (arith, length-append text more) in
    rw (n, put_joins lent at text room more)

pub no_text : (lent : List ℕ) (at : ℕ) → written_of lent at [] ≡ written at lent
no_text lent at = written_none lent at

pub both_lengths : (text more : List ℕ) → length (text ++ more) ≡ length text + length more
both_lengths text more = length-append text more

pub ruleset behind = (place_behind, same_length, no_text, one_text, both_lengths)
