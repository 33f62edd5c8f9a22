-- The words by which a program is told what to do: the profile, and of `why` whether all columns are asked for.
-- Document 02, R-4: "chosen at start"; the words are the project's own. What words come no promise can say; what they
-- name, this one fixes.
--
--   CRATE, MENDED        ==  the two words: `crate`, `mended`
--   Names word w         ==  w is what the word names: a profile by its word, or nothing
--   chosen_of given w    ==  what a program is told by so many arguments, its own name among them, where the first word
--                            names w: no word is the crate's profile, and two or more name nothing
--   FULL                 ==  the word `full`
--   Says word s          ==  s is what the word says to `why`: `full`, or a profile, or nothing
--   asks_by full w       ==  what is asked for where the other word, or the lack of it, names w
--   one_asks s           ==  what one word asks for, which says s: `full` by itself goes by the crate's profile
--   both_ask s u         ==  what two words ask for, which say s and u: `full` and a profile, in either order
--   asks_of given s u    ==  what `why` is asked for by so many arguments, its own name among them, where the first two
--                            words say s and u: without a word neither `full` nor mended, and three or more ask nothing
use Rattle.std.specs.Prelude.{ℕ, ◌≡◌, Bool, true, false, cond, List, ltb, Option, Some, None}
use Rattle.text.specs.Written.{text_of}
use Rattle.profile.specs.declared.Profile.{Profile}
use Rattle.profile.specs.declared.Profile.TheVariants.{Crate, Mended}
use Rattle.input.specs.declared.words.Said.{Said}
use Rattle.input.specs.declared.words.Said.TheVariants.{Full, Profile as By}
use Rattle.input.specs.declared.words.Request.{Request}

abbrev pub CRATE : List ℕ
CRATE = text_of "crate"

abbrev pub MENDED : List ℕ
MENDED = text_of "mended"

abbrev pub Names : List ℕ → Option Profile → Type 0
Names word (Some Crate) = word ≡ CRATE
Names word (Some Mended) = word ≡ MENDED
Names word None = (word ≡ CRATE → ⊥) × (word ≡ MENDED → ⊥)

abbrev pub chosen_of : ℕ → Option Profile → Option Profile
chosen_of given w = cond (ltb given 2) (Some Crate) (cond (ltb 2 given) None w)

abbrev pub FULL : List ℕ
FULL = text_of "full"

abbrev pub Says : List ℕ → Option Said → Type 0
Says word (Some Full) = word ≡ FULL
Says word (Some (By p)) = (word ≡ FULL → ⊥) × Names word (Some p)
Says word None = (word ≡ FULL → ⊥) × Names word None

abbrev pub asks_by : Bool → Option Profile → Option Request
asks_by full (Some p) = Some (record { full = full; profile = p })
asks_by full None = None

abbrev pub one_asks : Option Said → Option Request
one_asks (Some Full) = asks_by true (Some Crate)
one_asks (Some (By p)) = asks_by false (Some p)
one_asks None = asks_by false None

abbrev pub both_ask : Option Said → Option Said → Option Request
both_ask (Some Full) (Some Full) = None
both_ask (Some Full) (Some (By p)) = asks_by true (Some p)
both_ask (Some Full) None = asks_by true None
both_ask (Some (By p)) (Some Full) = asks_by true (Some p)
both_ask None (Some Full) = asks_by true None
both_ask (Some (By p)) (Some (By q)) = None
both_ask (Some (By p)) None = None
both_ask None (Some (By q)) = None
both_ask None None = None

abbrev pub asks_of : ℕ → Option Said → Option Said → Option Request
asks_of given s u = cond (ltb given 2) (asks_by false (Some Crate)) (cond (ltb given 3) (one_asks s)
    (cond (ltb given 4) (both_ask s u) None))
