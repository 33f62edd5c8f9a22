-- Document 01, "Records and images": the kinds of records in a trace. The Rust has none.
--
--   kind_number kind     ==  the number of a kind
--                            "Kind 1, retirement"; "Kinds 2 break, 3 clear-all, 4 clear-user"
--   payload_length kind  ==  how many bytes the payload of a kind has
--                            "retirement, 16 bytes"; "length 0"
--   kinds                ==  the kinds of a trace's records, all of them
--   kind_in some n       ==  the kind among some whose number is n; an error if none has it
--   kind_of n            ==  the kind whose number is n; an error if none has it
--                            "kind not 1 to 4"
use Rattle.std.specs.Prelude.{ℕ, cond, List, [], ◌∷◌, Result, Ok, Err, eqb}
use Rattle.records.specs.declared.kinds.Kind.{Kind}
use Rattle.records.specs.declared.kinds.Kind.TheVariants.{Retirement, Break, ClearAll, ClearUser}
use Rattle.records.specs.declared.kinds.UnknownKind.{UnknownKind}

abbrev pub kind_number : Kind → ℕ
kind_number Retirement = 1
kind_number Break = 2
kind_number ClearAll = 3
kind_number ClearUser = 4

abbrev pub payload_length : Kind → ℕ
payload_length Retirement = 16
payload_length Break = 0
payload_length ClearAll = 0
payload_length ClearUser = 0

abbrev pub kinds : List Kind
kinds = Retirement ∷ Break ∷ ClearAll ∷ ClearUser ∷ []

abbrev pub kind_in : List Kind → ℕ → Result Kind UnknownKind
kind_in [] n = Err (record {})
kind_in (kind ∷ others) n = cond (eqb n (kind_number kind)) (Ok kind) (kind_in others n)

unfoldable pub kind_of : ℕ → Result Kind UnknownKind
kind_of n = kind_in kinds n
