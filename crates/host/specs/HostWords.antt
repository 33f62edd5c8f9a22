-- A batch of 32-bit words, on lent numbers. Document 01, "Records and images". The Rust has none.
--
--   words_of head ppc pc raw     ==  the retirement of four 32-bit words: the opcode, 65,536 times the flags added;
--                                    ppc; pc; the bits of raw
--   words_at ws i                ==  the retirement of the four words from 4 * i on
--   retirements_of ws            ==  the retirements of the words ws, four words each; one to three words that are left
--                                    over are not read
--   host_outcome_of_batch l o    ==  what a host sees of the outcome of a batch on the lent numbers l
--   run_batch_at_of p ws both l  ==  the batch of these retirements in the profile p, with the two lent runs, on the
--                                    lent numbers l
use Rattle.std.specs.Prelude.{ℕ, ◌+◌, ◌*◌, ◌/◌, ◌%◌, List, [], ◌∷◌, get_or}
use Rattle.little_endian.specs.Signed.{signed_of}
use Rattle.profile.specs.declared.Profile.{Profile}
use Rattle.state.specs.declared.Retirement.{Retirement}
use Rattle.refusals.specs.Runs.{Runs}
use Rattle.batch.specs.Batch.{BatchOutcome, batch_of}
use Rattle.in_place.specs.Lent.{Lent, state_at}
use Rattle.host.specs.HostRan.{HostOutcome, host_outcome_of}
use Rattle.state.specs.Flags.{retirement_of}
use Rattle.window.specs.Raw.{raw_count}

abbrev pub words_of : ℕ → ℕ → ℕ → ℕ → Retirement
words_of head ppc pc raw = retirement_of (head % 65536) (head / 65536) ppc pc (raw_count (signed_of raw))

abbrev pub words_at : List ℕ → ℕ → Retirement
words_at ws i =
    words_of (get_or ws (4 * i) 0) (get_or ws (4 * i + 1) 0) (get_or ws (4 * i + 2) 0) (get_or ws (4 * i + 3) 0)

unfoldable pub retirements_of : List ℕ → List Retirement
retirements_of (head ∷ ppc ∷ pc ∷ raw ∷ ws) = words_of head ppc pc raw ∷ retirements_of ws
retirements_of (head ∷ ppc ∷ pc ∷ []) = []
retirements_of (head ∷ ppc ∷ []) = []
retirements_of (head ∷ []) = []
retirements_of [] = []

abbrev pub host_outcome_of_batch : Lent → BatchOutcome → HostOutcome
host_outcome_of_batch l o = host_outcome_of l o.ran o.lent

abbrev pub run_batch_at_of : Profile → List ℕ → Runs → Lent → HostOutcome
run_batch_at_of p ws both l = host_outcome_of_batch l (batch_of p (retirements_of ws) both (state_at l))
