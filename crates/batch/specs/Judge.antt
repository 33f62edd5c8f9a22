-- Document 01, "Records and images": the verdict on a batch. The Rust has none.
--
--   short room n             ==  of two lent runs of these lengths one has no room for n records
--                                "one place a record"; document 02, R-5: "7 also when that run is short"
--   batch_verdict_of n room  ==  the verdict on n records
--                                "Batch: 1, 7": over 1,048,576 records, then no room
use Rattle.std.specs.Prelude.{ℕ, Bool, cond, ◌||◌, Err, ltb}
use Rattle.refusals.specs.declared.Refusal.TheVariants.{Oversized, Room}
use Rattle.refusals.specs.Runs.{Rooms}
use Rattle.refusals.specs.Verdict.{Verdict, accepted}

abbrev pub short : Rooms → ℕ → Bool
short room n = ltb room.costs n || ltb room.answers n

unfoldable pub batch_verdict_of : ℕ → Rooms → Verdict
batch_verdict_of n room = cond (ltb 1048576 n) (Err Oversized) (cond (short room n) (Err (Room 0)) accepted)
