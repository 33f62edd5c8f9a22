-- What the functions inside answer: the replay's text by what was read of the image.
--
--   replayed_by p v t trace  ==  the output by the verdict v on the image and by its state t, in the profile p
--   replayed p read trace    ==  the same by what was read
use Rattle.std.specs.Prelude.{ℕ, List, ◌++◌, Ok, Err}
use Rattle.text.specs.Written.{text_of}
use Rattle.profile.specs.declared.Profile.{Profile}
use Rattle.state.specs.declared.Oep060Timing.{Oep060Timing}
use Rattle.refusals.specs.Verdict.{Verdict}
use Rattle.image.specs.declared.ImageRead.{ImageRead}
use Rattle.listing.specs.Lines.{refusal_line}
use Rattle.listing.specs.Listing.{short_trace_of}
use Rattle.replaying.specs.Replay.{shown}

abbrev pub replayed_by : Profile → Verdict → Oep060Timing → List ℕ → List ℕ
replayed_by p (Err refusal) t trace = text_of "image " ++ refusal_line refusal
replayed_by p (Ok done) t trace = shown p (short_trace_of trace) t

abbrev pub replayed : Profile → ImageRead → List ℕ → List ℕ
replayed p read trace = replayed_by p read.verdict read.timing trace
