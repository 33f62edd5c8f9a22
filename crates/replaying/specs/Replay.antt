-- The replay's whole output. The tool is the project's own, beside document 01's cost lister, and its rules are these:
-- standard input is an image of kind 17 or 16, and then a trace of at most 65,536 bytes. The output is what the lister
-- prints, started from the image's state, and then the next state: a line for its head, and its image. The image is
-- judged first, then the trace; a refusal is the whole output. The Rust has none.
--
--   image_size input     ==  1,294 where bytes 2 and 3 say 17, else 1,288
--   image_in input       ==  the image: the first `image_size` bytes, or all of the input where it has fewer; what is
--                            there is handed to the reading
--   trace_in input       ==  the trace: what follows; its places are counted from its own first byte
--   image_lines t        ==  the image of the state t in hexadecimal: 40 lines of 32 bytes and a last one of 14
--   state_lines t        ==  the line of its head, and its image
--   shown p said t       ==  the output by what the trace said, from the state t, in the profile p
--   replay_by p v input  ==  the output by the verdict on the image: `image refused N at P`, or what follows from its
--                            state
--   replay_of p input    ==  the whole output
use Rattle.std.specs.Prelude.{ℕ, cond, List, ◌++◌, Ok, Err, eqb, take, drop}
use Rattle.little_endian.specs.Numbers.{number_at}
use Rattle.text.specs.Written.{text_of}
use Rattle.profile.specs.declared.Profile.{Profile}
use Rattle.state.specs.declared.Oep060Timing.{Oep060Timing}
use Rattle.refusals.specs.Verdict.{Verdict}
use Rattle.records.specs.Trace.{Trace, events, refused}
use Rattle.trace.specs.Run.{next_of}
use Rattle.image.specs.Image.{image_of}
use Rattle.image.specs.Entries.{image_read_of}
use Rattle.listing.specs.Lines.{refusal_line}
use Rattle.listing.specs.Listing.{short_trace_of, table_of}
use Rattle.replaying.specs.HexLines.{hex_rows}
use Rattle.replaying.specs.HeadLine.{head_line}
use Rattle.image.specs.ImageLayout.{image_kind, image_length, old_length}

abbrev pub image_size : List ℕ → ℕ
image_size input = cond (eqb (number_at 2 input 2) image_kind) image_length old_length

abbrev pub image_in : List ℕ → List ℕ
image_in input = take (image_size input) input

abbrev pub trace_in : List ℕ → List ℕ
trace_in input = drop (image_size input) input

abbrev pub image_lines : Oep060Timing → List ℕ
image_lines t = hex_rows 41 (image_of t)

abbrev pub state_lines : Oep060Timing → List ℕ
state_lines t = head_line t.window ++ image_lines t

abbrev pub shown : Profile → Trace → Oep060Timing → List ℕ
shown p (events es) t = table_of p es t ++ state_lines (next_of p t es)
shown p (refused refusal) t = refusal_line refusal

abbrev pub replay_by : Profile → Verdict → List ℕ → List ℕ
replay_by p (Err refusal) input = text_of "image " ++ refusal_line refusal
replay_by p (Ok done) input = shown p (short_trace_of (trace_in input)) (image_read_of (image_in input)).timing

abbrev pub replay_of : Profile → List ℕ → List ℕ
replay_of p input = replay_by p (image_read_of (image_in input)).verdict input
