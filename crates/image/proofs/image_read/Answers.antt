-- `image_read`: an accepted image has at least 1,288 bytes.
use mathlib.Core.Path.{◌≡◌, sym, ◌∙◌}
use Rattle.refusals.specs.Verdict.{accepted}
use Rattle.image.specs.Entries.{image_verdict_of}
use Rattle.image.proofs.Refusals.{image_taken, long_enough}
use Rattle.image.proofs.image_read.Goals as goal

pub image_state-timing-requires : goal.image_state-timing-requires
image_state-timing-requires c =
    let s = c.args.bytes.now in
    let e : image_verdict_of s ≡ accepted = sym c.image_verdict-verdict.ensures ∙ c.in-Ok.is in
    long_enough s (image_taken s e).0
