-- `list_trace`: what `list_into` gives, and its text lies within the lent bytes.
use native.Mathlib.Omega.{arith}
use Rattle.listing.specs.Listing.{short_trace_of}
use Rattle.listing.proofs.Within.{listed_within}
use Rattle.listing.proofs.list_trace.Goals as goal

pub returns : goal.returns
returns c = (record { text_after = c.list_into.ensures; len_in_bounds = omega (arith, c.list_into.auto.out, listed_within c.args.profile (short_trace_of c.args.trace.now) c.args.text.now c.args.timing c.list_into.ensures c.list_into.auto.out) })
