-- `next`: what stands at the place is what `read_record` answers, and a record that was read is left behind.
use mathlib.Core.Path.{◌≡◌, sym, ◌∙◌, refl}
use Rattle.std.proofs.Common.{rules}
use Rattle.records.specs.Record.{got, read_at}
use Rattle.records.proofs.Walking.{got_within}
use Rattle.records.proofs.events.EventsIterator.next.Goals as goal

pub returns-in_default-2-clause-steps : goal.returns-in_default-2-clause-steps
returns-in_default-2-clause-steps c = ((λ u. absurd (u _ (sym c.read_record.ensures ∙ c.in_default.is))), refl, refl)

pub returns-clause-goes : goal.returns-clause-goes
returns-clause-goes c =
    let old = c.args.self.now in
    let q : read_at old.trace.now old.at ≡ got c.in-Ok-Some.event c.in-Ok-Some.next = cc in
    let w = got_within old.trace.now old.at c.in-Ok-Some.event c.in-Ok-Some.next q in search rules
