-- `retire_record`: the four words, the first taken apart, and the retirement by what the run's table says of its opcode.
use mathlib.Core.Path.{◌≡◌, refl, sym, ap, ◌∙◌}
use Prim.Native.Nat.{◌*◌}
use mir.Facts.{to_z-of_z}
use mir.Syntax.{w32}
use borrow.Author.Rules.{rules}
use lib.Bits.{bit_and, and_mask}
use lib.ListN.{get_or}
use Rattle.window.specs.declared.dispatch.Controls.{Controls}
use Rattle.state.specs.declared.Retirement.{Retirement}
use Rattle.in_place.specs.Lent.{lent}
use Rattle.in_place.specs.Retire.{Paid, retire_by_of, retire_at_of}
use Rattle.in_place.proofs.Paying.{paid_looked_up}
use Rattle.host.specs.HostWords.{words_at}
use Rattle.host.proofs.WordsLaws.{record_is}
use Rattle.host.proofs.words.retire_record.Goals as goal
use Rattle.host.proofs.words.retire_record.Goals.{After-look_up-instruction}

-- what is paid by the table is what the profile has of the record
paid : (c : After-look_up-instruction) {x : Paid}
    → x ≡ retire_by_of c.look_up-instruction.result (bit_and (get_or c.args.records.now (4 * c.args.i) 0) 65535)
    c.controls_of-k.result
    (lent c.look_up-instruction.new.tags c.look_up-instruction.new.state c.look_up-instruction.new.window)
    → x ≡ retire_at_of c.args.decoded.now.profile (lent c.args.tags.now c.args.state.now c.args.window.now)
    (words_at c.args.records.now c.args.i)
paid c e =
    let head = get_or c.args.records.now (4 * c.args.i) 0 in
    let r : Retirement = record { op = bit_and head 65535; controls = c.controls_of-k.result } in
    let words : r ≡ words_at c.args.records.now c.args.i =
    ap (λ (k : Controls). record { op = bit_and head 65535; controls = k }) c.controls_of-k.ensures
    ∙ record_is c.args.records.now c.args.i (and_mask head 16) refl refl refl refl refl
    (to_z-of_z {w = w32} {z = c.i32_of.result} (search rules) ∙ c.i32_of.ensures) in
    let d = c.look_up-instruction.ensures in
    paid_looked_up c.args.decoded.now.profile r c.look_up-instruction.result e d.window_unchanged d.value
    ∙ ap (retire_at_of c.args.decoded.now.profile (lent c.args.tags.now c.args.state.now c.args.window.now)) words

pub returns-then-has : goal.returns-then-has
returns-then-has c = record {
  window_after = paid (goal.at.returns-then-has c).After-look_up-instruction (c.retire_branch.ensures _);
  profile_after = c.look_up-instruction.ensures.profile_after;
}

pub returns-then-k : goal.returns-then-k
returns-then-k c = record {
  window_after =
      paid (goal.at.returns-then-k c).After-look_up-instruction
      (c.retire_flow.ensures c.look_up-instruction.result (sym c.has.ensures ∙ c.if-has.false) _ _ _);
  profile_after = c.look_up-instruction.ensures.profile_after;
}

pub returns : goal.returns
returns c = record {
  window_after = paid (goal.at.returns c).After-look_up-instruction (c.retire_neither.ensures _ _);
  profile_after = c.look_up-instruction.ensures.profile_after;
}
