-- `reclassed`: the tests are those of the rows after the third, in order, and the words those of PACK, and of CHK and LEA on register 0.
use mathlib.Core.Path.{◌≡◌, sym, ap, ◌∙◌}
use Prim.Native.Nat.{ℕ}
use Rattle.class_word.specs.declared.Info060.{Info060}
use Rattle.class_word.specs.Word.{info}
use Rattle.window.specs.declared.dispatch.Instruction.{Instruction}
use Rattle.profile.specs.Mending.{classed_as, mended_rows}
use Rattle.profile.proofs.Reclassing.{pack_word, chk_word, lea_word}
use Rattle.profile.proofs.mending.reclassed.Goals as goal

-- another class word
classed : (i : Instruction) {r : Instruction} {w : Info060} {x y : ℕ} → r ≡ classed_as w.0 i → w ≡ info x → y ≡ x → r ≡ classed_as y i
classed i h e f = h ∙ ap (λ (u : Info060). classed_as u.0 i) e ∙ ap (λ (z : ℕ). classed_as z i) (sym f)

pub returns-then-within : goal.returns-then-within
unfolding mended_rows
returns-then-within c =
    rw (sym c.within.ensures ∙ c.if-within.true)
    (c.classed_as.ensures ∙ ap (λ (u : Info060). classed_as u.0 c.args.i) c.unclassified.ensures)

pub returns-then-is_unpk : goal.returns-then-is_unpk
unfolding mended_rows
returns-then-is_unpk c =
    let h = sym c.is_unpk.ensures ∙ c.if-is_unpk.true in
    rw (sym c.within.ensures ∙ c.if-within.false, h) (classed c.args.i c.classed_as-then-is_unpk.ensures c.new-pack.ensures (pack_word c.args.op h))

pub returns-then-is_chk_on_4 : goal.returns-then-is_chk_on_4
unfolding mended_rows
returns-then-is_chk_on_4 c =
    let h = sym c.is_chk_on_4.ensures ∙ c.if-is_chk_on_4.true in
    rw (sym c.within.ensures ∙ c.if-within.false, sym c.is_unpk.ensures ∙ c.if-is_unpk.false, h)
    (classed c.args.i c.classed_as-then-is_chk_on_4.ensures c.chk_060.ensures (chk_word c.args.op h))

pub returns-then-within-2 : goal.returns-then-within-2
unfolding mended_rows
returns-then-within-2 c =
    let h = sym c.within-2.ensures ∙ c.if-within-2.true in
    rw (
      sym c.within.ensures ∙ c.if-within.false,
      sym c.is_unpk.ensures ∙ c.if-is_unpk.false,
      sym c.is_chk_on_4.ensures ∙ c.if-is_chk_on_4.false,
      h,
    )
    (classed c.args.i c.classed_as-then-within-2.ensures c.lea_060.ensures (lea_word c.args.op h))

pub returns : goal.returns
unfolding mended_rows
returns c =
    simp (
      sym c.within.ensures ∙ c.if-within.false,
      sym c.is_unpk.ensures ∙ c.if-is_unpk.false,
      sym c.is_chk_on_4.ensures ∙ c.if-is_chk_on_4.false,
      sym c.within-2.ensures ∙ c.if-within-2.false,
    )
