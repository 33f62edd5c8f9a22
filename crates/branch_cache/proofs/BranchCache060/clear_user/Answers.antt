-- `BranchCache060::clear_user`: a turn stores 0 where the byte has bit 3, as the definition's rule does, and else nothing.
use Rattle.std.proofs.Common.{◌≡◌, ℕ, ◌<◌, ◌+◌, List, map, length, get_or, set, bit_and, arith, rules, ap, ◌∙◌}
use lib.ListN.{length-map, get_or-map}
use lib.Seq.{set-get_or}
use borrow.Author.Tests.{ne_eqb}
use Rattle.bits.proofs.Words.{meets_bit}
use Rattle.bits.proofs.Filling.{filled, filled_at, filled_put, filled_kept}
use Rattle.branch_cache.specs.Cache.{clear_user_byte_of}
use Rattle.branch_cache.proofs.BranchCache060.clear_user.Goals as goal
use Rattle.branch_cache.proofs.BranchCache060.clear_user.Goals.{else-byte-ne0, then-byte-ne0}

-- the bytes bs, and what they are before the turn i
module _ (bs now : List ℕ) (i : ℕ) (h : i < length bs) (e : now ≡ filled i (map clear_user_byte_of bs) bs) where
  long : i < length (map clear_user_byte_of bs)
  long = rw (length-map bs clear_user_byte_of) h

  here : get_or now i 0 ≡ get_or bs i 0
  here = ap (λ (xs : List ℕ). get_or xs i 0) e ∙ filled_at i (map clear_user_byte_of bs) bs long h

  -- the byte as the definition's rule clears it
  ruled : get_or (map clear_user_byte_of bs) i 0 ≡ clear_user_byte_of (get_or bs i 0)
  ruled = get_or-map clear_user_byte_of bs i 0

  cleared : (bit_and (get_or now i 0) 8 ≡ 0 → ⊥) → set now i 0 ≡ filled (i + 1) (map clear_user_byte_of bs) bs
  cleared n =
      ap (λ (xs : List ℕ). set xs i 0) e
      ∙ filled_put i (map clear_user_byte_of bs) bs 0 long h (simp (ruled, ← here, ← meets_bit (get_or now i 0) 3, ne_eqb _ _ n))

  spared : bit_and (get_or now i 0) 8 ≡ 0 → set now i (get_or now i 0) ≡ filled (i + 1) (map clear_user_byte_of bs) bs
  spared z = set-get_or now i 0 ∙ e ∙ filled_kept i (map clear_user_byte_of bs) bs long h (simp (ruled, ← here, ← meets_bit (get_or now i 0) 3, z))

pub loop-byte-preserved : goal.loop-byte-preserved
loop-byte-preserved c =
    let bs : List ℕ = c.args.self.state in
    let len : length bs ≡ 256 = search rules in
    let h : c.loop-byte.byte-index < length bs = omega arith in
    (elim c.if-byte-ne0.branch [ then-byte-ne0 w ↦ w.byte-items-is ∙ cleared bs c.loop-byte.byte-items _ h c.loop-byte.invariant w.if-byte-ne0.true | else-byte-ne0 w ↦ w.byte-items-is ∙ spared bs c.loop-byte.byte-items _ h c.loop-byte.invariant w.if-byte-ne0.false ])
