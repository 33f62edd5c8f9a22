-- The names of a word's flags: one text for each entry of the table, after the word for none.
-- Assumes nothing.
use Prim.Native.Nat.{ℕ, ◌+◌, ◌≤◌}
use mathlib.Core.Path.{◌≡◌, ap}
use mathlib.Core.Bool.{true, ◌&&◌}
use mathlib.Core.List.{List, [], ◌∷◌, ◌++◌, append_assoc, append-nil}
use native.Mathlib.Omega.{arith}
use lib.Dec.{eqb}
use lib.ListN.{length, get_or, length-append}
use borrow.Author.Tests.{eqb-true}
use Rattle.bits.proofs.Bools.{and_left, and_right}
use Rattle.std.specs.Str.{bytes_eq}
use Rattle.text.specs.Written.{text_of, Written, written, written_of}
use Rattle.text.proofs.Writing.{wrote, wrote_more, wrote_whole}
use Rattle.class_word.specs.Word.{BRANCH, DBCC, VARIABLE, UNCLASSIFIED, DEFINES_CCR, USES_CCR_LATE, EA_INDEXED, READS_MEM, WRITES_MEM}
use Rattle.rule_text.specs.Each.{each_from}
use Rattle.rule_text.specs.Names.{none_text, flag_text, flags_text}
use Rattle.rule_text.proofs.Listed.{same_text}

abbrev flags : List (ℕ × List ℕ)
flags =
    (BRANCH, text_of " BRANCH")
    ∷ (DBCC, text_of " DBCC")
    ∷ (VARIABLE, text_of " VARIABLE")
    ∷ (DEFINES_CCR, text_of " DEFINES_CCR")
    ∷ (USES_CCR_LATE, text_of " USES_CCR_LATE")
    ∷ (EA_INDEXED, text_of " EA_INDEXED")
    ∷ (UNCLASSIFIED, text_of " UNCLASSIFIED")
    ∷ (READS_MEM, text_of " READS_MEM")
    ∷ (WRITES_MEM, text_of " WRITES_MEM")
    ∷ []

abbrev pub flag_of : ℕ → ℕ
flag_of k = (get_or flags k (0, [])).0

abbrev pub name_of : ℕ → List ℕ
name_of k = (get_or flags k (0, [])).1

abbrev pub flag_at : ℕ → ℕ → List ℕ
flag_at w k = flag_text w (flag_of k) (name_of k)

-- what the table has at k is the flag and the name of k
module _ (w k f : ℕ) (n : List ℕ) (t : (eqb f (flag_of k) && bytes_eq n (name_of k)) ≡ true) where
  same_flag : flag_text w f n ≡ flag_at w k
  same_flag =
      let e : f ≡ flag_of k = eqb-true f (flag_of k) (and_left (eqb f (flag_of k)) (bytes_eq n (name_of k)) t) in
      let d : n ≡ name_of k = same_text (and_right (eqb f (flag_of k)) (bytes_eq n (name_of k)) t) in
      rw (e, d)

  pub flag_room : (place : ℕ) {size : ℕ} → place + length (flag_at w k) ≤ size → place + length (flag_text w f n) ≤ size
  flag_room place h = rw same_flag h

  pub flag_put : (out : List ℕ) (place : ℕ) {x : Written} → x ≡ written_of out place (flag_text w f n)
      → x ≡ written_of out place (flag_at w k)
  flag_put out place h = rw same_flag at h

whole : (w : ℕ) → none_text w ++ each_from 0 9 (flag_at w) ≡ flags_text w
unfolding flags_text each_from
whole w = simp (append_assoc, append-nil)

module _ (w at : ℕ) (lent : List ℕ) (room : at + length (flags_text w) ≤ length lent) where
  room_whole : at + length (none_text w) + length (each_from 0 9 (flag_at w)) ≤ length lent
  room_whole = omega (arith, room, ap length (whole w), length-append (none_text w) (each_from 0 9 (flag_at w)))

  pub none_room : at + length (none_text w) ≤ length lent
  none_room = omega (arith, room_whole)

  module _ {start : ℕ} {mid : List ℕ} (none : written start mid ≡ written_of lent at (none_text w)) where
    pub rest_room : start + length (each_from 0 9 (flag_at w)) ≤ length mid
    rest_room = let v = wrote lent at (none_text w) none_room none in omega (arith, v.place, v.same, room_whole)

    pub flags_put : {place : ℕ} {out : List ℕ} → written place out ≡ written_of mid start (each_from 0 9 (flag_at w))
        → written place out ≡ written_of lent at (flags_text w)
    flags_put e =
        let v = wrote lent at (none_text w) none_room none in
        rw (← whole w) (wrote_whole (wrote_more v (each_from 0 9 (flag_at w)) (omega (arith, v.place, room_whole)) e))
