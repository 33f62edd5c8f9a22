-- The code's ors of flags are the definition's sums: a test computed at each case of some Bools gives the law at any.
-- Assumes nothing.
use mathlib.Core.Path.{◌≡◌, refl, ap}
use mathlib.Core.Bool.{Bool, true, ◌&&◌}
use Prim.Native.Nat.{ℕ, ◌+◌, ◌*◌, ◌%◌, ◌<◌}
use native.Mathlib.Omega.{arith}
use lib.Dec.{eqb}
use lib.Bits.{bit_or}
use borrow.Author.Tests.{eqb-true}
use Rattle.bits.specs.Words.{num}
use Rattle.bits.proofs.Bools.{each, at}
use Rattle.class_word.specs.declared.OepClass.{OepClass}
use Rattle.class_word.specs.Word.{class_number, new_of, info}
use Rattle.class_word.proofs.Words.{class_small, new_apart}
use Rattle.classifier.specs.Entry.{Access, access, together, access_flags, is_memory, is_indexed, ea, entry, entry_word}

-- the three flags of an operand, in the code's order
joined : Bool → Bool → Bool → Bool
joined i r w = eqb (bit_or (bit_or (num r * 16384) (num w * 32768)) (num i * 4096)) (access_flags (access i r w))

flags_joined : (i r w : Bool) → bit_or (bit_or (num r * 16384) (num w * 32768)) (num i * 4096) ≡ access_flags (access i r w)
unfolding joined
flags_joined i r w = eqb-true _ _ (at (joined i r) (at (λ r. each (joined i r)) (at (λ i. each λ r. each (joined i r)) refl i) r) w)

pub flags_ea : (mode reg : ℕ) (read write : Bool) {m i : Bool} {a b d : ℕ} → m ≡ is_memory mode reg → i ≡ is_indexed mode reg
    → a ≡ num (m && read) * 16384 → b ≡ num (m && write) * 32768 → d ≡ num i * 4096 → bit_or (bit_or a b) d ≡ access_flags (ea mode reg read write)
unfolding ea
flags_ea mode reg read write hm hi ha hb hd =
    rw (ha, hb, hd, hm, hi) (flags_joined (is_indexed mode reg) (is_memory mode reg && read) (is_memory mode reg && write))

-- two operands
abbrev joined_two : Bool → Bool → Bool → Bool → Bool → Bool → Bool
joined_two i r w j q v = eqb (bit_or (access_flags (access i r w)) (access_flags (access j q v))) (access_flags (together (access i r w) (access j q v)))

pub flags_together : (a b : Access) {e f : ℕ} → e ≡ access_flags a → f ≡ access_flags b → bit_or e f ≡ access_flags (together a b)
flags_together a b he hf =
    rw (he, hf)
    (eqb-true _ _
    (at (joined_two a.indexed a.reads a.writes b.indexed b.reads)
    (at (λ q. each (joined_two a.indexed a.reads a.writes b.indexed q))
    (at (λ j. each λ q. each (joined_two a.indexed a.reads a.writes j q))
    (at (λ w. each λ j. each λ q. each (joined_two a.indexed a.reads w j q))
    (at (λ r. each λ w. each λ j. each λ q. each (joined_two a.indexed r w j q))
    (at (λ i. each λ r. each λ w. each λ j. each λ q. each (joined_two i r w j q)) refl a.indexed) a.reads) a.writes) b.indexed) b.reads) b.writes))

-- flags k that are none of the three
abbrev pub apart : ℕ → Bool → Bool → Bool → Bool
apart k i r w = eqb (bit_or k (access_flags (access i r w))) (k + access_flags (access i r w))

abbrev pub Apart : ℕ → Type 0
Apart k = (each λ i. each λ r. each λ w. apart k i r w) ≡ true

flags_apart : (k : ℕ) → Apart k → (a : Access) → bit_or k (access_flags a) ≡ k + access_flags a
flags_apart k t a =
    eqb-true _ _
    (at (apart k a.indexed a.reads)
    (at (λ r. each (apart k a.indexed r))
    (at (λ i. each λ r. each (apart k i r)) t a.indexed) a.reads) a.writes)

flags_low : (a : Access) → access_flags a % 128 ≡ 0
flags_low a = omega arith

-- an entry that the code packs: fixed flags k, or-ed with an operand's
pub entry_packed : (class : OepClass) (clocks k : ℕ) → clocks < 32 → k % 128 ≡ 0 → Apart k → (a : Access) {e : ℕ} → e ≡ access_flags a
    → info (new_of (class_number class) clocks (bit_or k e)) ≡ info (entry_word (entry class clocks k a))
entry_packed class clocks k hc hk t a he =
    ap info
    (rw (he, flags_apart k t a)
    (new_apart (class_number class) clocks (k + access_flags a) (class_small class) hc (omega (arith, flags_low a))))
