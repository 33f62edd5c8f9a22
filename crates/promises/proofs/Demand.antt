-- Demand 3 of every board whose class words are sound and that has two MOVEQ-like opcodes; and of each profile over any cache.
-- Assumes nothing.
use mathlib.Core.Path.{◌≡◌, refl, sym, ap, ◌∙◌}
use mathlib.Core.Bool.{Bool, true, false}
use Prim.Native.Nat.{ℕ, ◌/◌, ◌%◌, ◌^◌}
use lib.Bits.{bit_or, or_mod, or_shr, or_zero_r}
use lib.Dec.{eqb, leb}
use borrow.Author.Tests.{eqb-true, eq-eqb, le-leb}
use Rattle.bits.specs.Pattern.{matches}
use Rattle.bits.specs.Rows.{first, every_row}
use Rattle.bits.proofs.Rows.{first_has}
use Rattle.bits.proofs.Words.{meets_bit}
use Rattle.class_word.specs.Word.{class_of, clocks_of, has, BRANCH, READS_MEM}
use Rattle.classifier.specs.LowGroups.{group7}
use Rattle.classifier.specs.Entry.{entry_word, unclassified}
use Rattle.classifier.specs.Classify.{classify_of}
use Rattle.masks.specs.Registers.{mask_of_regs}
use Rattle.masks.specs.Masks.{sets_of}
use Rattle.branch_cache.specs.Cache.{cache_fresh_of}
use Rattle.cost.specs.Free.{sound}
use Rattle.state.specs.Board.{CacheRule, Board}
use Rattle.profile.specs.declared.Profile.{Profile}
use Rattle.profile.specs.declared.Profile.TheVariants.{Crate, Mended}
use Rattle.profile.specs.Profile.{crate_profile, profile_of}
use Rattle.profile.specs.Mending.{pack_for, on_register, mended_rows}
use Rattle.window.specs.declared.dispatch.Instruction.{Instruction}
use Rattle.state.specs.CrateCache.{crate_cache}
use Rattle.step.specs.Boards.{board_of}
use Rattle.promises.specs.Demand3.{Sound, Demand3}
use Rattle.promises.proofs.Opcodes.{every_opcode}
use Rattle.promises.proofs.Zero.{costs_zero, then_shut_lem}
use Rattle.promises.proofs.Bounds.{at_least_lem, at_least_shut_lem}
use Rattle.promises.proofs.Reached.{moveq, moveqs, start, counted, reached}

pub demand3 : (B : Board) → Sound B → B.rule.Cache → (op₀ op₁ : ℕ) → B.profile op₀ ≡ moveq 1 → B.profile op₁ ≡ moveq 2 → Demand3 B
demand3 B ok c op₀ op₁ e₀ e₁ =
    record {
      zero_exactly = λ s r. costs_zero B s r ok;
      then_shut = λ s r. then_shut_lem B s r ok;
      at_least = at_least_lem B ok;
      at_least_shut = at_least_shut_lem B ok;
      reached = λ n. (start B op₀ op₁ e₀ e₁ c true, moveqs B op₀ op₁ e₀ e₁ true n, counted B op₀ op₁ e₀ e₁ n true _, reached B op₀ op₁ e₀ e₁ n true c);
      reached_shut = λ n. (start B op₀ op₁ e₀ e₁ c false, moveqs B op₀ op₁ e₀ e₁ false n, refl, counted B op₀ op₁ e₀ e₁ n false _, reached B op₀ op₁ e₀ e₁ n false c);
    }

-- the crate's class words are sound
sound_by : (w : ℕ) (a b : Bool) → eqb (class_of w) 0 ≡ a → has w BRANCH ≡ b → leb 1 (clocks_of w) ≡ true → (class_of w ≡ 0 → clocks_of w ≡ 1)
    → (has w BRANCH ≡ true → class_of w ≡ 0 → ⊥) → sound w ≡ true
unfolding sound
sound_by w true true p q l f g = absurd (g q (eqb-true (class_of w) 0 p))
sound_by w true false p q l f g = rw (l, p, q, eq-eqb (clocks_of w) 1 (f (eqb-true (class_of w) 0 p)))
sound_by w false b p q l f g = rw (l, p)

word_sound : (op : ℕ) → sound (classify_of op) ≡ true
word_sound op =
    sound_by (classify_of op) (eqb (class_of (classify_of op)) 0) (has (classify_of op) BRANCH) refl refl
    (le-leb 1 _ (every_opcode.at_least_one_clock op)) (every_opcode.class0_has_one_clock op) (every_opcode.branch_not_in_class0 op)

-- a word that also reads memory: class, clocks and BRANCH lie below that flag
reads_low : (w s k : ℕ) → READS_MEM / 2 ^ s % 2 ^ k ≡ 0 → bit_or w READS_MEM / 2 ^ s % 2 ^ k ≡ w / 2 ^ s % 2 ^ k
reads_low w s k h =
    ap (λ (n : ℕ). n % 2 ^ k) (or_shr w READS_MEM s)
    ∙ or_mod (w / 2 ^ s) (READS_MEM / 2 ^ s) k
    ∙ ap (bit_or (w / 2 ^ s % 2 ^ k)) h
    ∙ or_zero_r (w / 2 ^ s % 2 ^ k)

reads_sound : (w : ℕ) → sound w ≡ true → sound (bit_or w READS_MEM) ≡ true
unfolding sound
reads_sound w h =
    let x = bit_or w READS_MEM in
    let class : class_of x ≡ class_of w = or_mod w READS_MEM 2 ∙ or_zero_r (w % 4) in
    let clock : clocks_of x ≡ clocks_of w = reads_low w 2 5 refl in
    let branch : has x BRANCH ≡ has w BRANCH = meets_bit x 7 ∙ ap (λ (n : ℕ). eqb n 1) (reads_low w 7 1 refl) ∙ sym (meets_bit w 7) in
    rw (class, clock, branch) h

unclassified_sound : sound (entry_word unclassified) ≡ true
unfolding sound
unclassified_sound = refl

-- whichever row it is, the mended profile's word is sound where the crate's is
rows_sound : (op : ℕ) (i : Instruction) → sound i.word.0 ≡ true → every_row (λ (x : Instruction). sound x.word.0) (mended_rows op i) ≡ true
unfolding mended_rows
rows_sound op i h = rw (h, reads_sound i.word.0 h, unclassified_sound, word_sound (pack_for op), word_sound (on_register 0 op))

mended_sound : (op : ℕ) (i : Instruction) → sound i.word.0 ≡ true → sound (first (mended_rows op i)).word.0 ≡ true
mended_sound op i h = first_has (λ (x : Instruction). sound x.word.0) (mended_rows op i) (rows_sound op i h)

pub profile_sound : (P : Profile) → Sound (board_of P)
profile_sound Crate op = word_sound op
profile_sound Mended op = mended_sound op (crate_profile op) (word_sound op)

moveq_d0 : (P : Profile) → profile_of P 0x7000 ≡ moveq 1
unfolding classify_of group7 mask_of_regs sets_of mended_rows matches
moveq_d0 Crate = refl
moveq_d0 Mended = refl

moveq_d1 : (P : Profile) → profile_of P 0x7200 ≡ moveq 2
unfolding classify_of group7 mask_of_regs sets_of mended_rows matches
moveq_d1 Crate = refl
moveq_d1 Mended = refl

-- "shown once over the profile": each profile, over any cache
pub profile_demand3 : (P : Profile) (K : CacheRule) → K.Cache → Demand3 (record { profile = profile_of P; rule = K })
profile_demand3 P K c = demand3 (record { profile = profile_of P; rule = K }) (profile_sound P) c 0x7000 0x7200 (moveq_d0 P) (moveq_d1 P)

pub board_demand3 : (P : Profile) → Demand3 (board_of P)
board_demand3 P = profile_demand3 P crate_cache cache_fresh_of
