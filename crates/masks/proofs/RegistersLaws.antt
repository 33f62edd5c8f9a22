-- Masks that stand for sets of registers: the or of two is the union, a shifted 1 is one register, and a mask's bits are the set again.
-- Assumes nothing.
use mathlib.Core.Path.{◌≡◌, refl, ap, ap₂, sym, ◌∙◌}
use mathlib.Core.Bool.{Bool, true, false, ◌||◌}
use Prim.Native.Nat.{ℕ, zero, suc, ◌+◌, ◌*◌, ◌/◌, ◌%◌, ◌^◌, ◌<◌, max}
use native.Mathlib.Nat.{pow-suc, le_of_suc-le-suc, not-suc-le-zero}
use native.Mathlib.Numerals.{one-add}
use native.Mathlib.Omega.{arith}
use lib.Dec.{eqb, eqb-zero-suc, eqb-suc-zero, eqb-suc-suc}
use lib.Bits.{bit_or, or_step}
use lib.Pow.{shr-shr, pow-lt}
use Rattle.bits.specs.Words.{num, bit}
use Rattle.bits.proofs.Words.{num_small, num_is}
use Rattle.masks.specs.Registers.{Regs, register, none, all, union, digits_of, mask_of_regs}

-- the lowest digit, and the rest
half : (a : ℕ) (b : Bool) → (a * 2 + num b) / 2 ≡ a
half a b = omega (arith, num_small b)

odd : (a : ℕ) (b : Bool) → (a * 2 + num b) % 2 ≡ num b
odd a b = omega (arith, num_small b)

max_num : (a b : Bool) → max (num a) (num b) ≡ num (a || b)
max_num true true = refl
max_num true false = refl
max_num false true = refl
max_num false false = refl

digits_same : (k : ℕ) (s t : Regs) → ((i : ℕ) → s i ≡ t i) → digits_of k s ≡ digits_of k t
digits_same zero s t h = refl
digits_same (suc k) s t h = ap₂ (λ (a : ℕ) (b : Bool). a * 2 + num b) (digits_same k (λ i. s (suc i)) (λ i. t (suc i)) (λ i. h (suc i))) (h 0)

digits_none : (k : ℕ) → digits_of k none ≡ 0
digits_none zero = refl
digits_none (suc k) = ap (λ (a : ℕ). a * 2 + 0) (digits_none k)

digits_or : (k : ℕ) (s t : Regs) → bit_or (digits_of k s) (digits_of k t) ≡ digits_of k (union s t)
digits_or zero s t = refl
digits_or (suc k) s t =
    let a = digits_of k (λ i. s (suc i)) in
    let b = digits_of k (λ i. t (suc i)) in
    or_step (a * 2 + num (s 0)) (b * 2 + num (t 0)) ∙ rw (half a (s 0), half b (t 0), odd a (s 0), odd b (t 0), max_num (s 0) (t 0), digits_or k (λ i. s (suc i)) (λ i. t (suc i)))

digits_register : (k n : ℕ) → n < k → digits_of k (register n) ≡ 2 ^ n
digits_register zero n h = absurd (not-suc-le-zero h)
digits_register (suc k) zero h = ap (λ (a : ℕ). a * 2 + 1) (digits_same k (λ i. eqb (suc i) 0) none (λ i. eqb-suc-zero i) ∙ digits_none k)
digits_register (suc k) (suc n) h =
    ap₂ (λ (a : ℕ) (b : Bool). a * 2 + num b) (digits_same k (λ i. eqb (suc i) (suc n)) (register n) (λ i. eqb-suc-suc i n) ∙ digits_register k n (le_of_suc-le-suc h)) (eqb-zero-suc n)
    ∙ (let p : 2 ^ suc n ≡ 2 ^ n * 2 = pow-suc 2 n in omega arith)

digits_bit : (k i : ℕ) (s : Regs) → i < k → bit i (digits_of k s) ≡ s i
digits_bit zero i s h = absurd (not-suc-le-zero h)
digits_bit (suc k) zero s h =
    ap (λ (a : ℕ). eqb a 1) (let z = digits_of k (λ i. s (suc i)) in let q : (z * 2 + num (s 0)) / 1 % 2 ≡ num (s 0) = omega (arith, num_small (s 0)) in q) ∙ num_is (s 0)
digits_bit (suc k) (suc i) s h =
    ap (λ (a : ℕ). eqb (a % 2) 1) down ∙ digits_bit k i (λ j. s (suc j)) (le_of_suc-le-suc h)
  where
    w : ℕ
    w = digits_of k (λ j. s (suc j))

    down : (w * 2 + num (s 0)) / 2 ^ suc i ≡ w / 2 ^ i
    down =
        ap (λ (n : ℕ). (w * 2 + num (s 0)) / 2 ^ n) (sym (one-add i)) ∙ sym (shr-shr (w * 2 + num (s 0)) 1 i) ∙ ap (λ (n : ℕ). n / 2 ^ i) (half w (s 0))

pub mask_or : (s t : Regs) {a b : ℕ} → a ≡ mask_of_regs s → b ≡ mask_of_regs t → bit_or a b ≡ mask_of_regs (union s t)
unfolding mask_of_regs
mask_or s t h k = rw (h, k) (digits_or 16 s t)

mask_same : (s t : Regs) → ((i : ℕ) → s i ≡ t i) → mask_of_regs s ≡ mask_of_regs t
unfolding mask_of_regs
mask_same s t h = digits_same 16 s t h

or_swap : (a b : Bool) → (a || b) ≡ (b || a)
or_swap true true = refl
or_swap true false = refl
or_swap false true = refl
or_swap false false = refl

or_none : (a : Bool) → (a || false) ≡ a
or_none true = refl
or_none false = refl

-- the other way round, and with nothing
pub mask_or_swap : (s t : Regs) {a b : ℕ} → a ≡ mask_of_regs s → b ≡ mask_of_regs t → bit_or b a ≡ mask_of_regs (union s t)
mask_or_swap s t h k = mask_or t s k h ∙ mask_same (union t s) (union s t) (λ i. or_swap (t i) (s i))

-- the code's 1 << n
pub mask_only : (m : ℕ) {n : ℕ} → n ≡ m → m < 16 → 1 * 2 ^ n % 65536 ≡ mask_of_regs (register m)
unfolding mask_of_regs
mask_only m e h =
    let p : 2 ^ m < 2 ^ 16 = pow-lt h in
    let q : 1 * 2 ^ m % 65536 ≡ 2 ^ m = omega arith in
    rw e (q ∙ sym (digits_register 16 m h))

pub mask_bit : (s : Regs) (i : ℕ) → i < 16 → bit i (mask_of_regs s) ≡ s i
unfolding mask_of_regs
mask_bit s i h = digits_bit 16 i s h

pub mask_none : 0 ≡ mask_of_regs none
unfolding mask_of_regs
mask_none = refl

pub mask_or_none : (s : Regs) {a : ℕ} → a ≡ mask_of_regs s → bit_or a 0 ≡ mask_of_regs s
mask_or_none s h = mask_or s none h mask_none ∙ mask_same (union s none) s (λ i. or_none (s i))

pub mask_all : 65535 ≡ mask_of_regs all
unfolding mask_of_regs
mask_all = refl
