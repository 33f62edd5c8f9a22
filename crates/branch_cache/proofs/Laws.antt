-- What document 01 says of hits, misses, updates and clears, as laws of a slot and of the whole cache on plain values.
-- Assumes nothing.
use mathlib.Core.Path.{◌≡◌, refl, ap, ◌∙◌}
use mathlib.Core.Bool.{Bool, true, false, ◌&&◌, and-false}
use Prim.Native.Nat.{ℕ, zero, suc, ◌<◌}
use native.Mathlib.Omega.{arith}
use lib.ListN.{length, get_or, replicate, length-set, length-replicate, length-map, get_or-map}
use lib.Seq.{set-get_or, get_or-set_same, get_or-set_other}
use borrow.Author.Tests.{ne_eqb}
use Rattle.branch_cache.specs.declared.slot.Slot.{Slot}
use Rattle.std.specs.Prelude.{None}
use Rattle.branch_cache.specs.Slot.{valid_of, user_of, hit_of, update_of}
use Rattle.branch_cache.proofs.SlotLaws.{slot_miss_predicts, slot_miss_keeps}
use Rattle.branch_cache.specs.declared.BranchCache060.{BranchCache060}
use Rattle.branch_cache.specs.Cache.{slot_of, slot_at, slot_put, clear_all_of, clear_user_byte_of, clear_user_of, cache_predict_of, cache_update_of}

-- a slot

-- a tag that belongs to another slot than pc does
pub slot_foreign_misses : (slot : Slot) (pc : ℕ) → (slot_of slot.tag ≡ slot_of pc → ⊥) → hit_of slot pc ≡ false
slot_foreign_misses slot pc f =
    ap (λ (t : Bool). valid_of slot.byte && t) (ne_eqb slot.tag pc (λ (e : slot.tag ≡ pc). f (ap slot_of e)))
    ∙ and-false (valid_of slot.byte)

-- one slot of the cache read and put

pub put_back : (c : BranchCache060) (n : ℕ) → slot_put c n (slot_at c n) ≡ c
unfolding slot_put slot_at
put_back c n = simp set-get_or

pub put_same : (c : BranchCache060) (n : ℕ) (slot : Slot) → n < length c.tags → n < length c.state → slot_at (slot_put c n slot) n ≡ slot
unfolding slot_put slot_at
put_same c n slot ht hs = rw (get_or-set_same c.tags n slot.tag 0 ht, get_or-set_same c.state n slot.byte 0 hs)

pub put_other : (c : BranchCache060) (m n : ℕ) (slot : Slot) → (n ≡ m → ⊥) → slot_at (slot_put c m slot) n ≡ slot_at c n
unfolding slot_put slot_at
put_other c m n slot d = rw (get_or-set_other c.tags m n slot.tag 0 d, get_or-set_other c.state m n slot.byte 0 d)

pub put_lengths : (c : BranchCache060) (n : ℕ) (slot : Slot)
    → (length (slot_put c n slot).tags ≡ length c.tags) × (length (slot_put c n slot).state ≡ length c.state)
unfolding slot_put
put_lengths c n slot = (length-set c.tags n slot.tag, length-set c.state n slot.byte)

-- the cache at the branch at pc

module _ (c : BranchCache060) (pc : ℕ) where
  pub cache_miss_predicts : hit_of (slot_at c (slot_of pc)) pc ≡ false → cache_predict_of c pc ≡ None
  cache_miss_predicts m = slot_miss_predicts (slot_at c (slot_of pc)) pc m

  pub cache_foreign_misses : (slot_of (slot_at c (slot_of pc)).tag ≡ slot_of pc → ⊥) → cache_predict_of c pc ≡ None
  cache_foreign_misses f = cache_miss_predicts (slot_foreign_misses (slot_at c (slot_of pc)) pc f)

  pub cache_miss_keeps : (user : Bool) → hit_of (slot_at c (slot_of pc)) pc ≡ false → cache_update_of c pc false user ≡ c
  cache_miss_keeps user m = ap (slot_put c (slot_of pc)) (slot_miss_keeps (slot_at c (slot_of pc)) pc user m) ∙ put_back c (slot_of pc)

  module _ (taken user : Bool) where
    pub cache_update_same : length c.tags ≡ 256 → length c.state ≡ 256
        → slot_at (cache_update_of c pc taken user) (slot_of pc) ≡ update_of (slot_at c (slot_of pc)) pc taken user
    cache_update_same ht hs = put_same c (slot_of pc) (update_of (slot_at c (slot_of pc)) pc taken user) (omega arith) (omega arith)

    pub cache_update_other : (n : ℕ) → (n ≡ slot_of pc → ⊥) → slot_at (cache_update_of c pc taken user) n ≡ slot_at c n
    cache_update_other n d = put_other c (slot_of pc) n (update_of (slot_at c (slot_of pc)) pc taken user) d

    pub cache_update_lengths : (length (cache_update_of c pc taken user).tags ≡ length c.tags) × (length (cache_update_of c pc taken user).state ≡ length c.state)
    cache_update_lengths = put_lengths c (slot_of pc) (update_of (slot_at c (slot_of pc)) pc taken user)

-- clears

zeros_at : (m n : ℕ) → ◌≡◌ {A = ℕ} (get_or (replicate m 0) n 0) 0
zeros_at zero n = refl
zeros_at (suc m) zero = refl
zeros_at (suc m) (suc n) = zeros_at m n

module _ (c : BranchCache060) where
  pub clear_all_tags : (clear_all_of c).tags ≡ c.tags
  clear_all_tags = refl

  pub clear_user_tags : (clear_user_of c).tags ≡ c.tags
  clear_user_tags = refl

  pub clear_all_length : length (clear_all_of c).state ≡ 256
  clear_all_length = length-replicate {A = ℕ} 256 0

  pub clear_user_length : length (clear_user_of c).state ≡ length c.state
  clear_user_length = length-map c.state clear_user_byte_of

  module _ (n : ℕ) where
    pub clear_all_at : slot_at (clear_all_of c) n ≡ record { tag = (slot_at c n).tag; byte = 0 }
    unfolding slot_at
    clear_all_at = rw (zeros_at 256 n)

    pub clear_user_at : slot_at (clear_user_of c) n ≡ record { tag = (slot_at c n).tag; byte = clear_user_byte_of (slot_at c n).byte }
    unfolding slot_at
    clear_user_at = rw (get_or-map clear_user_byte_of c.state n 0)

    pub clear_all_misses : (pc : ℕ) → hit_of (slot_at (clear_all_of c) n) pc ≡ false
    clear_all_misses pc = ap (λ (slot : Slot). hit_of slot pc) clear_all_at

    pub clear_user_spares : user_of (slot_at c n).byte ≡ false → slot_at (clear_user_of c) n ≡ slot_at c n
    clear_user_spares f = clear_user_at ∙ simp f

    pub clear_user_zeroes : user_of (slot_at c n).byte ≡ true → (slot_at (clear_user_of c) n).byte ≡ 0
    clear_user_zeroes t = ap (λ (slot : Slot). slot.byte) clear_user_at ∙ simp t
