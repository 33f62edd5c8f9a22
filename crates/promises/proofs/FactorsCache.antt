-- What a retirement changes of the cache: nothing, or a byte under its address, made of its factors alone.
-- Assumes nothing.
use Prim.Native.Nat.{ℕ, ◌+◌}
use mathlib.Core.Path.{◌≡◌, refl, sym, ap, ◌∙◌}
use mathlib.Core.Bool.{Bool, true, false, not, cond, ◌&&◌}
use Rattle.std.specs.Prelude.{Option, Some, None}
use native.Mathlib.Omega.{arith}
use lib.Dec.{eqb}
use borrow.Author.Tests.{eqb-true, eqb-false}
use lib.ListN.{length}
use Rattle.bits.proofs.Bools.{and_right}
use Rattle.class_word.specs.Word.{has, BRANCH}
use Rattle.branch_cache.specs.declared.slot.Slot.{Slot}
use Rattle.branch_cache.specs.declared.BranchCache060.{BranchCache060}
use Rattle.branch_cache.specs.Slot.{counter_of, valid_of, byte_of, higher_of, hit_of, counter_after_of, update_of}
use Rattle.branch_cache.specs.Cache.{slot_at, slot_put, slot_of, cache_update_of}
use Rattle.branch_cache.proofs.Laws.{put_back, put_same, put_other}
use Rattle.window.specs.declared.dispatch.Instruction.{Instruction}
use Rattle.window.specs.declared.dispatch.Controls.{Controls}
use Rattle.cost.specs.Branch.{taken_of}
use Rattle.profile.specs.declared.Profile.{Profile}
use Rattle.profile.specs.Profile.{profile_of}
use Rattle.state.specs.declared.Oep060Timing.{Oep060Timing}
use Rattle.state.specs.declared.Retirement.{Retirement}
use Rattle.state.specs.Events.{cache_after}
use Rattle.state.specs.CrateCache.{crate_cache}
use Rattle.promises.specs.Factors.{BranchFactors, Factors, branch_factors_of, factors_of, coarse, holding}
use Rattle.promises.proofs.FactorsCost.{taken_by}

-- the byte that is put, if any
abbrev byte_by : Bool → Bool → ℕ → Bool → Option ℕ
byte_by hit taken byte user = cond hit (Some (higher_of byte + counter_after_of (counter_of byte) taken)) (cond taken (Some (byte_of 2 true user)) None)

abbrev pub byte_from : Instruction → Factors → Option BranchFactors → Option ℕ
byte_from i f None = None
byte_from i f (Some b) = cond (f.ebc && f.cached) (byte_by (valid_of b.byte && b.tag_equal) (taken_by i f b) b.byte (not f.supervisor)) None

abbrev pub changed : BranchCache060 → ℕ → Option ℕ → BranchCache060
changed c ppc None = c
changed c ppc (Some byte) = holding c ppc byte

abbrev met : BranchCache060 → ℕ → Slot
met c pc = slot_at c (slot_of pc)

module _ (c : BranchCache060) (pc : ℕ) (user : Bool) where
  -- a hit has the tag already, and a miss that is not taken puts back what it found
  put_by : (hit taken : Bool) → hit_of (met c pc) pc ≡ hit
      → slot_put c (slot_of pc)
      (cond hit (record { tag = (met c pc).tag; byte = higher_of (met c pc).byte + counter_after_of (counter_of (met c pc).byte) taken })
      (cond taken (record { tag = pc; byte = byte_of 2 true user }) (met c pc)))
      ≡ changed c pc (byte_by hit taken (met c pc).byte user)
  put_by true taken e =
      ap (λ (tag : ℕ). slot_put c (slot_of pc) (record { tag = tag; byte = higher_of (met c pc).byte + counter_after_of (counter_of (met c pc).byte) taken }))
      (eqb-true _ _ (and_right (valid_of (met c pc).byte) (eqb (met c pc).tag pc) e))
  put_by false true e = refl
  put_by false false e = put_back c (slot_of pc)

  update_is : (taken : Bool) → cache_update_of c pc taken user ≡ changed c pc (byte_by (hit_of (met c pc) pc) taken (met c pc).byte user)
  unfolding update_of
  update_is taken = put_by (hit_of (met c pc) pc) taken refl

module _ (P : Profile) (t : Oep060Timing) (r : Retirement) where
  abbrev i : Instruction
  i = profile_of P r.op

  abbrev k : Controls
  k = r.controls

  abbrev c : BranchCache060
  c = t.cache

  abbrev F : Factors
  F = coarse (factors_of P t r)

  asked_by : (asked taken : Bool)
      → cond asked (cache_update_of c k.ppc taken (not k.supervisor)) c
      ≡ changed c k.ppc (cond asked (byte_by (hit_of (met c k.ppc) k.ppc) taken (met c k.ppc).byte (not k.supervisor)) None)
  asked_by true taken = update_is c k.ppc (not k.supervisor) taken
  asked_by false taken = refl

  cache_by : (b : Bool)
      → cond (b && (k.ebc && k.cached)) (cache_update_of c k.ppc (taken_of i k) (not k.supervisor)) c
      ≡ changed c k.ppc (byte_from i F (cond b (Some (branch_factors_of c k)) None))
  unfolding taken_of
  cache_by true = asked_by (k.ebc && k.cached) (taken_of i k)
  cache_by false = refl

  pub cache_is : cache_after crate_cache c i k ≡ changed c k.ppc (byte_from i F F.branch)
  unfolding cache_after
  cache_is = cache_by (has i.word.0 BRANCH)

-- one byte put into both at one place leaves equal what was equal
module _ (c c' : BranchCache060) (ht : length c.tags ≡ 256) (hs : length c.state ≡ 256) (ht' : length c'.tags ≡ 256) (hs' : length c'.state ≡ 256)
    (pc n byte : ℕ) (e : slot_at c n ≡ slot_at c' n) where
  held_by : (b : Bool) → eqb n (slot_of pc) ≡ b → slot_at (holding c pc byte) n ≡ slot_at (holding c' pc byte) n
  held_by true q =
      let s : Slot = record { tag = pc; byte = byte } in
      rw (eqb-true n (slot_of pc) q) (put_same c (slot_of pc) s (omega arith) (omega arith) ∙ sym (put_same c' (slot_of pc) s (omega arith) (omega arith)))
  held_by false q =
      put_other c (slot_of pc) n _ (eqb-false n (slot_of pc) q) ∙ e ∙ sym (put_other c' (slot_of pc) n _ (eqb-false n (slot_of pc) q))

  pub held_same : slot_at (holding c pc byte) n ≡ slot_at (holding c' pc byte) n
  held_same = held_by (eqb n (slot_of pc)) refl
