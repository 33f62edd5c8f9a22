-- What one retirement can be told apart by, its factors: the opcode; the five flags; of the window whether it is open,
-- which registers of its def mask the follower touches, CCR, memory, cached; of the raw count what the fallback makes
-- of it; and of a branch the slot's byte, whether its tag is equal, and whether pc is ppc + 4. Two retirements with
-- equal factors cost the same, hear the same answer of the cache, leave the same window, read without its head's
-- opcode and address, and do the same to the cache, each at its own address; at one address the windows are the same
-- whole, and the states then differ only where they differed before.
--
-- In each, p is the profile.
--   Factors                 ==  the factors, in this order
--   BranchFactors           ==  the last three, which only a branch has
--   touched_of i w          ==  the registers that the head of w defines, and that the follower i uses or defines
--   branch_factors_of c k   ==  the factors of a branch with the controls k, the cache being c: byte and tag are those
--                               of the slot that ppc goes to, and ppc + 4 is taken modulo 2^32
--   factors_of p t r        ==  the factors of the retirement r in the state t, whose window is taken as it is read
--   but f m c d e n         ==  the factors f, but for touched m, CCR c, memory d, cached e and the fallback n
--   one_for touched         ==  one register for any set of them, and none for none
--   coarse f                ==  the factors f, in which one register stands for any that are touched
--   of_branch f             ==  the factors f as a branch has them: of the window only whether it is open, and no
--                               fallback
--   with_fallback f n       ==  the factors f with the fallback n
--   Form                    ==  how the fallback enters a cost: `constant`, not at all; `apart`, with so much more and
--                               less; `floored`, the larger of it and 5
--   charged form n          ==  the cost of this form, the fallback being n
--   holding c ppc byte      ==  the cache c with this byte, under the tag ppc, in the slot that ppc goes to
--   SameChange p t t' r r'  ==  what r does to the cache of t, r' does to that of t'
--   SameStep p t t' r r'    ==  r in t and r' in t' cost the same, hear the same answer of the cache, leave the same
--                               window, read without its head's opcode and address, and do the same to the cache
--   EqualFactors p          ==  the facts, each for every two states and retirements
--
-- `InRange t` says what the code's types hold always: arrays of 256 elements, and numbers that fit.
use Rattle.std.specs.Prelude.{ℕ, ◌+◌, ◌-◌, ◌%◌, ◌^◌, max, ◌≡◌, Bool, true, false, cond, Option, Some, None, eqb}
use Rattle.std.specs.Int.Bits.{bit_and, bit_or}
use Rattle.class_word.specs.Word.{has, clocks, BRANCH}
use Rattle.branch_cache.specs.declared.BranchCache060.{BranchCache060}
use Rattle.branch_cache.specs.Cache.{slot_at, slot_put, slot_of}
use Rattle.window.specs.declared.dispatch.Instruction.{Instruction}
use Rattle.window.specs.declared.dispatch.Controls.{Controls}
use Rattle.window.specs.declared.Window.{Window}
use Rattle.window.specs.Windows.{seen, unnamed}
use Rattle.window.specs.Raw.{fallback_of}
use Rattle.profile.specs.declared.Profile.{Profile}
use Rattle.profile.specs.Profile.{profile_of}
use Rattle.state.specs.declared.Oep060Timing.{Oep060Timing}
use Rattle.state.specs.declared.Retirement.{Retirement}
use Rattle.step.specs.Boards.{stepped_of}
use Rattle.image.specs.Image.{InRange}

pub record BranchFactors : Type 0 where
  -- of a branch the slot's byte, whether its tag is equal, and whether pc is ppc + 4
  pub byte : ℕ
  pub tag_equal : Bool
  pub through : Bool

pub record Factors : Type 0 where
  -- the opcode
  pub op : ℕ
  -- the five flags
  pub flowed : Bool
  pub cached : Bool
  pub ess : Bool
  pub ebc : Bool
  pub supervisor : Bool
  -- of the window whether it is open
  pub opened : Bool
  -- which registers of its def mask the follower touches
  pub touched : ℕ
  -- CCR, memory, cached
  pub ccr : Bool
  pub mem : Bool
  pub warm : Bool
  -- of the raw count what the fallback makes of it
  pub fallback : ℕ
  -- of a branch its own
  pub branch : Option BranchFactors

abbrev pub touched_of : Instruction → Window → ℕ
touched_of i w = bit_and (bit_or i.uses i.defs) w.defs

abbrev pub branch_factors_of : BranchCache060 → Controls → BranchFactors
branch_factors_of c k =
    record {
      byte = (slot_at c (slot_of k.ppc)).byte;
      tag_equal = eqb (slot_at c (slot_of k.ppc)).tag k.ppc;
      through = eqb k.pc ((k.ppc + 4) % 2 ^ 32);
    }

abbrev pub factors_of : Profile → Oep060Timing → Retirement → Factors
factors_of p t r =
    record {
      op = r.op;
      flowed = r.controls.flowed;
      cached = r.controls.cached;
      ess = r.controls.ess;
      ebc = r.controls.ebc;
      supervisor = r.controls.supervisor;
      opened = (seen t.window).opened;
      touched = touched_of (profile_of p r.op) (seen t.window);
      ccr = (seen t.window).ccr;
      mem = (seen t.window).mem;
      warm = (seen t.window).warm;
      fallback = fallback_of r.controls.raw.0;
      branch =
          cond (has (profile_of p r.op).word.0 BRANCH) (Some (branch_factors_of t.cache r.controls)) None;
    }

abbrev pub but : Factors → ℕ → Bool → Bool → Bool → ℕ → Factors
but f touched ccr mem warm fallback =
    record {
      op = f.op;
      flowed = f.flowed;
      cached = f.cached;
      ess = f.ess;
      ebc = f.ebc;
      supervisor = f.supervisor;
      opened = f.opened;
      touched = touched;
      ccr = ccr;
      mem = mem;
      warm = warm;
      fallback = fallback;
      branch = f.branch;
    }

abbrev pub one_for : ℕ → ℕ
one_for touched = cond (eqb touched 0) 0 1

abbrev pub coarse : Factors → Factors
coarse f = but f (one_for f.touched) f.ccr f.mem f.warm f.fallback

abbrev pub of_branch : Factors → Factors
of_branch f = but f 0 false false false 0

abbrev pub with_fallback : Factors → ℕ → Factors
with_fallback f n = but f f.touched f.ccr f.mem f.warm n

pub data Form : Type 0 where
  constant : ℕ → Form
  apart : ℕ → ℕ → Form
  floored : Form

abbrev pub charged : Form → ℕ → ℕ
charged (constant cost) n = cost
charged (apart more less) n = n + more - less
charged floored n = max n 5

abbrev pub holding : BranchCache060 → ℕ → ℕ → BranchCache060
holding c ppc byte = slot_put c (slot_of ppc) (record { tag = ppc; byte = byte })

pub data SameChange (p : Profile) (t t' : Oep060Timing) (r r' : Retirement) : Type 0 where
  -- neither cache changes
  kept : (stepped_of p t r).timing.cache ≡ t.cache → (stepped_of p t' r').timing.cache ≡ t'.cache
      → SameChange p t t' r r'
  -- each gets the same byte, under its own address
  put : (byte : ℕ) → (stepped_of p t r).timing.cache ≡ holding t.cache r.controls.ppc byte
      → (stepped_of p t' r').timing.cache ≡ holding t'.cache r'.controls.ppc byte → SameChange p t t' r r'

pub record SameStep (p : Profile) (t t' : Oep060Timing) (r r' : Retirement) : Type 0 where
  -- they cost the same
  pub cost : (stepped_of p t r).cost ≡ (stepped_of p t' r').cost
  -- and hear the same answer of the cache
  pub answer : (stepped_of p t r).answer ≡ (stepped_of p t' r').answer
  -- and leave the same window, read without the head's opcode and address
  pub window : unnamed (stepped_of p t r).timing.window ≡ unnamed (stepped_of p t' r').timing.window
  -- both caches stay, or get the same byte
  pub cache : SameChange p t t' r r'
  -- of two at one address: the windows are the same whole
  pub whole : r.controls.ppc ≡ r'.controls.ppc
      → (stepped_of p t r).timing.window ≡ (stepped_of p t' r').timing.window
  -- and slots that were equal stay equal, so that the states differ only where they differed before
  pub slots : r.controls.ppc ≡ r'.controls.ppc → InRange t → InRange t' → (n : ℕ)
      → slot_at t.cache n ≡ slot_at t'.cache n
      → slot_at (stepped_of p t r).timing.cache n ≡ slot_at (stepped_of p t' r').timing.cache n

pub record EqualFactors (p : Profile) : Type 0 where
  pub equal : (t t' : Oep060Timing) (r r' : Retirement) → factors_of p t r ≡ factors_of p t' r' → SameStep p t t' r r'
  -- equal but for `touched`, which is 0 in both or in neither: one touched register stands for any set of them
  pub equal_but_touched : (t t' : Oep060Timing) (r r' : Retirement)
      → coarse (factors_of p t r) ≡ coarse (factors_of p t' r')
      → SameStep p t t' r r'
  -- of a branch, equal without what a branch has not
  pub equal_of_branch : (t t' : Oep060Timing) (r r' : Retirement) → has (profile_of p r.op).word.0 BRANCH ≡ true
      → of_branch (factors_of p t r) ≡ of_branch (factors_of p t' r')
      → SameStep p t t' r r'
  -- the fallback enters a cost in one form, which the other factors fix
  pub form : Factors → Form
  pub fallback_in_form : (t : Oep060Timing) (r : Retirement)
      → (stepped_of p t r).cost ≡ clocks (charged (form (with_fallback (coarse (factors_of p t r)) 0))
      (factors_of p t r).fallback)
  -- and enters nothing else
  pub equal_but_fallback : (t t' : Oep060Timing) (r r' : Retirement)
      → with_fallback (coarse (factors_of p t r)) 0 ≡ with_fallback (coarse (factors_of p t' r')) 0
      → (unnamed (stepped_of p t r).timing.window ≡ unnamed (stepped_of p t' r').timing.window)
      × SameChange p t t' r r' × ((stepped_of p t r).answer ≡ (stepped_of p t' r').answer)
