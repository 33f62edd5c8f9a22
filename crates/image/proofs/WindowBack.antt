-- A window and its head, put behind the slots, are read back as they were, and are right.
use mathlib.Core.Path.{◌≡◌, refl, ◌∙◌}
use mathlib.Core.Bool.{Bool, true, false, cond}
use mathlib.Core.List.{List, [], ◌++◌, append_assoc, append-nil}
use Prim.Native.Nat.{ℕ, ◌+◌, ◌^◌, ◌<◌}
use native.Mathlib.Omega.{arith}
use lib.ListN.{length, length-append}
use borrow.Author.Tests.{lt-leb}
use Rattle.bits.specs.Words.{num}
use Rattle.bits.proofs.Words.{num_small, num_is}
use Rattle.little_endian.specs.Numbers.{number_at, bytes_of}
use Rattle.little_endian.proofs.Numbers.{number_behind, number_bytes}
use Rattle.window.specs.declared.Window.{Window}
use Rattle.window.specs.Windows.{shut, seen}
use Rattle.image.specs.Bytes.{bits_of, window_bytes, head_bytes}
use Rattle.image.specs.Parts.{open_at, def_mask_at, bits_at, has_head, address_at, opcode_at, image_window_of}
use Rattle.image.specs.Wrong.{window_wrong}
use Rattle.image.proofs.Bits.{bits_small, bits_apart}

-- what holds of a window's numbers in the types of the code
pub record Small (w : Window) : Type 0 where
  pub mask : w.defs < 2 ^ 16
  pub opcode : w.op < 2 ^ 16
  pub address : w.address < 2 ^ 32

pub seen_small : (w : Window) → Small w → Small (seen w)
seen_small w h = go w.opened
  where
    go : (o : Bool) → Small (cond o w shut)
    go true = h
    go false = record { mask = omega arith; opcode = omega arith; address = omega arith }

-- a window and its head behind 1,284 bytes
module _ (front : List ℕ) (long : length front ≡ 1284) (w : Window) (small : Small w) where
  abbrev image : List ℕ
  image = front ++ window_bytes w ++ head_bytes w

  place : (k m : ℕ) → number_at k image (1284 + m) ≡ number_at k (window_bytes w ++ head_bytes w) m
  place k m = rw (← long, append_assoc front (window_bytes w) (head_bytes w)) (number_behind k front (window_bytes w ++ head_bytes w) m)

  open_back : open_at image ≡ num w.opened
  open_back =
      place 1 0
      ∙ simp append_assoc (number_bytes 1 (num w.opened) (bytes_of 2 w.defs ++ (bytes_of 1 (bits_of w) ++ head_bytes w)) (omega (arith, num_small w.opened)))

  mask_back : def_mask_at image ≡ w.defs
  unfolding bytes_of
  mask_back =
      place 2 1
      ∙ number_behind 2 (bytes_of 1 (num w.opened)) (bytes_of 2 w.defs ++ (bytes_of 1 (bits_of w) ++ head_bytes w)) 0
      ∙ number_bytes 2 w.defs (bytes_of 1 (bits_of w) ++ head_bytes w) small.mask

  bits_back : bits_at image ≡ bits_of w
  unfolding bytes_of
  bits_back =
      place 1 3
      ∙ number_behind 1 (bytes_of 1 (num w.opened) ++ bytes_of 2 w.defs) (bytes_of 1 (bits_of w) ++ head_bytes w) 0
      ∙ number_bytes 1 (bits_of w) (head_bytes w) (omega (arith, bits_small w))

  new : has_head image ≡ true
  unfolding bytes_of
  new = rw (length-append (front ++ window_bytes w) (head_bytes w), length-append front (window_bytes w), long)

  address_back : address_at image ≡ w.address
  unfolding bytes_of
  address_back =
      rw new
      (place 4 4
      ∙ number_behind 4 (window_bytes w) (head_bytes w) 0
      ∙ number_bytes 4 w.address (bytes_of 2 w.op) small.address)

  opcode_back : opcode_at image ≡ w.op
  unfolding bytes_of
  opcode_back =
      rw new
      (place 2 8
      ∙ number_behind 2 (window_bytes w ++ bytes_of 4 w.address) (bytes_of 2 w.op) 0
      ∙ rw (← append-nil (bytes_of 2 w.op)) (number_bytes 2 w.op [] small.opcode))

  pub window_back : image_window_of image ≡ w
  unfolding image_window_of
  window_back =
      simp (
        open_back,
        mask_back,
        bits_back,
        address_back,
        opcode_back,
        num_is w.opened,
        (bits_apart w).0,
        (bits_apart w).1,
        (bits_apart w).2,
      )

-- the fields of a window as it is read are right
module _ (front : List ℕ) (long : length front ≡ 1284) where
  -- an open window, and the shut one
  opened_right : (w : Window) → Small w → w.opened ≡ true → window_wrong (front ++ window_bytes w ++ head_bytes w) ≡ false
  unfolding window_wrong
  opened_right w small e = rw (open_back front long w small, bits_back front long w small) (simp (e, lt-leb _ _ (bits_small w)))

  shut_right : window_wrong (front ++ window_bytes shut ++ head_bytes shut) ≡ false
  unfolding window_wrong bits_of
  shut_right =
      let small : Small shut = record { mask = omega arith; opcode = omega arith; address = omega arith } in
      rw (
        open_back front long shut small,
        mask_back front long shut small,
        bits_back front long shut small,
        address_back front long shut small,
        opcode_back front long shut small,
      )

  pub window_right : (w : Window) → Small w → window_wrong (front ++ window_bytes (seen w) ++ head_bytes (seen w)) ≡ false
  window_right w small = go w.opened refl
    where
      go : (o : Bool) → w.opened ≡ o → window_wrong (front ++ window_bytes (cond o w shut) ++ head_bytes (cond o w shut)) ≡ false
      go true e = opened_right w small e
      go false e = shut_right
