-- Document 01, "Records and images": "256 tags, 256 bytes, then open (0 or 1), def mask 2, bits"; and document 02, R-6:
-- "Images are now written as kind 17, payload 1,290, 1,294 bytes in all: the address (4) and opcode (2) follow the old
-- fields. Old kind 16 images are still read, head fields zero." The bytes of an image, each place once. The Rust has
-- none.
--
--   image_kind      ==  "kind 17"
--   image_payload   ==  "payload 1,290"
--   image_length    ==  the payload behind the 4 bytes of its header   "1,294 bytes in all"
--   old_kind        ==  "kind 16"
--   old_payload     ==  document 01: "payload 1,284"
--   old_length      ==  document 01: "1,288 bytes an image"
--   tags_place      ==  where the 256 tags start, 4 bytes each: behind the header
--   slots_place     ==  where the 256 bytes of the slots start
--   open_place      ==  where open stands
--   def_mask_place  ==  where the def mask stands, 2 bytes
--   bits_place      ==  where the bits stand, the last byte of kind 16
--   address_place   ==  where the head's address stands, 4 bytes: of kind 17 alone
--   opcode_place    ==  where the head's opcode stands, the last 2 bytes of kind 17
use Rattle.std.specs.Prelude.{ℕ}

abbrev pub image_kind : ℕ
image_kind = 17

abbrev pub image_payload : ℕ
image_payload = 1290

abbrev pub image_length : ℕ
image_length = 1294

abbrev pub old_kind : ℕ
old_kind = 16

abbrev pub old_payload : ℕ
old_payload = 1284

abbrev pub old_length : ℕ
old_length = 1288

abbrev pub tags_place : ℕ
tags_place = 4

abbrev pub slots_place : ℕ
slots_place = 1028

abbrev pub open_place : ℕ
open_place = 1284

abbrev pub def_mask_place : ℕ
def_mask_place = 1285

abbrev pub bits_place : ℕ
bits_place = 1287

abbrev pub address_place : ℕ
address_place = 1288

abbrev pub opcode_place : ℕ
opcode_place = 1292
