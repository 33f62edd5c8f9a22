-- Image writing and image reading, on lent numbers. Document 01, "Records and images", and document 02, R-6. The Rust
-- has none.
--
--   HostImage                  ==  what image writing returns, together with every lent byte afterwards; the state's
--                                  numbers are only looked at
--   host_image ran image       ==  these two
--   host_image_of o            ==  the same of the outcome of image writing: the count is the bytes written, the total
--                                  0
--   image_write_at_of l image  ==  the image of the lent numbers l into the lent bytes image
--                                  "Image writing answers 1,288 bytes written, or 0 if refused", which are 1,294 now
--   HostState                  ==  what image reading returns, together with every lent number afterwards
--   host_state ran l           ==  these two
--   host_state_of o            ==  the same of the answer of image reading: count and total are 0
--   image_read_at_of image     ==  the state of an image, as lent numbers
--                                  "Refused image reading returns a fresh state (zeros, window shut)"
use Rattle.std.specs.Prelude.{ℕ, List}
use Rattle.image.specs.declared.ImageRead.{ImageRead}
use Rattle.image.specs.Entries.{ImageOutcome, image_write_of, write_verdict, bytes_written, image_read_of}
use Rattle.host.specs.declared.results.HostRan.{HostRan}
use Rattle.in_place.specs.Lent.{Lent, state_at, lent_of}
use Rattle.host.specs.HostRan.{host_ran_of}

pub record HostImage : Type 0 where
  pub ran : HostRan
  pub image : List ℕ

abbrev pub host_image : HostRan → List ℕ → HostImage
host_image ran image = record { ran = ran; image = image }

abbrev pub host_image_of : ImageOutcome → HostImage
host_image_of o = host_image (host_ran_of (write_verdict o.answer) (bytes_written o.answer) 0) o.lent

abbrev pub image_write_at_of : Lent → List ℕ → HostImage
image_write_at_of l image = host_image_of (image_write_of (state_at l) image)

pub record HostState : Type 0 where
  pub ran : HostRan
  pub lent : Lent

abbrev pub host_state : HostRan → Lent → HostState
host_state ran l = record { ran = ran; lent = l }

abbrev pub host_state_of : ImageRead → HostState
host_state_of o = host_state (host_ran_of o.verdict 0 0) (lent_of o.timing)

abbrev pub image_read_at_of : List ℕ → HostState
image_read_at_of image = host_state_of (image_read_of image)
