-- Document 01, part 6, "Records and images": the image.
--
--   ImageLayout  ==  the bytes of an image, each place once
--   Bytes        ==  the parts of a state as bytes
--   Parts        ==  what stands in the bytes of an image
--   Wrong        ==  what is wrong with them
--   Image        ==  a state as bytes, and bytes as a state
--   Entries      ==  which images are refused, and what image writing and image reading give
pub mod ImageLayout
pub mod Bytes
pub mod Parts
pub mod Wrong
pub mod Image
pub mod Entries
