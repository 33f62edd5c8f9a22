-- What the tools read before they work.
--
--   Input  ==  how much of the lent bytes standard input filled
--   Words  ==  the profile that a word names, and what the words of `why` ask for
pub mod Input
pub mod Words
