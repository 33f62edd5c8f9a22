-- What `rule_page` prints. Document 02, R-3: "A page is printed from it."
--
--   Page   ==  the whole page: read it first
--   Lines  ==  its lines
--   Names  ==  the names of operand modes and of flags
--   Each   ==  texts of numbers, one behind the other
pub mod Page
pub mod Lines
pub mod Names
pub mod Each
