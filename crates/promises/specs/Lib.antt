-- The tender's demands and the facts of documents 01 and 02, as statements about the definitions of the crates below.
--
--   Opcodes      ==  what holds of every opcode's class word
--   Rules        ==  what holds of every rule of the proofreader's table and page
--   Worked       ==  the worked instructions that are proved
--   Retirements  ==  what holds of every retirement, break and clear
--   Factors      ==  what can be told apart of one retirement, and that no more counts
--   Demand3      ==  demand 3: time moves
--   Moving       ==  demand 3 of each profile, and of every trace and batch
--   Traces       ==  what holds of every run of a trace
--   Batches      ==  what holds of every batch
--   Images       ==  what holds of every state image
--   Answers      ==  what holds of the cache's answers that steps, runs and batches tell
--   Why          ==  what holds of every retirement's reason, and of the runs that tell it
--   OldRuns      ==  steps, runs and batches before they told an answer, and that no cost moved
--   OldReader    ==  the reader of images before kind 17, and what it meets
--   Heads        ==  what holds of the head's opcode and address
--   OverPairing  ==  a pair whose follower touches what its head writes
--   Profiles     ==  what holds of the mended profile beside the crate's
--   Determined   ==  one answer at each input
--   ByHand       ==  that of four functions whose promise is written by hand once more
pub mod Opcodes
pub mod Rules
pub mod Worked
pub mod Retirements
pub mod Factors
pub mod Demand3
pub mod Moving
pub mod Traces
pub mod Batches
pub mod Images
pub mod Answers
pub mod Why
pub mod OldRuns
pub mod OldReader
pub mod Heads
pub mod OverPairing
pub mod Profiles
pub mod Determined
pub mod ByHand
