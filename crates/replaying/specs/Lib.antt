-- What the replay prints. The tool is the project's own, beside document 01's cost lister.
--
--   HexLines  ==  an image in lines of hexadecimal
--   HeadLine  ==  the head of a window in a line
--   Replay    ==  the replay's whole output
--   Inner     ==  what the functions inside answer; nothing of it enters the promise of `replay_text`
pub mod Replay
pub mod Inner
pub mod HexLines
pub mod HeadLine
