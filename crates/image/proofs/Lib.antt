pub mod Writing
pub mod Refusals
pub mod Bits
pub mod WindowBack
pub mod WrittenRead
pub mod ReadWritten
pub mod RoundTrip
pub mod ImageBytesWriting
