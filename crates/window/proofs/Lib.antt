pub mod RawLaws
pub mod Rules
