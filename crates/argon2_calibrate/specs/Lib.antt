pub mod Answer
pub mod Choice
