pub mod RecordAnswers
pub mod Unjudged
pub mod Answers
pub mod ReadWords
pub mod WriteWords
