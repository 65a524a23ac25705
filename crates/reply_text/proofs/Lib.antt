mod AnswerLemmas
mod EscapeLemmas
mod ListPuts
mod ReplyLemmas
pub mod TellLemmas
