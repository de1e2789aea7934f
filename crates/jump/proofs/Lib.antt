pub mod AnyPlan
pub mod Listed
pub mod Laws
pub mod Jump
pub mod Answers
pub mod Inside
pub mod Handled
