pub mod Answers
pub mod RowAnswers
pub mod PlanAnswers
