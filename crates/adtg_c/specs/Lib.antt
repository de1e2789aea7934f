pub mod FileAnswers
pub mod PlanAnswers
pub mod FedAnswers
pub mod PageAnswers
pub mod Versions
