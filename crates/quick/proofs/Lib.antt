pub mod MapRules
pub mod WayLaws
pub mod StepLaws
pub mod WordLaws
