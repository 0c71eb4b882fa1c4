pub mod TestLaws
pub mod JobLaws
mod LeastTurns
pub mod Jobs
pub mod LifeLaws
mod TidyLaws
pub mod Tidy
pub mod Kept
pub mod CallLaws
