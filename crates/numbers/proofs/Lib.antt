pub mod Coding
pub mod Writing
pub mod Listed
pub mod Trips
pub mod Forms
pub mod WriterExamples
pub mod Walking
