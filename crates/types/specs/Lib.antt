pub mod Names
pub mod Records
pub mod Results
