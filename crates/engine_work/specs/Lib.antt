pub mod EngineError
pub mod Works
