pub mod Moved
pub mod ReadEnd
pub mod SocketReader
pub mod WriteBuffer
pub mod SocketWriter
