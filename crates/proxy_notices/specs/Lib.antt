pub mod ClientPlace
pub mod HostBits
pub mod Places
pub mod UnseenParts
