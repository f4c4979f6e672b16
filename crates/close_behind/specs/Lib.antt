pub mod CloseBehind
