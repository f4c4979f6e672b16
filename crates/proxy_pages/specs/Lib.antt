pub mod Answers
pub mod Delays
pub mod Lines
pub mod Numbers
pub mod Pages
pub mod Replies
pub mod Routes
pub mod Table
