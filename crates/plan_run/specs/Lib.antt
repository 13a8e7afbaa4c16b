-- What a reconciliation of three tables answers, and what it leaves in each lent buffer.
pub mod Answer
pub mod Run
pub mod Steps
