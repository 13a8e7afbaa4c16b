-- Laws of following a path.
pub mod Follow
