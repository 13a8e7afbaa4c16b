-- Step has what a step of the loop does; Node what one entry is spelled as; Spelled that all of them are spelled as the folder is.
pub mod Step
pub mod Node
pub mod Spelled
