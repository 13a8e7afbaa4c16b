-- What syncplan prints for three texts.
pub mod Printed
pub mod Tables
pub mod Cases
