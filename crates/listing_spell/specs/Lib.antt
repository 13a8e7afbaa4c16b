-- What a lent buffer holds after bytes were put into it.
pub mod Puts
