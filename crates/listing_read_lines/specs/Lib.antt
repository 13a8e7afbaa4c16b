-- What reading a listing promises.
pub mod Contract
