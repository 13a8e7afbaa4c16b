-- What writing a table promises.
pub mod Contract
