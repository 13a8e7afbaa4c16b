-- Laws of places: Scan has one more byte of each scan, Tests what comparisons tell of a byte, Plain places past plain bytes,
-- Body a line in which a word has begun, Next the next line and the next word.
pub mod Scan
pub mod Tests
pub mod Plain
mod Body
pub mod Next
