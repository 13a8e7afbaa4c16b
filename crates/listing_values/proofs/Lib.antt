-- Laws of values: keywords, sizes, digests.
mod Keywords
mod Sizes
mod Digests
