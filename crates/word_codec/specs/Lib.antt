pub mod Crc32
pub mod Uvarint
pub mod Zigzag
