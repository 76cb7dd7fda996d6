pub mod Crc32Lemmas
pub mod UvarintLemmas
pub mod WordsLemmas
