pub mod Hex
pub mod Texts
pub mod Codecs
pub mod Hexes
