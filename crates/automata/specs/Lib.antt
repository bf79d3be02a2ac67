pub mod Below
pub mod Automata
pub mod Simulation
pub mod Reduction
pub mod Labels
pub mod Book
pub mod Minimal
pub mod Theorems
