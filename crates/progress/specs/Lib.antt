pub mod SmallNumbers
pub mod Had
pub mod Outstanding
pub mod Carried
pub mod TwoEnds
pub mod Joint
pub mod Counting
