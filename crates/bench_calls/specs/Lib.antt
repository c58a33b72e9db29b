pub mod Fronts
pub mod BenchPromises
pub mod BenchLaws
