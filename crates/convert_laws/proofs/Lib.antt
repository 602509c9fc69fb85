pub mod WriteLemmas
pub mod RereadCounts
mod RootForm
pub mod ConvertedLemmas
pub mod ForLemmas
mod ExampleLemmas
