pub mod PagedLemmas
