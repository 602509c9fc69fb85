mod HaltingLemmas
mod AskedLemmas
mod SeenLemmas
