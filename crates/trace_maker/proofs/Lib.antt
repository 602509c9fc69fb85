pub mod CallLemmas
pub mod FixedLemmas
mod KnownLemmas
pub mod RoomLemmas
