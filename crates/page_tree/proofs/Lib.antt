mod Order
mod Levels
mod Descent
mod Splice
mod Once
mod Edit
mod Record
mod Carry
mod Room
mod Next
mod Fresh
mod Changed
mod Cells
mod Inner
mod Halves
mod OpenLaws
mod Taken
mod Head
mod ClimbLaws
mod SplitLaws
mod StepLaws
mod Put
mod Root
pub mod Grown
mod Moved
mod Low
mod Pair
mod PairLaws
mod Swapped
mod Due
mod PairOpen
mod Copied
mod Less
mod InnerLess
mod Rebalance
mod RebalanceEnds
mod InnerNamed
mod Shift
mod Fills
mod Emptied
pub mod Listed
pub mod MetLaws
pub mod FormLaws
pub mod WayLaws
pub mod RebalancingLaws
pub mod Listing
pub mod WalkLaws
mod Calls
mod Threads
mod WalkedLaws
mod PlacedLaws
mod CountLaws
mod IndexedLaws
mod CountedLaws
mod LeavesLaws
pub mod Unbroken
pub mod Recorded
mod Neighbours
mod Redistributed
mod Freed
mod Paired
mod KeyUpdated
mod NeedsUpdate
mod Found
mod Replaced
mod Renamed
mod Turned
mod TakenOut
mod NamedFirst
mod FirstOut
mod Single
mod Compared
