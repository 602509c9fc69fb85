-- What a pair shows between its calls, and what lines leave of it.
use Rattle.std.specs.Prelude.{◌≡◌, Bool, true}
use Rattle.labelled_disk.specs.declared.disk.Disk.{Ghosts}
use Rattle.filer_kernel.specs.View.{View, view_of}
use Rattle.file_manager.specs.declared.volume.Volume.{Volume}
use Rattle.pair_machine.specs.Pair as machine
use Rattle.volume_pair.specs.Kept.{IsOnlyRead}
use Rattle.volume_pair.specs.Pairs.{IsInUse, IsPaired}
use Rattle.volume_pair.specs.declared.pair.Pair.{Pair}
use Rattle.pair_session.specs.Causes.{IsPermitted}

-- both volumes, the one in use, and whether it may be asked
pub record PairView : Type 0 where
  pub from : View
  pub to : View
  pub volume : Volume
  pub running : Bool

module _ {D E A : Type 0} {G : Ghosts D} {H : Ghosts E} where
  abbrev pub shown : Pair D E A G H → PairView
  shown s = record { from = view_of s.from; to = view_of s.to; volume = s.volume; running = s.running }

-- Over any contents, the pair may be asked.
pub record MayBeAsked (v : PairView) : Type 0 where
  pub in_use : IsInUse v.from v.to v.volume
  pub running : v.running ≡ true

-- both volumes have the lists of the machine
abbrev pub StandsFor : PairView → machine.Pair → Type 0
StandsFor v p = IsPaired v.from v.to v.volume p

-- Over any contents: the first disk was only read, each write of the second was permitted, and its volume has the root of before.
pub record GoesOn (v w : PairView) : Type 0 where
  pub from : IsOnlyRead v.from.disk w.from.disk
  pub to : IsPermitted v.to.disk w.to.disk
  pub same_root : w.volume.root ≡ v.volume.root
