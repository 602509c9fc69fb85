-- That a volume is open is shown in one way alone.
use Rattle.std.specs.Prelude.{ℕ}
use Rattle.std.proofs.Math.Nat.{ℕ_set}
use Rattle.std.specs.Coded.{le_prop}
use Rattle.labelled_disk.specs.declared.layout.Layout.{Layout}
use Rattle.file_manager.specs.declared.volume.Volume.{Volume}
use Rattle.running_words.specs.Session.{IsOpen}

layout_set : IsSet Layout
layout_set = hlevel ℕ_set

pub is_open_once : (layout : Layout) (volume : Volume) → IsProp (IsOpen layout volume)
is_open_once layout volume = hlevel (le_prop, ℕ_set, layout_set)
