-- A disk that was put in order.
use Rattle.std.proofs.Common.{Bool}
use Rattle.labelled_disk.proofs.LowestLemmas as lowest
use Rattle.label_laws.specs.Assembly.{RightByRoom}

pub right_by_room : (with_temporary : Bool) → RightByRoom with_temporary
right_by_room with_temporary d order = (
  λ right. right.files.room,
  λ room. record {
    has_root = order.has_root;
    has_maps = order.has_maps;
    files = record { accepted = order.has_root.accepted; whole_files = lowest.needed_are_whole with_temporary d order.needed; ids_given = order.ids_given; room = room };
  },
)
