-- What a client is revealed of a file.
use Rattle.std.specs.Prelude.{◌≡◌, ◌<◌, ℕ, Bool, Option, option_map}
use Rattle.labelled_disk.specs.declared.label.Label.{Label}
use Rattle.labelled_disk.specs.Label.{is_permanent, leader_page}
use Rattle.labelled_disk.specs.State.{DiskState, HasLabel}
use Rattle.session_words.specs.Parts.{Shape}
use Rattle.file_manager.specs.declared.attributes.Attributes.{Attributes}

-- the shape that they reveal
abbrev pub shape_revealed : Attributes → Shape
shape_revealed a = record { kind = a.kind; permanent = a.permanent; immutable = a.immutable; size = a.pages }

-- they are those of the file of this shape, or there is none
abbrev pub IsAttributesOf : Option Shape → Option Attributes → Type 0
IsAttributesOf shape revealed = shape ≡ option_map shape_revealed revealed

-- Whatever the maps say: a sector after the root has the label of a leader of the file, a permanent one's or not.
pub record HasLeader (disk : DiskState) (id : ℕ) (permanent : Bool) : Type 0 where
  pub sector : ℕ
  pub after_root : 0 < sector
  pub label : Label
  pub there : HasLabel disk sector label
  pub own : label.id ≡ id
  pub leads : label.page ≡ leader_page
  pub marked : is_permanent label ≡ permanent
