-- A session's close: the pages of the space tables and of temporary files are freed, and what stays can be opened.
use Rattle.std.specs.Prelude.{ℕ, Bool, false, not, ◌||◌, ◌==◌, List, length, slice_get}
use Rattle.std.specs.Option.{option_map_or}
use Rattle.labelled_disk.specs.File.{File, file_at}
use Rattle.labelled_disk.specs.Sectors.{Sector}
use Rattle.flat_machine.specs.declared.call.Call.TheVariants.{Close}
use Rattle.flat_machine.specs.Machine.{Machine}
use Rattle.flat_machine.specs.Next.{next}
use Rattle.session_words.specs.Parts.{HasRoot, TablesMeaning}
use Rattle.session_words.specs.FreeLaws.{Frees}
use Rattle.session_words.specs.OpenLaws.{CanOpen}
use Rattle.session_words.specs.StandsFor.{IsFor, RevealsSettled}

-- the page is one of the space tables, or of a temporary file
abbrev pub is_closing : List File → ℕ → ℕ → Bool
is_closing files id page = id == 3 || option_map_or (λ f. not f.permanent) (file_at files id) false

-- the volume can be opened again, its root has the numbers of the machine, and its files are the settled ones of the
-- machine after the close
pub record IsClosed (m : Machine) (y : List Sector) : Type 0 where
  pub can_open : CanOpen y
  pub root : HasRoot (length y) (slice_get y 0) m.serial m.counter m.capacity
  pub revealed : RevealsSettled y (next m Close)

abbrev pub Closed : TablesMeaning → Type 0
Closed spaces_of = (x y : List Sector) (m : Machine) → IsFor spaces_of x m → Frees (is_closing m.files) x y → IsClosed m y
