-- What is shown, as a window, and the first space that shows a file.
use Rattle.std.specs.Prelude.{◌≡◌, ℕ, Bool, not, ◌&&◌, ◌||◌, ◌==◌, List, Option, Some, None, find}
use Rattle.flat_machine.specs.declared.space.Space.{Space}
use Rattle.flat_machine.specs.declared.space.Window.{Window}
use Rattle.flat_machine.specs.Space.{has_window}
use Rattle.projection_laws.specs.Stored.{slot_in}
use Rattle.space_tables.specs.declared.shown.Shown.{Shown}
use Rattle.space_tables.specs.Form.{slot_record}

abbrev pub window_of : Shown → Window
window_of s = record { file = s.id; first = s.page; writable = s.writable; anonymous = s.anonymous }

-- the space shows the file, or shows it through a writable window where that is asked
abbrev pub shows : ℕ → Bool → Space → Bool
shows id writable_only s = has_window (λ w. w.file == id && (not writable_only || w.writable)) s

-- the record of the handle has a space that shows this
pub record IsShownAt (b : List ℕ) (handle : ℕ) (shown : Shown) : Type 0 where
  pub space : Space
  pub there : slot_in handle (slot_record b handle) ≡ Some space
  pub window : space.window ≡ Some (window_of shown)

-- the record of the handle has a space with these pages: the first one, and how many
pub record IsRunAt (b : List ℕ) (handle : ℕ) (run : ℕ × ℕ) : Type 0 where
  pub space : Space
  pub there : slot_in handle (slot_record b handle) ≡ Some space
  pub pages : run ≡ (space.first, space.pages)

-- the handle of the first space that passes the test, with what it shows; or none where none passes
abbrev pub IsFirstWith : (Space → Bool) → List Space → Option (ℕ × Shown) → Type 0
IsFirstWith test ss None = find test ss ≡ None
IsFirstWith test ss (Some at) = (s : Space) × (find test ss ≡ Some s) × (s.handle ≡ at.0) × (s.window ≡ Some (window_of at.1))
