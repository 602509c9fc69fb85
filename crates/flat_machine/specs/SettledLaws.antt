-- The settled files, one by one and page by page.
use Rattle.std.specs.Prelude.{◌≡◌, ℕ, List, option_and_then, option_map, slice_get, if◌then◌else◌}
use Rattle.std.specs.Bool.{then_some}
use Rattle.flat_machine.specs.File.{File, file_at, any_page}
use Rattle.flat_machine.specs.Space.{FilePage}
use Rattle.flat_machine.specs.Machine.{Machine}
use Rattle.flat_machine.specs.IsMachine.{IsMachine}
use Rattle.flat_machine.specs.Settled.{settled, settled_file, is_unforced}

-- the settled file of an identifier is that of the machine's, if this one is permanent
abbrev pub SettledByIdentifier : Type 0
SettledByIdentifier = (m : Machine) (id : ℕ) → IsMachine m
    → file_at (settled m) id ≡ option_and_then (λ f. then_some f.permanent (settled_file m.unforced f)) (file_at m.files id)

-- a page of a settled file is any where it is unforced, and else as it was
abbrev pub SettledByPage : Type 0
SettledByPage = (unforced : List FilePage) (f : File) (page : ℕ)
    → slice_get (settled_file unforced f).pages page ≡ (if is_unforced unforced f.id page then option_map (λ p. any_page) (slice_get f.pages page) else slice_get f.pages page)
