-- What holds of every machine.
use Rattle.std.specs.Prelude.{List, [], ◌∷◌, ◌&&◌, ◌≡◌, ◌≤◌, map, Some, IfSome, IsTrue, IsFalse}
use Rattle.std.specs.List.{list_any, AllByRecursion}
use Rattle.flat_machine.specs.Space.{FilePage, root, overlap, space_at, is_mapped}
use Rattle.flat_machine.specs.Machine.{Machine, AreAscending, IsAscending, IsFileId, IsFile, IsSpace, IsWindow, EachTwo, used, are_siblings, shares_anonymous, is_shown_writable}
use Rattle.flat_machine.specs.Next.{is_same_page}

-- no page stands there twice
abbrev pub AreOnce : List FilePage → Type 0
AreOnce [] = Unit {0}
AreOnce (u ∷ us) = IsFalse (list_any (is_same_page u) us) × AreOnce us

-- Two spaces that share a page lie on one path from the root, one above the other.
pub record IsMachine (m : Machine) : Type 0 where
  pub serial_fits : (1 ≤ m.serial) × (m.serial ≤ 4294967295)
  pub counter_fits : (1 ≤ m.counter) × (m.counter ≤ 4294967295)
  pub ids_rise : AreAscending m.files
  pub ids_given : AllByRecursion (λ f. IsFileId m.serial m.counter f.id) m.files
  pub whole_files : AllByRecursion IsFile m.files
  pub room : used m ≤ m.capacity
  pub has_root : space_at m.spaces 0 ≡ Some root
  pub handles_rise : IsAscending (map (λ s. s.handle) m.spaces)
  pub whole_spaces : AllByRecursion (IsSpace m.spaces) m.spaces
  pub siblings_apart : EachTwo (λ s t. IsTrue (are_siblings s t) → IsFalse (overlap s t)) m.spaces
  pub one_mapped_on_a_path : EachTwo (λ s t. IsTrue (is_mapped s && is_mapped t) → IsFalse (overlap s t)) m.spaces
  pub whole_windows : AllByRecursion (λ s. IfSome s.window (IsWindow m.files s.pages)) m.spaces
  pub anonymous_alone : EachTwo (λ s t. IsFalse (shares_anonymous s t)) m.spaces
  pub unforced_shown : AllByRecursion (λ u. IsTrue (is_shown_writable m.spaces u)) m.unforced
  pub unforced_once : AreOnce m.unforced
