-- The rows of tests of calls that read the spaces alone, and what passing them gives.
use Rattle.std.specs.Prelude.{◌≡◌, ℕ, Bool, if◌then◌else◌, List, [], ◌∷◌, Option, None}
use Rattle.flat_machine.specs.declared.call.Call.TheVariants.{MakeSpace, RemoveSpace, Place, Units, Map, MapAnonymous, Unmap, Protect}
use Rattle.flat_machine.specs.declared.space.Space.{Space}
use Rattle.flat_machine.specs.Machine.{Machine}
use Rattle.flat_machine.specs.Refusal.{Test, first_of, no_size, no_unit, is_root, past_root, no_file, past_end, is_immutable, shows_immutable, no_room_for_space, no_ids, refusal}
pub use Rattle.flat_machine.specs.Refusal.{no_space, no_spaces, no_place, has_children, self_mapped, path_mapped, not_mapped}
pub use Rattle.flat_machine.specs.Next.{new_space as made}
use Rattle.projection_laws.specs.Spaces.{AreSpaces, MayBeAdded, MayBeRemoved, MayHaveWindow}

-- The rows of calls on spaces.

abbrev pub add_row : List Space → ℕ → ℕ → Option ℕ → List Test
add_row ss parent pages first = no_space ss parent ∷ no_size pages ∷ no_spaces ss ∷ no_place ss parent pages first ∷ []

abbrev pub remove_row : List Space → ℕ → List Test
remove_row ss handle = no_space ss handle ∷ is_root handle ∷ has_children ss handle ∷ self_mapped ss handle ∷ []

abbrev pub unit_row : List Space → ℕ → ℕ → List Test
unit_row ss handle pages = no_space ss handle ∷ is_root handle ∷ no_unit pages ∷ []

-- of a call that maps a space, those that read the spaces alone
abbrev pub map_row : List Space → ℕ → List Test
map_row ss handle = no_space ss handle ∷ is_root handle ∷ path_mapped ss handle ∷ []

-- of a call on a window
abbrev pub window_row : List Space → ℕ → List Test
window_row ss handle = no_space ss handle ∷ not_mapped ss handle ∷ []

-- The rows are those of a machine's calls; where a call has more tests, the word of the row stands before these. `map` asks
-- for the file between the two halves of its row.
pub record TestsAgree (m : Machine) : Type 0 where
  pub add : (parent pages : ℕ) (first : Option ℕ) → refusal m (MakeSpace parent pages first) ≡ first_of (add_row m.spaces parent pages first)
  pub remove : (h : ℕ) → refusal m (RemoveSpace h) ≡ first_of (remove_row m.spaces h)
  pub units : (h pages : ℕ) → refusal m (Units h pages) ≡ first_of (unit_row m.spaces h pages)
  pub place : (page : ℕ) → refusal m (Place page) ≡ first_of (past_root page ∷ [])
  pub map : (h id page : ℕ) (writable : Bool) → refusal m (Map h id page writable)
      ≡ first_of (no_space m.spaces h ∷ is_root h ∷ no_file m id ∷ first_of (map_row m.spaces h) ∷ past_end m h id page ∷ (if writable then is_immutable m id else None) ∷ [])
  pub map_anonymous : (h : ℕ) → refusal m (MapAnonymous h) ≡ first_of (first_of (map_row m.spaces h) ∷ no_room_for_space m h ∷ no_ids m ∷ [])
  pub unmap : (h : ℕ) → refusal m (Unmap h) ≡ first_of (window_row m.spaces h)
  pub protect : (h : ℕ) (writable : Bool) → refusal m (Protect h writable) ≡ first_of (first_of (window_row m.spaces h) ∷ (if writable then shows_immutable m h else None) ∷ [])

abbrev pub TestsOnSpaces : Type 0
TestsOnSpaces = (m : Machine) → TestsAgree m

-- What passing the tests gives.

abbrev pub AddPasses : Type 0
AddPasses = (ss : List Space) (parent pages : ℕ) (first : Option ℕ) → AreSpaces ss → first_of (add_row ss parent pages first) ≡ None
    → (p : Space) × (p.handle ≡ parent) × MayBeAdded ss (made ss parent pages first) p

abbrev pub RemovePasses : Type 0
RemovePasses = (ss : List Space) (handle : ℕ) → AreSpaces ss → first_of (remove_row ss handle) ≡ None
    → (x : Space) × (p : Space) × (x.handle ≡ handle) × MayBeRemoved ss x p

abbrev pub MapPasses : Type 0
MapPasses = (ss : List Space) (handle : ℕ) → AreSpaces ss → first_of (map_row ss handle) ≡ None → (x : Space) × (x.handle ≡ handle) × MayHaveWindow ss x

abbrev pub WindowPasses : Type 0
WindowPasses = (ss : List Space) (handle : ℕ) → AreSpaces ss → first_of (window_row ss handle) ≡ None → (x : Space) × (x.handle ≡ handle) × MayHaveWindow ss x
