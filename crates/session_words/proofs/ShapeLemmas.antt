-- Files whose shapes stay.
use Rattle.std.proofs.Common.{◌≡◌, ℕ, ◌+◌, Bool, true, false, List, [], ◌∷◌, map, Option, Some, None, refl, sym, ◌∙◌, ap, length-set}
use Rattle.std.specs.Prelude.{slice_set, slice_index_or, option_map, ◌==◌, if◌then◌else◌}
use Rattle.std.specs.Option.{option_map_or}
use Rattle.std.proofs.lemmas.Option.{same_Some, none-some}
use Rattle.labelled_disk.specs.File.{File, byte, file_at}
use Rattle.flat_machine.specs.declared.space.Space.{Space}
use Rattle.flat_machine.specs.At.{Spot, spot_at}
use Rattle.flat_machine.specs.Next.{change_file, with_byte, store_byte, store_bytes}
use Rattle.flat_machine.proofs.FileLemmas.{look_up_changed, one_id}
use Rattle.session_words.specs.Parts.{Shape, shape_of, shapes_of}

-- Files of the same shapes.

pub shapes_map : (g : File → File) → ((f : File) → (g f).id ≡ f.id) → ((f : File) → shape_of (g f) ≡ shape_of f) → (files : List File) → shapes_of (map g files) ≡ shapes_of files
shapes_map g ids same files = λ i id. each id i
  where
    either : (o : Option File) → option_map shape_of (option_map g o) ≡ option_map shape_of o
    either None = refl
    either (Some f) = ap (λ (s : Shape). Some s) (same f)

    each : (id : ℕ) → shapes_of (map g files) id ≡ shapes_of files id
    each id = ap (λ (o : Option File). option_map shape_of o) (look_up_changed g ids files id) ∙ either (file_at files id)

one_shape : (id : ℕ) (c : File → File) → ((f : File) → shape_of (c f) ≡ shape_of f) → (f : File) → shape_of (if f.id == id then c f else f) ≡ shape_of f
one_shape id c same f = either (f.id == id)
  where
    either : (b : Bool) → shape_of (if b then c f else f) ≡ shape_of f
    either true = same f
    either false = refl

byte_shape : (spot : Spot) (b : ℕ) (f : File) → shape_of (with_byte spot b f) ≡ shape_of f
byte_shape spot b f = λ i. record { kind = f.kind; permanent = f.permanent; immutable = f.immutable; size = length-set f.pages spot.page (slice_set (slice_index_or f.pages spot.page []) spot.offset (byte b)) i }

pub stored_shapes : (spaces : List Space) (bytes : List ℕ) (address : ℕ) (files : List File) → shapes_of (store_bytes spaces address bytes files) ≡ shapes_of files
stored_shapes spaces [] address files = refl
stored_shapes spaces (b ∷ bs) address files = stored_shapes spaces bs (address + 1) (store_byte spaces address b files) ∙ either (spot_at spaces address)
  where
    either : (o : Option Spot) → shapes_of (option_map_or (λ spot. change_file spot.file (with_byte spot b) files) o files) ≡ shapes_of files
    either None = refl
    either (Some spot) = shapes_map (λ f. if f.id == spot.file then with_byte spot b f else f) (one_id spot.file (with_byte spot b) (λ f. refl)) (one_shape spot.file (with_byte spot b) (byte_shape spot b)) files

-- a file that is found among changed ones was one before
pub changed_from : (g : File → File) → ((f : File) → (g f).id ≡ f.id) → (files : List File) (id : ℕ) (f : File) → file_at (map g files) id ≡ Some f → (was : File) × (file_at files id ≡ Some was) × (f ≡ g was)
changed_from g ids files id f is = either (file_at files id) refl
  where
    now : option_map g (file_at files id) ≡ Some f
    now = sym (look_up_changed g ids files id) ∙ is

    either : (o : Option File) → file_at files id ≡ o → (was : File) × (file_at files id ≡ Some was) × (f ≡ g was)
    either None e = absurd (none-some f (sym (ap (λ (o : Option File). option_map g o) e) ∙ now))
    either (Some was) e = (was, e, sym (same_Some (g was) f (sym (ap (λ (o : Option File). option_map g o) e) ∙ now)))
