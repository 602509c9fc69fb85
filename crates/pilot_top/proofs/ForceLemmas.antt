-- What the settled files of the machine have in common since the disk was synced stays where the power goes.
use Rattle.std.proofs.Common.{◌≡◌, ℕ, ◌+◌, ◌-◌, ◌<◌, ◌≤◌, Bool, true, false, List, [], ◌∷◌, map, length, Option, Some, None, refl, sym, ◌∙◌, ap, subst, arith, length-take}
use Rattle.std.specs.Prelude.{option_map, slice_get, take}
use Rattle.std.specs.List.{AllZip}
use Rattle.std.proofs.lemmas.List.{length-drop}
use Rattle.std.proofs.lemmas.Option.{same_Some, slice_get_within}
use Rattle.labelled_disk.specs.declared.disk.DiskWrite.{DiskWrite}
use Rattle.labelled_disk.specs.Ascending.{BothBy}
use Rattle.labelled_disk.specs.CrashState.{crash_state}
use Rattle.labelled_disk.specs.File.{File, Page, byte, file_at, size}
use Rattle.labelled_disk.specs.FilesOn.{disk_file, files_on}
use Rattle.labelled_disk.specs.Root.{counter_of, serial_of}
use Rattle.labelled_disk.specs.Sectors.{Sector}
use Rattle.labelled_disk.specs.State.{DiskState}
use Rattle.labelled_disk.proofs.LowestLemmas as lowest_files
use Rattle.labelled_disk.proofs.WriteLemmas as laws
use Rattle.label_laws.specs.Shape.{BareFile, SameShape, bare_file}
use Rattle.cut_laws.specs.Cut.{AtSome, IsCut, IsCutSince, unit}
use Rattle.cut_laws.specs.CutLaws.{between}
use Rattle.cut_laws.specs.ShapeLaws.{IsWholeOn}
use Rattle.cut_laws.specs.OneCrashState.{HasUnitsOfCrashStates, IsResizedAlone}
use Rattle.cut_laws.proofs.CommonLemmas.{file_of_shape}
use Rattle.cut_laws.proofs.CrashStateLemmas.{get_some}
use Rattle.cut_laws.proofs.CutLemmas.{window_laws}
use Rattle.cut_laws.proofs.ResizedLemmas.{resized_of_one}
use Rattle.cut_laws.proofs.StayLemmas.{none_appears}
use Rattle.cut_laws.proofs.UnitLemmas.{same_units}
use Rattle.cut_laws.proofs.WholeLemmas.{right_is_whole}
use Rattle.flat_machine.specs.After.{TraceLine}
use Rattle.flat_machine.specs.Machine.{Machine}
use Rattle.flat_machine.specs.Settled.{CellAgrees, FileAgrees, PageAgrees, settled}
use Rattle.session_words.specs.StandsFor.{RevealsSettled}
use Rattle.session_words.proofs.SameLabelLemmas.{zip_at, zip_long, zip_looked}
use Rattle.pilot_top.specs.CrashStates.{CrashStates, staged}
use Rattle.pilot_top.proofs.RevealedShapes.{permanent_there}
use Rattle.pilot_top.specs.Forcing.{AtEach, HasForced, HasNoneSettled, HasSettled, HasSettledSize, IsOfType, KeepsForced}

-- cells that agree with bytes are these
cells_are : (cells : Page) (bytes : List ℕ) → AllZip CellAgrees cells (map byte bytes) → cells ≡ map byte bytes
cells_are [] [] agree = refl
cells_are [] (b ∷ bytes) agree = absurd agree
cells_are (c ∷ cells) [] agree = absurd agree
cells_are (c ∷ cells) (b ∷ bytes) agree = λ i. agree.0 i ∷ cells_are cells bytes agree.1 i

-- the file on a disk for a settled one of the machine
settled_on : (e : List Sector) (m : Machine) (id : ℕ) (f : File) → RevealsSettled e m → file_at (settled m) id ≡ Some f → (g : File) × (disk_file false e id ≡ Some g) × FileAgrees g f
settled_on e m id f reveals is = by (file_at (files_on e) id) refl (subst (λ (o : Option File). BothBy FileAgrees (file_at (files_on e) id) o) is (zip_looked FileAgrees (λ g h agree. agree.same_id) (files_on e) (settled m) reveals.agrees id))
  where
    by : (o : Option File) → file_at (files_on e) id ≡ o → BothBy FileAgrees (file_at (files_on e) id) (Some f) → (g : File) × (disk_file false e id ≡ Some g) × FileAgrees g f
    by None none both = absurd (subst (λ (o : Option File). BothBy FileAgrees o (Some f)) none both)
    by (Some g) found both = (g, sym (laws.look_up false 0 0 e id) ∙ found, subst (λ (o : Option File). BothBy FileAgrees o (Some f)) found both)

-- nor is there one on the disk where the machine has none
none_on : (e : List Sector) (m : Machine) (id : ℕ) → RevealsSettled e m → file_at (settled m) id ≡ None → disk_file false e id ≡ None
none_on e m id reveals is = by (file_at (files_on e) id) refl (subst (λ (o : Option File). BothBy FileAgrees (file_at (files_on e) id) o) is (zip_looked FileAgrees (λ g h agree. agree.same_id) (files_on e) (settled m) reveals.agrees id))
  where
    by : (o : Option File) → file_at (files_on e) id ≡ o → BothBy FileAgrees (file_at (files_on e) id) None → disk_file false e id ≡ None
    by None found both = sym (laws.look_up false 0 0 e id) ∙ found
    by (Some g) found both = absurd (subst (λ (o : Option File). BothBy FileAgrees o None) found both)

-- a page that was forced stands on the disk
pub forced_on : (e : List Sector) (m : Machine) (id page : ℕ) (bytes : List ℕ) → RevealsSettled e m → (f : File) → HasForced id page bytes m → disk_file false e id ≡ Some f → slice_get f.pages page ≡ Some (map byte bytes)
forced_on e m id page bytes reveals f forced is =
    let g = settled_on e m id forced.0 reveals forced.1 in
    let agree = g.2.pages_agree in
    let below : page < size g.0 = let long = zip_long PageAgrees g.0.pages forced.0.pages agree in let within = slice_get_within forced.0.pages page (map byte bytes) forced.2 in omega (arith, long, within) in
    let q = get_some g.0.pages page below in
    ap (λ (h : File). slice_get h.pages page) (same_Some f g.0 (sym is ∙ g.1)) ∙ q.1
    ∙ ap (λ (c : Page). Some c) (cells_are q.0 bytes (zip_at PageAgrees g.0.pages forced.0.pages agree page q.0 (map byte bytes) q.1 forced.2))

module _ (m : Machine) (lines : List TraceLine) (d : List Sector) {a c : DiskState} (states : CrashStates m lines a c) (revealed : a.contents ≡ Some d) (id s k : ℕ) (e : List Sector) (ordered : s ≤ k) (few : k ≤ length states.writes)
    (cut : IsCut d states.writes s k e) where
  abbrev now : ℕ → List Sector
  now i = crash_state d states.writes i

  abbrev place : ℕ → Machine
  place i = staged m lines (states.line i) (states.step i)

  abbrev first : List Sector
  first = crash_state d states.writes s

  abbrev since : List DiskWrite
  since = between s k states.writes

  reveals : (i : ℕ) → RevealsSettled (now i) (place i)
  reveals i = (states.each d i revealed).revealed

  cut_since : IsCutSince first since e
  cut_since = window_laws.cut d states.writes s k e ordered cut

  many_since : length since ≡ k - s
  many_since =
      let rest = length-drop s (take k states.writes) in
      let taken = length-take k states.writes in
      omega (arith, rest, taken, few)

  state_at : (j : ℕ) → j ≤ length since → crash_state first since j ≡ now (s + j)
  state_at j below = window_laws.crash_states d states.writes s k j (let many = many_since in omega (arith, below, many, ordered))

  file_at_state : (j : ℕ) → j ≤ length since → disk_file false (crash_state first since j) id ≡ disk_file false (now (s + j)) id
  file_at_state j below = ap (λ (x : List Sector). disk_file false x id) (state_at j below)

  -- a crash state since is one of these
  by_then : (j : ℕ) → j ≤ length since → s + j ≤ k
  by_then j below = let many = many_since in omega (arith, below, many, ordered)

  -- where no place has the file
  none_in_cut : AtEach m lines states.line states.step s k (HasNoneSettled id) → disk_file false e id ≡ None
  none_in_cut each =
      none_appears false first since e id cut_since (λ j below. file_at_state j below ∙ none_on (now (s + j)) (place (s + j)) id (reveals (s + j)) (each (s + j) (omega arith) (by_then j below)))

  -- a page that was forced stands on each of these disks
  forced_at : (page : ℕ) (bytes : List ℕ) (i : ℕ) (f : File) → HasForced id page bytes (place i) → disk_file false (now i) id ≡ Some f → slice_get f.pages page ≡ Some (map byte bytes)
  forced_at page bytes i f = forced_on (now i) (place i) id page bytes (reveals i) f

  -- Where each place has it, of one type.
  module _ (kind : ℕ) (immutable : Bool) (shaped : AtEach m lines states.line states.step s k (HasSettled id kind immutable)) where
    abbrev bare : BareFile
    bare = record { id = id; kind = kind; permanent = true; immutable = immutable; pages = 0 }

    -- the file in each crash state
    there : (i : ℕ) → s ≤ i → i ≤ k → (g : File) × (disk_file false (now i) id ≡ Some g) × HasSettledSize id (size g) (place i) × (bare_file g ≡ record bare { pages = size g })
    there i low high =
        let f = shaped i low high in
        let g = settled_on (now i) (place i) id f.0 (reveals i) f.1 in
        let ids : g.0.id ≡ id = ((lowest_files.files_are_as_revealed false (now i)).revealed id g.0 g.1).1 in
        let kinds : g.0.kind ≡ kind = g.2.same_kind ∙ f.2.0 in
        let marks : g.0.permanent ≡ true = permanent_there (now i) id g.0 g.1 in
        let fixed : g.0.immutable ≡ immutable = g.2.same_immutable ∙ f.2.1 in (
          g.0,
          g.1,
          (f.0, f.1, sym (zip_long PageAgrees g.0.pages f.0.pages g.2.pages_agree)),
          λ n. record { id = ids n; kind = kinds n; permanent = marks n; immutable = fixed n; pages = size g.0 },
        )

    whole_at : (j : ℕ) → j ≤ length since → IsWholeOn (crash_state first since j) id
    whole_at j below =
        let g = there (s + j) (omega arith) (by_then j below) in
        subst (λ (x : List Sector). IsWholeOn x id) (sym (state_at j below)) (right_is_whole false (serial_of (now (s + j))) (counter_of (now (s + j))) (now (s + j)) id g.0 (reveals (s + j)).right.files g.1)

    resized : IsResizedAlone false id first since
    resized = (bare, λ j below. let g = there (s + j) (omega arith) (by_then j below) in (g.0, file_at_state j below ∙ g.1, g.3))

    of_one : AtSome 0 (length since) (λ j. SameShape false (crash_state first since j) e id) × HasUnitsOfCrashStates false id first since 0 (length since) e
    of_one = resized_of_one false first since e id cut_since whole_at resized

    in_cut : (h : File) × (disk_file false e id ≡ Some h) × IsOfType kind immutable h × AtSome s k (λ i. HasSettledSize id (size h) (place i))
    in_cut =
        let one = of_one.0 in
        let few_since : one.0 ≤ length since = one.2 in
        let g = there (s + one.0) (omega arith) (by_then one.0 few_since) in
        let h = file_of_shape false e id (bare_file g.0) (one.3 ∙ ap (λ (o : Option File). option_map bare_file o) (file_at_state one.0 few_since ∙ g.1)) in
        let sizes : size g.0 ≡ size h.0 = sym (ap (λ (b : BareFile). b.pages) h.2) in (
          h.0,
          h.1,
          (ap (λ (b : BareFile). b.kind) (h.2 ∙ g.3), ap (λ (b : BareFile). b.immutable) (h.2 ∙ g.3)),
          (s + one.0, omega arith, by_then one.0 few_since, subst (λ (n : ℕ). HasSettledSize id n (place (s + one.0))) sizes g.2),
        )

    -- a page with the same bytes at each place
    same_pages : (page : ℕ) (bytes : List ℕ) → AtEach m lines states.line states.step s k (HasForced id page bytes) → slice_get in_cut.0.pages page ≡ Some (map byte bytes)
    same_pages page bytes each =
        let own = of_one.1 page in_cut.0 in_cut.1 (λ j f low below is. slice_get_within f.pages page (map byte bytes) (forced_then j f below is)) in
        own.1 ∙ ap (λ (c : Page). Some c) (same_units own.0 (map byte bytes) (λ u.
        let some = own.2 u in
        let unit_there = some.3 in
        sym unit_there.4 ∙ ap (unit u) (same_Some unit_there.2 (map byte bytes) (sym unit_there.3 ∙ forced_then some.0 unit_there.0 some.2 unit_there.1))))
      where
        forced_then : (j : ℕ) (f : File) → j ≤ length since → disk_file false (crash_state first since j) id ≡ Some f → slice_get f.pages page ≡ Some (map byte bytes)
        forced_then j f below is = forced_at page bytes (s + j) f (each (s + j) (omega arith) (by_then j below)) (sym (file_at_state j below) ∙ is)

    kept : (f : File) × (disk_file false e id ≡ Some f) × IsOfType kind immutable f
        × AtSome s k (λ i. HasSettledSize id (size f) (place i))
        × ((page : ℕ) (bytes : List ℕ) → AtEach m lines states.line states.step s k (HasForced id page bytes) → slice_get f.pages page ≡ Some (map byte bytes))
    kept = let h = in_cut in (h.0, h.1, h.2, h.3, same_pages)

-- of a run
pub keeps_forced : (m : Machine) (lines : List TraceLine) (d : List Sector) {a c : DiskState} → CrashStates m lines a c → a.contents ≡ Some d → KeepsForced m lines d a c
keeps_forced m lines d states revealed = record {
  places = states;
  files = λ at id kind s k immutable e ordered few cut shaped. kept m lines d at revealed id s k e ordered few cut kind immutable shaped;
  no_other = λ at id s k e ordered few cut each. none_in_cut m lines d at revealed id s k e ordered few cut each;
}
