-- What a look says of a disk, and how the disk stands.
use Rattle.std.proofs.Common.{◌≡◌, ◌⊎◌, inl, inr, ℕ, zero, suc, ◌+◌, ◌-◌, Bool, true, false, not, ◌&&◌, List, [], ◌∷◌, length, Option, Some, None, Result, Ok, Err, refl, sym, ◌∙◌, ap, subst, arith}
use Rattle.std.specs.Prelude.{slice_get, if◌then◌else◌}
use Rattle.std.specs.List.{AllByRecursion}
use Rattle.std.specs.Option.{option_map_or}
use Rattle.std.proofs.lemmas.Bool.{true≢false, false≢true}
use Rattle.std.proofs.lemmas.Option.{none-some, same_Some}
use Rattle.labelled_disk.specs.declared.layout.RootFault.{RootFault}
use Rattle.labelled_disk.specs.File.{File, total_room}
use Rattle.labelled_disk.specs.FilesOn.{files_on}
use Rattle.labelled_disk.specs.Label.{is_free}
use Rattle.labelled_disk.specs.Layout.{first_data, data_sectors, capacity}
use Rattle.labelled_disk.specs.Lowest.{is_needed}
use Rattle.labelled_disk.specs.Right.{IsGiven}
use Rattle.labelled_disk.specs.Root.{IsRoot, short_at, number_at, serial_of, counter_of, root_page, page_in}
use Rattle.labelled_disk.specs.Sectors.{Sector}
use Rattle.label_laws.specs.Counts.{places, needs_place, unneeded_sectors}
use Rattle.label_laws.specs.SoundParts.{IsSoundButRoom, SoundByRoom}
use Rattle.label_laws.specs.Unneeded.{AreFreeOrNeeded}
use Rattle.label_laws.proofs.CountLemmas.{rooms}
use Rattle.volume_root.specs.declared.root.Root.{Root}
use Rattle.volume_root.specs.RootLaws.{ValidIsJudged}
use Rattle.volume_root.specs.RootPage.{judged, root_in}
use Rattle.volume_root.specs.Sound.{Sound}
use Rattle.volume_view.specs.declared.files.FileLine.{FileLine}
use Rattle.volume_view.specs.declared.view.View.{View}
use Rattle.volume_view.specs.Files.{AreLinesOf}
use Rattle.volume_view.specs.Order.{HasRoot, IsClosed, IsGivenBy, AreGivenBy, AreGiven, SaysRight, SaysPlaced, closed_by}
use Rattle.volume_view.specs.View.{IsView}
use Rattle.volume_view.proofs.LayoutLemmas.{of_layout}

-- ---- sectors that would be freed

none_pass : (test : ℕ → Sector → Bool) (n : ℕ) (xs : List Sector) → ((j : ℕ) (s : Sector) → slice_get xs j ≡ Some s → test (n + j) s ≡ false) → length (places test n xs) ≡ 0
none_pass test n [] h = refl
none_pass test n (s ∷ xs) h =
    let here : n + 0 ≡ n = omega arith in
    ap (λ (b : Bool). length (if b then n ∷ places test (n + 1) xs else places test (n + 1) xs)) (ap (λ (m : ℕ). test m s) (sym here) ∙ h 0 s refl)
    ∙ none_pass test (n + 1) xs (λ j t at. let there : n + 1 + j ≡ n + suc j = omega arith in ap (λ (m : ℕ). test m t) there ∙ h (suc j) t at)

missed : (b : Bool) (i : ℕ) (l : List ℕ) → length (if b then i ∷ l else l) ≡ 0 → b ≡ false
missed true i l none = absurd (omega (arith, none))
missed false i l none = refl

rest_none : (b : Bool) (i : ℕ) (l : List ℕ) → length (if b then i ∷ l else l) ≡ 0 → length l ≡ 0
rest_none true i l none = absurd (omega (arith, none))
rest_none false i l none = none

pass_none : (test : ℕ → Sector → Bool) (n : ℕ) (xs : List Sector) → length (places test n xs) ≡ 0 → (j : ℕ) (s : Sector) → slice_get xs j ≡ Some s → test (n + j) s ≡ false
pass_none test n [] none j s at = absurd (none-some s at)
pass_none test n (x ∷ xs) none zero s at =
    let same : n + 0 ≡ n = omega arith in
    ap (λ (m : ℕ). test m s) same ∙ ap (test n) (sym (same_Some x s at)) ∙ missed (test n x) n (places test (n + 1) xs) none
pass_none test n (x ∷ xs) none (suc j) s at =
    let there : n + suc j ≡ n + 1 + j = omega arith in
    ap (λ (m : ℕ). test m s) there ∙ pass_none test (n + 1) xs (rest_none (test n x) n (places test (n + 1) xs) none) j s at

both_false : (f n : Bool) → (f ≡ true) ⊎ (n ≡ true) → (not f && not n) ≡ false
both_false true n h = refl
both_false false true h = refl
both_false false false (inl h) = absurd (false≢true h)
both_false false false (inr h) = absurd (false≢true h)

false_both : (f n : Bool) → (not f && not n) ≡ false → (f ≡ true) ⊎ (n ≡ true)
false_both true n h = inl refl
false_both false true h = inr refl
false_both false false h = absurd (true≢false h)

module _ (d : List Sector) where
  abbrev test : ℕ → Sector → Bool
  test i s = not (is_free s.0) && not (needs_place false d i)

  place : (j : ℕ) → first_data (length d) + j - first_data (length d) ≡ j
  place j = omega arith

  pub nothing_freed : length (unneeded_sectors false d) ≡ 0 → AreFreeOrNeeded false d
  nothing_freed none j s at = elim (false_both (is_free s.0) (needs_place false d (first_data (length d) + j)) (pass_none test (first_data (length d)) (data_sectors d) none j s at)) [
    | inl free ↦ inl free
    | inr needed ↦ inr (ap (is_needed false (data_sectors d)) (sym (place j)) ∙ needed)
  ]

  pub freed_nothing : AreFreeOrNeeded false d → length (unneeded_sectors false d) ≡ 0
  freed_nothing are = none_pass test (first_data (length d)) (data_sectors d) (λ j s at. both_false (is_free s.0) (needs_place false d (first_data (length d) + j)) (elim (are j s at) [
    | inl free ↦ inl free
    | inr needed ↦ inr (ap (is_needed false (data_sectors d)) (place j) ∙ needed)
  ]))

-- ---- the root

one_ok : (o : Option RootFault) (r q : Root) → option_map_or Err o (Ok r) ≡ Ok q → q ≡ r
one_ok None r q is = ap (λ (x : Result Root RootFault). value x) (sym is)
  where
    value : Result Root RootFault → Root
    value (Ok x) = x
    value (Err e) = r
one_ok (Some why) r q is = absurd (err_ok is)
  where
    is_ok : Result Root RootFault → Bool
    is_ok (Ok x) = true
    is_ok (Err e) = false

    err_ok : ◌≡◌ {A = Result Root RootFault} (Err why) (Ok q) → ⊥
    err_ok e = false≢true (ap is_ok e)

module _ (d : List Sector) (s : Sector) (r : Result Root RootFault) (is : r ≡ judged false (length d) s) where
  pub root_refused : closed_by r ≡ None → ¬ HasRoot d s
  root_refused none has = none-some (root_in s.1).clean (sym none ∙ ap closed_by (is ∙ has))

  pub root_closed : (closed : Bool) → closed_by r ≡ Some closed → HasRoot d s × ((root_in s.1).clean ≡ closed)
  root_closed closed some = by r refl
    where
      by : (q : Result Root RootFault) → r ≡ q → HasRoot d s × ((root_in s.1).clean ≡ closed)
      by (Err why) e = absurd (none-some closed (sym (ap closed_by e) ∙ some))
      by (Ok root) e =
          let at : root ≡ root_in s.1 = one_ok _ (root_in s.1) root (sym is ∙ e) in
          (sym is ∙ e ∙ ap (λ (q : Root). Ok q) at, ap (λ (q : Root). q.clean) (sym at) ∙ same_Some root.clean closed (sym (ap closed_by e) ∙ some))

-- ---- identifiers that were given out

given_lines : (d : List Sector) (root : Root) (lines : List FileLine) (files : List File) → AreLinesOf d lines files → AreGivenBy root lines → AllByRecursion (IsGiven root.serial root.counter) files
given_lines d root [] [] are given = tt
given_lines d root [] (f ∷ files) are given = absurd are
given_lines d root (line ∷ lines) [] are given = absurd are
given_lines d root (line ∷ lines) (f ∷ files) are given =
    (subst (IsGivenBy root) are.0.id (given 0 line refl), given_lines d root lines files are.1 (λ k other at. given (suc k) other at))

lines_given : (d : List Sector) (root : Root) (lines : List FileLine) (files : List File) → AreLinesOf d lines files → AllByRecursion (IsGiven root.serial root.counter) files → AreGivenBy root lines
lines_given d root [] files are given k line at = absurd (none-some line at)
lines_given d root (first ∷ lines) [] are given k line at = absurd are
lines_given d root (first ∷ lines) (f ∷ files) are given zero line at = subst (λ (l : FileLine). IsGivenBy root l.id) (same_Some first line at) (subst (IsGivenBy root) (sym are.0.id) given.0)
lines_given d root (first ∷ lines) (f ∷ files) are given (suc k) line at = lines_given d root lines files are.1 given.1 k line at

-- ---- the whole

module _ {A : Type 0} (rooms_reveal : SoundByRoom) (roots_pass : (n : ℕ) (s : Sector) → ValidIsJudged n s) (d : List Sector) (s : Sector) (view : View A) (is : IsView d view) (here : slice_get d 0 ≡ Some s) where
  tally_room : view.found.survey.tally.files + view.found.survey.tally.pages ≡ total_room (files_on d)
  tally_room = omega (arith, is.found.survey.tallies.files, is.found.survey.tallies.pages, rooms (files_on d))

  capacity_is : view.layout.capacity ≡ capacity (length d)
  capacity_is = (of_layout view.layout (length d) is.layout).capacity

  root_is : root_page d ≡ s.1
  root_is = ap page_in here

  -- the root has these numbers
  serial_is : serial_of d ≡ (root_in s.1).serial
  serial_is = ap (λ (page : List ℕ). number_at page 16) root_is

  counter_is : counter_of d ≡ (root_in s.1).counter
  counter_is = ap (λ (page : List ℕ). number_at page 20) root_is

  pub says_sound : HasRoot d s → IsClosed s → SaysRight view → SaysPlaced view → Sound d
  says_sound has closed right placed =
      let given = given_lines d (root_in s.1) view.found.files.items (files_on d) is.found.files (subst (λ (r : Result Root RootFault). AreGiven r view.found.files.items) (is.root s here ∙ has) placed.given) in
      let but_room : IsSoundButRoom d = record {
        has_root = subst (IsRoot (length d)) (sym here) ((roots_pass (length d) s).valid is.counted (root_in s.1) has);
        has_maps = is.maps_labelled.0 placed.labelled;
        ids_given = subst (λ (n : ℕ). AllByRecursion (IsGiven n (counter_of d)) (files_on d)) (sym serial_is) (subst (λ (n : ℕ). AllByRecursion (IsGiven (root_in s.1).serial n) (files_on d)) (sym counter_is) given);
        clean = ap (λ (page : List ℕ). short_at page 10) root_is ∙ closed;
        free_or_needed = nothing_freed d (sym is.found.survey.tallies.freed ∙ right.freed);
        bits = is.bits.agrees.0 right.bits;
        file_map = is.agrees.0 right.names;
      } in
      (rooms_reveal d but_room).1 (omega (arith, placed.room, tally_room, capacity_is))

  pub sound_right : Sound d → SaysRight view
  sound_right sound = record {
    freed = is.found.survey.tallies.freed ∙ freed_nothing d sound.free_or_needed;
    bits = is.bits.agrees.1 sound.bits;
    names = is.agrees.1 sound.file_map;
  }

  pub sound_placed : HasRoot d s → Sound d → SaysPlaced view
  sound_placed has sound =
      let given = subst (λ (n : ℕ). AllByRecursion (IsGiven n (root_in s.1).counter) (files_on d)) serial_is (subst (λ (n : ℕ). AllByRecursion (IsGiven (serial_of d) n) (files_on d)) counter_is sound.labels.files.ids_given) in
      record {
        labelled = is.maps_labelled.1 sound.labels.has_maps;
        room = omega (arith, sound.labels.files.room, tally_room, capacity_is);
        given = subst (λ (r : Result Root RootFault). AreGiven r view.found.files.items) (sym (is.root s here ∙ has)) (lines_given d (root_in s.1) view.found.files.items (files_on d) is.found.files given);
      }
