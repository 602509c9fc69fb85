-- As many data sectors are taken as files need, where each is free or needed.
use Rattle.std.proofs.Common.{◌≡◌, inl, inr, ℕ, ◌+◌, ◌-◌, Bool, true, false, not, ◌&&◌, ◌||◌, List, length, Some, refl, sym, ◌∙◌, ap, arith, eqb}
use Rattle.std.specs.Prelude.{slice_get}
use Rattle.std.proofs.lemmas.Bool.{and_parts, true≢false}
use Rattle.labelled_disk.specs.Label.{is_free, leader_page}
use Rattle.labelled_disk.specs.Sectors.{Sector}
use Rattle.labelled_disk.specs.Layout.{data_sectors, first_data}
use Rattle.labelled_disk.specs.File.{total_room}
use Rattle.labelled_disk.specs.FilesOn.{files_among}
use Rattle.labelled_disk.specs.Lowest.{is_needed}
use Rattle.label_laws.specs.Counts.{needs_place, taken_sectors, TakenByFiles}
use Rattle.label_laws.specs.Unneeded.{AreFreeOrNeeded}
use Rattle.label_laws.proofs.CountLemmas.{files_count, pages_counted, rooms}
use Rattle.label_laws.proofs.FileLemmas.{free_none}
use Rattle.label_laws.proofs.NeededLemmas.{plain_unneeded}
use Rattle.label_laws.proofs.PlaceLemmas.{places_same, places_or}

-- a fact, as the two cases of another
by_cases : (b e : Bool) → b ≡ ((b && e) || (b && not e))
by_cases true true = refl
by_cases true false = refl
by_cases false e = refl

not_both : (e : Bool) → e ≡ true → not e ≡ true → ⊥
not_both true is not_is = true≢false (sym not_is)
not_both false is not_is = true≢false (sym is)

module _ (with_temporary : Bool) (d : List Sector) (order : AreFreeOrNeeded with_temporary d) where
  taken_if_needed : (j : ℕ) (s : Sector) → slice_get (data_sectors d) j ≡ Some s → not (is_free s.0) ≡ is_needed with_temporary (data_sectors d) j
  taken_if_needed j s here = elim (order j s here) [
    | inl free ↦ ap not free ∙ sym (unneeded free)
    | inr needed ↦ either (is_free s.0) refl needed ∙ sym needed
  ]
    where
      unneeded : is_free s.0 ≡ true → is_needed with_temporary (data_sectors d) j ≡ false
      unneeded free = plain_unneeded with_temporary (data_sectors d) j s here (free_none s.0 free)

      either : (b : Bool) → is_free s.0 ≡ b → is_needed with_temporary (data_sectors d) j ≡ true → not b ≡ true
      either true free needed = absurd (true≢false (sym needed ∙ unneeded free))
      either false free needed = refl

  abbrev leads : ℕ → Sector → Bool
  leads i s = needs_place with_temporary d i && eqb s.0.page leader_page

  abbrev pages : ℕ → Sector → Bool
  pages i s = needs_place with_temporary d i && not (eqb s.0.page leader_page)

  either_one : (n j : ℕ) (s : Sector) → ◌≡◌ {A = ℕ} n (first_data (length d) + j) → slice_get (data_sectors d) j ≡ Some s → not (is_free s.0) ≡ (leads n s || pages n s)
  either_one n j s is here =
      let place : n - first_data (length d) ≡ j = omega (arith, is) in
      taken_if_needed j s here ∙ ap (is_needed with_temporary (data_sectors d)) (sym place) ∙ by_cases (needs_place with_temporary d n) (eqb s.0.page leader_page)

  pub taken_count : length (taken_sectors d) ≡ total_room (files_among with_temporary d)
  taken_count =
      let both = places_or leads pages (first_data (length d)) (data_sectors d) (λ n j s is here lead page.
      not_both (eqb s.0.page leader_page) (and_parts (needs_place with_temporary d n) (eqb s.0.page leader_page) lead).1 (and_parts (needs_place with_temporary d n) (not (eqb s.0.page leader_page)) page).1) in
      ap (λ (l : List ℕ). length l) (places_same (λ i s. not (is_free s.0)) (λ i s. leads i s || pages i s) (first_data (length d)) (data_sectors d) either_one)
      ∙ omega (arith, both, files_count with_temporary d, pages_counted with_temporary d, rooms (files_among with_temporary d))

pub taken_by_files : (with_temporary : Bool) → TakenByFiles with_temporary
taken_by_files with_temporary d order = taken_count with_temporary d order
