-- What sector states say of a disk, and what is so of a sector that stays.
use Rattle.std.proofs.Common.{◌≡◌, ◌⊎◌, inl, inr, ◌+◌, ◌-◌, Bool, true, false, ◌&&◌, ◌||◌, length, Option, Some, None, refl, sym, ◌∙◌, ap, arith, eqb}
use Rattle.std.specs.Prelude.{slice_get, option_map, nat_lt}
use Rattle.std.proofs.lemmas.Option.{same_Some, none-some}
use Rattle.std.proofs.lemmas.Bool.{and_parts, eqb-true, ltb-true}
use Rattle.labelled_disk.specs.Label.{is_file, is_free, is_permanent, leader_page}
use Rattle.labelled_disk.specs.Layout.{data_sectors, first_data}
use Rattle.labelled_disk.specs.File.{size}
use Rattle.labelled_disk.specs.FilesOn.{leads, leads_file, is_page, is_of, disk_file}
use Rattle.labelled_disk.specs.Lowest.{is_first, is_needed}
use Rattle.labelled_disk.specs.Sectors.{Sector}
use Rattle.label_laws.specs.Counts.{needs_place, is_of_some_file}
use Rattle.label_survey.specs.Laws.{FreedAreUnneeded, KeptAreNeeded, NeededAreFiles}
use Rattle.label_survey.specs.SectorStates.{sector_state}
use Rattle.label_survey.specs.Survey.{is_kept}
use Rattle.label_survey.proofs.PlaceLemmas.{first_passes}
use Rattle.label_survey.proofs.SectorStateLemmas.{needed_file, needed_by, data_here, short_of}
use Rattle.label_survey.proofs.TallyLemmas.{freed}
use Rattle.label_survey.proofs.TripleLemmas.{kept_stands}

pub freed_are_unneeded : FreedAreUnneeded
freed_are_unneeded d sector_states are = freed d sector_states are

pub kept_are_needed : KeptAreNeeded
kept_are_needed d sector_states j x are here = either (slice_get (data_sectors d) j) (sym here ∙ are j)
  where
    back : j ≡ first_data (length d) + j - first_data (length d)
    back = omega arith

    either : (o : Option Sector) → Some x ≡ option_map (sector_state d j) o → is_kept x ≡ needs_place false d (first_data (length d) + j)
    either None e = absurd (none-some x (sym e))
    either (Some s) e =
        ap is_kept (same_Some x (sector_state d j s) e)
        ∙ kept_stands (is_needed false (data_sectors d) j) (eqb s.0.page leader_page) (is_free s.0) (is_of_some_file false d s)
        ∙ ap (is_needed false (data_sectors d)) back

which : (a b c : Bool) → (a || (b && c)) ≡ true → (a ≡ true) ⊎ ((b ≡ true) × (c ≡ true))
which true b c e = inl refl
which false b c e = inr (and_parts b c e)

pub needed_are_files : NeededAreFiles
needed_are_files d i s has needed =
    let f = needed_file d i s has needed in
    let is : disk_file false d s.0.id ≡ Some f.0 = ap (disk_file false d) (sym f.2) ∙ f.1 in
    let here = data_here d i s has in
    let k = i - first_data (length d) in
    elim (which (is_first (leads_file false s.0.id) (data_sectors d) k) (nat_lt s.0.page (size f.0)) (is_first (is_page s.0.id s.0.page) (data_sectors d) k)
    (sym (needed_by d k s f.0 here is) ∙ needed)) [
      | inl first ↦
          let passes = first_passes (leads_file false s.0.id) (data_sectors d) k s here first in
          let leader = (and_parts (leads false s) (eqb s.0.id s.0.id) passes).0 in
          let own = and_parts (is_file s.0) (eqb s.0.page leader_page) (and_parts (is_file s.0 && eqb s.0.page leader_page) (false || is_permanent s.0) leader).0 in
          (own.0, omega (arith, eqb-true s.0.page leader_page own.1))
      | inr page ↦
          let passes = first_passes (is_page s.0.id s.0.page) (data_sectors d) k s here page.1 in
          let own = and_parts (is_of s.0.id s) (eqb s.0.page s.0.page) passes in
          ((and_parts (is_file s.0) (eqb s.0.id s.0.id) own.0).0, omega (arith, ltb-true s.0.page (size f.0) page.0, short_of d s.0.id f.0 is))
    ]
