-- What the sector states of reread labels say of an old volume.
use Rattle.std.proofs.Common.{◌≡◌, ℕ, ◌+◌, ◌-◌, ◌<◌, Bool, true, false, not, ◌&&◌, cond, List, length, Option, Some, None, refl, ◌∙◌, ap, arith, eqb}
use Rattle.std.specs.Prelude.{slice_get, option_map}
use Rattle.labelled_disk.specs.Label.{is_free, leader_page}
use Rattle.labelled_disk.specs.Layout.{data_sectors, first_data}
use Rattle.labelled_disk.specs.Lowest.{is_needed}
use Rattle.labelled_disk.specs.Sectors.{Sector}
use Rattle.label_laws.specs.Counts.{is_of_some_file}
use Rattle.label_survey.specs.declared.sector_state.SectorState.{SectorState}
use Rattle.label_survey.specs.declared.sector_state.SectorState.TheVariants.{Free, Orphan, Lost, Leader, Page}
use Rattle.label_survey.specs.SectorStates.{sector_state, AreSectorStates}
use Rattle.label_survey.specs.Survey.{is_kept, is_freed, is_leader, places_by}
use Rattle.label_survey.proofs.TallyLemmas.{places_agree}
use Rattle.old_files.specs.OldFiles.{is_old_needed}
use Rattle.old_files.specs.Reread.{reread, all_reread, page_before}
use Rattle.old_files.proofs.RereadLemmas.{get_reread, before_leader}
use Rattle.convert_laws.specs.Orders.{needs_old, old_unneeded, old_spare}
use Rattle.convert_laws.proofs.RereadCounts.{reread_data, laws_hold}
use Rattle.volume_convert.specs.Settled.{is_spare}

kept_by : (n l f o : Bool) → is_kept (cond n (cond l Leader Page) (cond f Free (cond o Lost Orphan))) ≡ n
kept_by true true f o = refl
kept_by true false f o = refl
kept_by false l true o = refl
kept_by false l false true = refl
kept_by false l false false = refl

freed_by : (n l f o : Bool) → is_freed (cond n (cond l Leader Page) (cond f Free (cond o Lost Orphan))) ≡ (not f && not n)
freed_by true true true o = refl
freed_by true true false o = refl
freed_by true false true o = refl
freed_by true false false o = refl
freed_by false l true o = refl
freed_by false l false true = refl
freed_by false l false false = refl

leader_by : (n l f o : Bool) → is_leader (cond n (cond l Leader Page) (cond f Free (cond o Lost Orphan))) ≡ (n && l)
leader_by true true f o = refl
leader_by true false f o = refl
leader_by false l true o = refl
leader_by false l false true = refl
leader_by false l false false = refl

module _ (d : List Sector) (few : length d < leader_page) (sector_states : List SectorState) (are : AreSectorStates (all_reread d) sector_states) where
  abbrev xs : List Sector
  xs = data_sectors d

  needed : (i : ℕ) → is_needed false (data_sectors (all_reread d)) i ≡ is_old_needed xs i
  needed i = ap (λ (l : List Sector). is_needed false l i) (reread_data d) ∙ (laws_hold d few).needed i

  -- each as its sector says
  pub stands : (i : ℕ) → slice_get sector_states i ≡ option_map (λ s. sector_state (all_reread d) i (reread s)) (slice_get xs i)
  stands i = are i ∙ ap (λ (l : List Sector). option_map (sector_state (all_reread d) i) (slice_get l i)) (reread_data d) ∙ ap (option_map (sector_state (all_reread d) i)) (get_reread xs i) ∙ twice (slice_get xs i)
    where
      twice : (o : Option Sector) → option_map (sector_state (all_reread d) i) (option_map reread o) ≡ option_map (λ s. sector_state (all_reread d) i (reread s)) o
      twice None = refl
      twice (Some s) = refl

  pub kept_is : (i : ℕ) (s : Sector) → is_kept (sector_state (all_reread d) i (reread s)) ≡ is_old_needed xs i
  kept_is i s = kept_by (is_needed false (data_sectors (all_reread d)) i) (eqb (page_before s.0.page) leader_page) (is_free s.0) (is_of_some_file false (all_reread d) (reread s)) ∙ needed i

  pub freed_is : (i : ℕ) (s : Sector) → is_freed (sector_state (all_reread d) i (reread s)) ≡ (not (is_free s.0) && not (is_old_needed xs i))
  freed_is i s = freed_by (is_needed false (data_sectors (all_reread d)) i) (eqb (page_before s.0.page) leader_page) (is_free s.0) (is_of_some_file false (all_reread d) (reread s)) ∙ ap (λ (b : Bool). not (is_free s.0) && not b) (needed i)

  pub leader_is : (i : ℕ) (s : Sector) → is_leader (sector_state (all_reread d) i (reread s)) ≡ (is_old_needed xs i && eqb s.0.page 0)
  leader_is i s = leader_by (is_needed false (data_sectors (all_reread d)) i) (eqb (page_before s.0.page) leader_page) (is_free s.0) (is_of_some_file false (all_reread d) (reread s))
      ∙ ap (λ (b : Bool). b && eqb (page_before s.0.page) leader_page) (needed i) ∙ ap (λ (b : Bool). is_old_needed xs i && b) (before_leader s.0.page)

  by_place : (j : ℕ) → slice_get sector_states j ≡ option_map (λ (s : Sector). sector_state (all_reread d) (first_data (length d) + j - first_data (length d)) (reread s)) (slice_get xs j)
  by_place j = let z : j ≡ first_data (length d) + j - first_data (length d) = omega arith in stands j ∙ ap (λ (k : ℕ). option_map (λ (s : Sector). sector_state (all_reread d) k (reread s)) (slice_get xs j)) z

  -- the sectors that are freed, and those that are spare
  pub unneeded_are : (first : ℕ) → first ≡ first_data (length d) → places_by is_freed first sector_states ≡ old_unneeded d
  unneeded_are first at = ap (λ (n : ℕ). places_by is_freed n sector_states) at
      ∙ places_agree is_freed (λ m s. sector_state (all_reread d) (m - first_data (length d)) (reread s)) (λ i s. not (is_free s.0) && not (needs_old d i)) (first_data (length d)) sector_states xs by_place
      (λ m s. freed_is (m - first_data (length d)) s)

  pub spare_are : (first : ℕ) → first ≡ first_data (length d) → places_by is_spare first sector_states ≡ old_spare d
  spare_are first at = ap (λ (n : ℕ). places_by is_spare n sector_states) at
      ∙ places_agree is_spare (λ m s. sector_state (all_reread d) (m - first_data (length d)) (reread s)) (λ i s. not (needs_old d i)) (first_data (length d)) sector_states xs by_place
      (λ m s. ap not (kept_is (m - first_data (length d)) s))
