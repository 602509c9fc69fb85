-- Runs of label writes that keep the permanent files, and labels that are right, in each crash state.
use Rattle.std.specs.Prelude.{◌≡◌, ℕ, suc, ◌+◌, ◌<◌, ◌≤◌, false, List, ◌∷◌, length, Some, None}
use Rattle.std.specs.List.{AllByRecursion}
use Rattle.labelled_disk.specs.declared.label.Label.{Label}
use Rattle.labelled_disk.specs.declared.disk.DiskWrite.TheVariants.{Whole}
use Rattle.labelled_disk.specs.Label.{leader_page}
use Rattle.labelled_disk.specs.Sectors.{Sector}
use Rattle.labelled_disk.specs.CrashState.{crash_state}
use Rattle.labelled_disk.specs.FilesOn.{disk_file}
use Rattle.labelled_disk.specs.Root.{IsRoot, LabelsRight, number_at, serial_of, counter_of}
use Rattle.labelled_disk.specs.RootLaws.{StaysRight}
use Rattle.labelled_disk.specs.Runs.{growth, creation, freeing, AreUnused}
use Rattle.label_laws.specs.Unneeded.{IsUnneeded}
use Rattle.label_laws.specs.Unseen.{IsOfNoOther}

pub record StayLaws : Type 0 where
  -- a root that counts on, and then a new file, which is temporary
  pub created : (d : List Sector) (label : Label) (page : List ℕ) (id kind leader : ℕ) (is : List ℕ) → LabelsRight d → IsRoot (length d) (Some (label, page)) → number_at page 16 ≡ serial_of d → counter_of d ≤ number_at page 20
      → disk_file false d id ≡ None → AreUnused d (leader ∷ is) → length is < leader_page
      → (k : ℕ) → k ≤ suc (suc (length is)) → StaysRight false d (crash_state d (Whole 0 label page ∷ creation id kind leader is) k)
  -- sectors that no permanent file needs are freed: those of temporary files, and of the space tables
  pub freed : (d : List Sector) (is : List ℕ) → LabelsRight d → AllByRecursion (IsUnneeded false d) is → (k : ℕ) → StaysRight false d (crash_state d (freeing is) k)
  -- pages of the space tables are made
  pub tables : (d : List Sector) (page : ℕ) (is : List ℕ) → LabelsRight d → AllByRecursion (IsOfNoOther 3 d) is → page + length is ≤ leader_page → (k : ℕ) → StaysRight false d (crash_state d (growth 3 0 page is) k)
