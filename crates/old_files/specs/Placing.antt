-- Where leaders are placed: in the lowest sectors that no old file needs, in the order of the files.
use Rattle.std.specs.Prelude.{◌≡◌, ◌⊎◌, ℕ, zero, suc, ◌+◌, ◌≤◌, true, false, if◌then◌else◌, List, length, map, slice_get, Some}
use Rattle.labelled_disk.specs.declared.label.Label.{Label}
use Rattle.labelled_disk.specs.Label.{is_free, leader_page}
use Rattle.labelled_disk.specs.File.{File}
use Rattle.labelled_disk.specs.Layout.{data_sectors}
use Rattle.labelled_disk.specs.Sectors.{Sector}
use Rattle.old_files.specs.OldFiles.{files_old, head_among, is_old_needed}
use Rattle.old_files.specs.Laws.{as_leader}
use Rattle.old_files.specs.Arranging.{IsSettled}

-- how many of the first so many sectors no old file needs
abbrev pub spare_below : List Sector → ℕ → ℕ
spare_below xs zero = 0
spare_below xs (suc i) = spare_below xs i + (if is_old_needed xs i then 0 else 1)

-- the label of a file's leader
abbrev pub leader_of : File → Label
leader_of f = record {
  id = f.id;
  page = leader_page;
  kind = f.kind;
  flags = (if f.permanent then 1 else 0) +
      (if f.immutable then 2 else 0);
  last = 0;
}

-- those of the old files, in ascending identifiers
abbrev pub old_leaders : List Sector → List Label
old_leaders d = map leader_of (files_old d)

-- these are the leaders of the old files, one for each
pub record AreLeadersOf (xs : List Sector) (leaders : List Label) : Type 0 where
  pub each : (k : ℕ) (l : Label) → slice_get leaders k ≡ Some l
      → (s : Sector) × (head_among xs l.id ≡ Some s) × (l ≡ as_leader s.0)
  pub all : (id : ℕ) (s : Sector) → head_among xs id ≡ Some s → (k : ℕ) × (slice_get leaders k ≡ Some (as_leader s.0))
  pub once : (j k : ℕ) (a b : Label) → slice_get leaders j ≡ Some a → slice_get leaders k ≡ Some b → a.id ≡ b.id → j ≡ k

-- Each sector that a file needs is as it was, and each other one has the next leader, or is free once each file has
-- one.
pub record IsPlaced (xs ys : List Sector) (leaders : List Label) : Type 0 where
  pub same_length : length ys ≡ length xs
  pub kept : (i : ℕ) → is_old_needed xs i ≡ true → slice_get ys i ≡ slice_get xs i
  pub gaps : (i : ℕ) (y : Sector) → is_old_needed xs i ≡ false → slice_get ys i ≡ Some y
      → (slice_get leaders (spare_below xs i) ≡ Some y.0) ⊎ ((length leaders ≤ spare_below xs i) × (is_free y.0 ≡ true))
  pub leaders_are : AreLeadersOf xs leaders
  pub enough : length leaders ≤ spare_below xs (length xs)

-- so each old file has its leader
abbrev pub PlacedAreSettled : Type 0
PlacedAreSettled = (xs ys : List Sector) (leaders : List Label) → IsPlaced xs ys leaders → IsSettled xs ys

-- the leaders of the files of an old volume
abbrev pub OldLeadersAre : Type 0
OldLeadersAre = (d : List Sector) → AreLeadersOf (data_sectors d) (old_leaders d)
