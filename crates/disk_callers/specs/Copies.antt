-- A page that was copied from one sector to another.
use Rattle.std.specs.Prelude.{◌≡◌, ℕ, List, [], ◌∷◌, ◌++◌, slice_get, slice_set, Some, option_map}
use Rattle.std.specs.Option.{option_map_or}
use Rattle.labelled_disk.specs.declared.label.Wanted.{Wanted}
use Rattle.labelled_disk.specs.declared.disk.DiskWrite.TheVariants.{Page}
use Rattle.labelled_disk.specs.Sectors.{Sector}
use Rattle.labelled_disk.specs.State.{DiskState}

-- these sectors, with the page of one of them in another, which keeps its label
abbrev pub copied : ℕ → ℕ → List Sector → List Sector
copied from to d = option_map_or (λ source. option_map_or (λ target. slice_set d to (target.0, source.1)) (slice_get d to) d) (slice_get d from) d

-- the disk reveals of the copy, and of one write more, which was that of the source's page
pub record RevealsCopy (from to : ℕ) (wanted : Wanted) (old new : DiskState) : Type 0 where
  pub contents : new.contents ≡ option_map (copied from to) old.contents
  pub page : List ℕ
  pub is_source : (d : List Sector) → old.contents ≡ Some d → option_map (λ s. s.1) (slice_get d from) ≡ Some page
  pub writes : new.writes ≡ option_map (λ writes. writes ++ Page to wanted page ∷ []) old.writes
