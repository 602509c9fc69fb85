-- The lines of files beside the files of a disk.
use Rattle.std.specs.Prelude.{◌≡◌, true, false, List, [], ◌∷◌}
use Rattle.labelled_disk.specs.Sectors.{Sector}
use Rattle.labelled_disk.specs.File.{File, size}
use Rattle.labelled_disk.specs.FilesOn.{leads_file}
use Rattle.labelled_disk.specs.WriteLaws.{HasData}
use Rattle.volume_view.specs.declared.files.FileLine.{FileLine}

-- the line says what the file is, and in which sector its leader stands
pub record IsLineOf (d : List Sector) (line : FileLine) (f : File) : Type 0 where
  pub id : line.id ≡ f.id
  pub pages : line.pages ≡ size f
  pub kind : line.kind ≡ f.kind
  pub permanent : f.permanent ≡ true
  pub immutable : line.immutable ≡ f.immutable
  pub leader : (s : Sector) × HasData d line.leader s × (leads_file false f.id s ≡ true)

-- a line for each of these files, in their order
abbrev pub AreLinesOf : List Sector → List FileLine → List File → Type 0
AreLinesOf d [] [] = Unit {0}
AreLinesOf d [] (f ∷ files) = ⊥
AreLinesOf d (line ∷ lines) [] = ⊥
AreLinesOf d (line ∷ lines) (f ∷ files) = IsLineOf d line f × AreLinesOf d lines files
