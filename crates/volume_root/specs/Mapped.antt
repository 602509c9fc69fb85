-- What the file map of a sound volume reveals of the volume's files.
use Rattle.std.specs.Prelude.{◌≡◌, ℕ, ◌<◌, false, true, List, map, slice_get, Some}
use Rattle.labelled_disk.specs.Sectors.{Sector}
use Rattle.labelled_disk.specs.File.{File, byte, size}
use Rattle.labelled_disk.specs.FilesOn.{disk_file}
use Rattle.labelled_disk.specs.WriteLaws.{HasData}
use Rattle.file_map.specs.FileMap.{Triples}
use Rattle.file_map.specs.InSectors.{MapNames}
use Rattle.volume_root.specs.Sound.{Sound}

-- this sector is named for the page, and has its bytes
pub record IsMapped (d : List Sector) (named : Triples) (f : File) (k : ℕ) : Type 0 where
  pub place : ℕ
  pub s : Sector
  pub is_named : named f.id k place ≡ true
  pub there : HasData d place s
  pub bytes : slice_get f.pages k ≡ Some (map byte s.1)

-- the map's pages reveal a map, which names a sector for each page of each file
pub record FilesAreMapped (d : List Sector) : Type 0 where
  pub named : Triples
  pub revealed : MapNames d named
  pub each : (id k : ℕ) (f : File) → disk_file false d id ≡ Some f → k < size f → IsMapped d named f k

-- so it is on each sound volume
abbrev pub SoundAreMapped : Type 0
SoundAreMapped = (d : List Sector) → Sound d → FilesAreMapped d
