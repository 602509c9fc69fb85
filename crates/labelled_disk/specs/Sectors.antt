-- The sectors of a disk.
use Rattle.std.specs.Prelude.{◌≡◌, ℕ, ◌^◌, ◌<◌, List, length, replicate, slice_get, Some, All}
use Rattle.labelled_disk.specs.declared.label.Label.{Label}

-- a sector is its label and its page
abbrev pub Sector : Type 0
Sector = Label × List ℕ

-- a label that no file has
abbrev pub free_label : Label
free_label = record { id = 0; page = 0; kind = 0; flags = 0; last = 0 }

-- a free label and a page of zeros
abbrev pub zero_sector : Sector
zero_sector = (free_label, replicate 512 0)

-- the fields of a label fit their places, and the page is 512 bytes
pub record IsSector (s : Sector) : Type 0 where
  pub id_fits : s.0.id < 2 ^ 64
  pub page_fits : s.0.page < 2 ^ 32
  pub kind_fits : s.0.kind < 2 ^ 16
  pub flags_fit : s.0.flags < 256
  pub last_fits : s.0.last < 256
  pub whole_page : length s.1 ≡ 512
  pub bytes : All (λ b. b < 256) s.1

-- each is a sector
abbrev pub AreSectors : List Sector → Type 0
AreSectors d = (k : ℕ) (s : Sector) → slice_get d k ≡ Some s → IsSector s
