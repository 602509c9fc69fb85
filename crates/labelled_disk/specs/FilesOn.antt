-- The files that the labels of a disk name: the permanent ones, or where `with_temporary` is set the temporary ones too.
use Rattle.std.specs.Prelude.{ℕ, zero, suc, ◌+◌, Bool, false, ◌&&◌, ◌||◌, ◌==◌, nat_lt, if◌then◌else◌, List, [], ◌∷◌, find, map, Option, option_map}
use Rattle.std.specs.Option.{option_map_or}
use Rattle.labelled_disk.specs.declared.label.Label.{Label}
use Rattle.labelled_disk.specs.Label.{is_file, is_permanent, is_immutable, leader_page}
use Rattle.labelled_disk.specs.Sectors.{Sector}
use Rattle.labelled_disk.specs.Layout.{data_sectors}
use Rattle.labelled_disk.specs.File.{File, Page, byte}

-- the sector is one of this file
abbrev pub is_of : ℕ → Sector → Bool
is_of id s = is_file s.0 && s.0.id == id

-- it is this page of this file
abbrev pub is_page : ℕ → ℕ → Sector → Bool
is_page id k s = is_of id s && s.0.page == k

-- it is the leader of a file, of a permanent one unless temporary ones count
abbrev pub leads : Bool → Sector → Bool
leads with_temporary s = is_file s.0 && s.0.page == leader_page && (with_temporary || is_permanent s.0)

-- it is the leader of this file
abbrev pub leads_file : Bool → ℕ → Sector → Bool
leads_file with_temporary id s = leads with_temporary s && s.0.id == id

-- the label of the lowest leader
abbrev pub leader_among : Bool → List Sector → ℕ → Option Label
leader_among with_temporary sectors id = option_map (λ s. s.0) (find (leads_file with_temporary id) sectors)

-- the bytes of the lowest sector that is this page
abbrev pub page_at : List Sector → ℕ → ℕ → Option Page
page_at sectors id k = option_map (λ s. map byte s.1) (find (is_page id k) sectors)

-- pages k, k + 1, .. up to the first that is missing, n at most
unfoldable pub pages_from : (ℕ → Option Page) → ℕ → ℕ → List Page
pages_from page k zero = []
pages_from page k (suc n) = option_map_or (λ p. p ∷ pages_from page (k + 1) n) (page k) []

-- the file of this leader
abbrev pub file_by : List Sector → Label → File
file_by sectors leader = record {
  id = leader.id;
  kind = leader.kind;
  permanent = is_permanent leader;
  immutable = is_immutable leader;
  pages = pages_from (page_at sectors leader.id) 0 leader_page;
}

-- the file of this identifier
abbrev pub file_among : Bool → List Sector → ℕ → Option File
file_among with_temporary sectors id = option_map (file_by sectors) (leader_among with_temporary sectors id)

-- into ascending identifiers, in the place of one with the same identifier
abbrev pub put_file : File → List File → List File
put_file file [] = file ∷ []
put_file file (f ∷ fs) = if nat_lt file.id f.id then file ∷ f ∷ fs else (if file.id == f.id then file ∷ fs else f ∷ put_file file fs)

-- the files of these leaders, of two with one identifier that of the first
abbrev pub files_by : Bool → List Sector → List Sector → List File
files_by with_temporary sectors [] = []
files_by with_temporary sectors (s ∷ rest) = if leads with_temporary s then put_file (file_by sectors s.0) (files_by with_temporary sectors rest) else files_by with_temporary sectors rest

-- the files on a disk, in ascending identifiers
abbrev pub files_among : Bool → List Sector → List File
files_among with_temporary d = files_by with_temporary (data_sectors d) (data_sectors d)

-- the permanent files on a disk
abbrev pub files_on : List Sector → List File
files_on d = files_among false d

-- the file of this identifier on a disk
abbrev pub disk_file : Bool → List Sector → ℕ → Option File
disk_file with_temporary d id = file_among with_temporary (data_sectors d) id
