-- The labels of files in the order of a survey: file by file, the leader first and then the pages, the lowest sector first.
use Rattle.std.specs.Prelude.{◌≡◌, ◌⊎◌, ℕ, ◌+◌, ◌^◌, ◌<◌, ◌≤◌, true, ◌==◌, if◌then◌else◌, List, [], ◌∷◌, slice_get, Some}
use Rattle.labelled_disk.specs.declared.label.Label.{Label}
use Rattle.labelled_disk.specs.Label.{is_file, is_permanent, leader_page}
use Rattle.label_survey.specs.declared.entries.Entry.{Entry}

-- where a sector stands in its file: 0 for a permanent leader, k + 1 for page k, and past all pages a leader that is not permanent
abbrev pub place_of : Label → ℕ
place_of l = if l.page == leader_page then (if is_permanent l then 0 else 2 ^ 32) else l.page + 1

abbrev pub entry_of : ℕ → Label → Entry
entry_of i l = record { id = l.id; place = place_of l; sector = i }

-- an entry for each label of a file, the first label being that of sector i
abbrev pub entries_from : ℕ → List Label → List Entry
entries_from i [] = []
entries_from i (l ∷ ls) = if is_file l then entry_of i l ∷ entries_from (i + 1) ls else entries_from (i + 1) ls

-- not after it
abbrev pub Precedes : Entry → Entry → Type 0
Precedes a b = (a.id < b.id) ⊎ ((a.id ≡ b.id) × ((a.place < b.place) ⊎ ((a.place ≡ b.place) × (a.sector ≤ b.sector))))

-- none is after a later one
abbrev pub AreInOrder : List Entry → Type 0
AreInOrder entries = (i j : ℕ) (a b : Entry) → i ≤ j → slice_get entries i ≡ Some a → slice_get entries j ≡ Some b → Precedes a b

-- an entry for each label of a file, in any order
pub record AreOf (labels : List Label) (entries : List Entry) : Type 0 where
  pub each : (k : ℕ) (e : Entry) → slice_get entries k ≡ Some e → (l : Label) × (slice_get labels e.sector ≡ Some l) × (is_file l ≡ true) × (e ≡ entry_of e.sector l)
  pub all : (i : ℕ) (l : Label) → slice_get labels i ≡ Some l → is_file l ≡ true → (k : ℕ) × (slice_get entries k ≡ Some (entry_of i l))
  pub once : (j k : ℕ) (a b : Entry) → slice_get entries j ≡ Some a → slice_get entries k ≡ Some b → a.sector ≡ b.sector → j ≡ k
