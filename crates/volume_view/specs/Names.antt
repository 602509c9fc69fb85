-- The file map beside the labels.
use Rattle.std.specs.Prelude.{◌≡◌, ◌↔◌, ◌⊎◌, ℕ, ◌+◌, ◌-◌, ◌<◌, ◌≤◌, true, false, not, ◌&&◌, ◌==◌, nat_le, List, [], ◌∷◌, length, slice_get, Option, Some, None}
use Rattle.std.specs.Option.{option_map_or}
use Rattle.labelled_disk.specs.declared.label.Label.{Label}
use Rattle.labelled_disk.specs.Label.{is_free}
use Rattle.labelled_disk.specs.Layout.{vfm}
use Rattle.labelled_disk.specs.Sectors.{Sector}
use Rattle.page_tree.specs.Reveals.{RevealsTree}
use Rattle.file_map.specs.declared.run.Run.{Run as MapRun}
use Rattle.file_map.specs.FileMap.{Triples, AreNamed, names_triple}
use Rattle.file_map.specs.InSectors.{label_triples}
use Rattle.label_survey.specs.declared.runs.Run.{Run}
use Rattle.label_survey.specs.declared.triples.Triple.{Triple}
use Rattle.label_survey.specs.Runs.{all_triples}
use Rattle.volume_view.specs.declared.differences.NameDifferences.{NameDifferences}
use Rattle.volume_view.specs.declared.names.Names.{Names}
use Rattle.volume_view.specs.declared.names.Names.TheVariants.{Malformed, Read}
use Rattle.volume_view.specs.Rows.{AreJoined}

-- the label of the sector names the page; the first label is that of sector `first`
abbrev pub labelled : ℕ → List Label → Triples
labelled first labels id page sector = nat_le first sector
    && option_map_or (λ l. not (is_free l) && (l.id == id && l.page == page)) (slice_get labels (sector - first)) false

-- the map in these bytes is in form on a volume of n sectors, and names these pages
abbrev pub NamesIn : ℕ → List ℕ → Triples → Type 0
NamesIn n bytes named = AreNamed n (RevealsTree 24 12 (vfm n) (λ b. b ≡ bytes)) named

-- all that the second names, the first names too
abbrev pub Covers : Triples → Triples → Type 0
Covers named said = (id page sector : ℕ) → said id page sector ≡ true → named id page sector ≡ true

-- both name the same
abbrev pub AreAlike : Triples → Triples → Type 0
AreAlike named said = (id page sector : ℕ) → named id page sector ≡ said id page sector

-- the first names the page in its sector, and the second doesn't
abbrev pub IsOnlyIn : Triples → Triples → Triple → Type 0
IsOnlyIn one other t = (one t.id t.page t.sector ≡ true) × (other t.id t.page t.sector ≡ false)

abbrev pub AllOnlyIn : Triples → Triples → List Triple → Type 0
AllOnlyIn one other ts = (k : ℕ) (t : Triple) → slice_get ts k ≡ Some t → IsOnlyIn one other t

abbrev pub IsListed : List Triple → Triple → Type 0
IsListed ts t = (k : ℕ) × (slice_get ts k ≡ Some t)

-- no page is there twice
abbrev pub AreOnce : List Triple → Type 0
AreOnce ts = (j k : ℕ) (t : Triple) → slice_get ts j ≡ Some t → slice_get ts k ≡ Some t → j ≡ k

-- to pages of which none is one of the run, and none is there twice, none was added twice
abbrev pub StayOnce : MapRun → List Triple → List Triple → Type 0
StayOnce run old new = ((t : Triple) → IsListed old t → names_triple (run ∷ []) t.id t.page t.sector ≡ false) → AreOnce old
    → AreOnce new

-- the label of this sector is not free, and the map doesn't name its page there: this is the page; or there is none
abbrev pub IsDifferenceAt : Triples → Label → ℕ → Option Triple → Type 0
IsDifferenceAt named l sector (Some t) = (is_free l ≡ false) × (named l.id l.page sector ≡ false)
    × (t ≡ record { id = l.id; page = l.page; sector = sector })
IsDifferenceAt named l sector None = (is_free l ≡ true) ⊎ (named l.id l.page sector ≡ true)

-- exactly the pages that the labels name and the map doesn't, in ascending sectors, in runs that are as long as they can
-- be
pub record IsUnmapped (named said : Triples) (runs : List Run) : Type 0 where
  pub joined : AreJoined runs
  pub each : AllOnlyIn said named (all_triples runs)
  pub all : (t : Triple) → IsOnlyIn said named t → IsListed (all_triples runs) t
  pub ascending : (j k : ℕ) (a b : Triple) → j < k → slice_get (all_triples runs) j ≡ Some a
      → slice_get (all_triples runs) k ≡ Some b → a.sector < b.sector

-- pages that the map names and the labels don't: n at most, and all of them, where they are fewer than n; in runs that
-- are as long as they can be
pub record IsUnlabelled (n : ℕ) (named said : Triples) (runs : List Run) : Type 0 where
  pub joined : AreJoined runs
  pub each : AllOnlyIn named said (all_triples runs)
  pub most : length (all_triples runs) ≤ n
  pub all : length (all_triples runs) < n → (t : Triple) → IsOnlyIn named said t → IsListed (all_triples runs) t

-- To these pages others came, so many fewer of which may still come: each is one of a map with these runs that the
-- labels don't
-- name, and all of them came unless no more could.
pub record AddsUnlabelled (runs : List MapRun) (said : Triples) (left now : ℕ) (old new : List Triple) : Type 0 where
  pub differ : (named : Triples) → Covers named (names_triple runs) → AllOnlyIn named said old
      → AllOnlyIn named said new
  pub counted : now + length new ≡ left + length old
  pub fewer : now ≤ left
  pub kept : (t : Triple) → IsListed old t → IsListed new t
  pub all : 1 ≤ now → (t : Triple) → IsOnlyIn (names_triple runs) said t → IsListed new t

-- there is none
abbrev pub AreNone : {A : Type 0} → NameDifferences A → Type 0
AreNone differences = (differences.unmapped.items ≡ []) × (differences.unlabelled.items ≡ [])

-- what map and labels of a volume of n sectors have not in common, no page twice; there is nothing exactly where both
-- name the same
pub record IsComparison {A : Type 0} (n : ℕ) (named said : Triples) (differences : NameDifferences A) : Type 0 where
  pub unmapped : IsUnmapped named said differences.unmapped.items
  pub unlabelled : IsUnlabelled n named said differences.unlabelled.items
  pub once : AreOnce (all_triples differences.unlabelled.items)
  pub agrees : AreNone differences ↔ AreAlike named said

-- what is revealed of a map in form that names these pages
abbrev pub IsRevealedOf : {A : Type 0} → Triples → List Sector → Names A → Type 0
IsRevealedOf named d (Malformed page) = ⊥
IsRevealedOf named d (Read in_form differences) = IsComparison (length d) named (label_triples d) differences

-- it is said that the map names what the labels name
abbrev pub SaysAlike : {A : Type 0} → Names A → Type 0
SaysAlike (Malformed page) = ⊥
SaysAlike (Read in_form differences) = AreNone differences

-- it is said that the map agrees: that it is in form as a whole, and names what the labels name
abbrev pub SaysAgree : {A : Type 0} → Names A → Type 0
SaysAgree (Malformed page) = ⊥
SaysAgree (Read in_form differences) = (in_form ≡ true) × AreNone differences

-- what is said of the map's form is right: it is in form as a whole exactly where that is said, and one that is called
-- malformed is not in form
abbrev pub SaysForm : {A : Type 0} → Names A → Type 0 → Type 0
SaysForm (Malformed page) form = ¬ form
SaysForm (Read in_form differences) form = (in_form ≡ true) ↔ form
