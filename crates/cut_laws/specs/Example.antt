-- Disks that are written out, and what may stand there after a cut.
use Rattle.std.specs.Prelude.{◌≡◌, ℕ, List, [], ◌∷◌, ◌++◌, map, replicate, Some}
use Rattle.labelled_disk.specs.declared.disk.DiskWrite.{DiskWrite}
use Rattle.labelled_disk.specs.declared.disk.DiskWrite.TheVariants.{Whole, LabelOnly}
use Rattle.labelled_disk.specs.File.{byte}
use Rattle.labelled_disk.specs.Label.{leader_page, page_label, root_label}
use Rattle.labelled_disk.specs.Root.{counter_of}
use Rattle.labelled_disk.specs.Runs.{growth, zero_bytes}
use Rattle.labelled_disk.specs.Sectors.{Sector, free_label}
use Rattle.label_laws.specs.PermittedRuns.{ArePermitted}
use Rattle.cut_laws.specs.Cut.{IsCutSince}
use Rattle.cut_laws.specs.ResizeLaws.{IsResized}
use Rattle.cut_laws.specs.Roots.{flag_of}
use Rattle.cut_laws.specs.Windows.{disk_page}

-- a root of two units: byte 11 is the flag, byte 23 the counter; then another root over it, with both raised
abbrev pub open_root : List ℕ
open_root = replicate 16 0 ++ replicate 7 0 ++ 5 ∷ replicate 8 0

abbrev pub closed_root : List ℕ
closed_root = replicate 11 0 ++ 1 ∷ replicate 4 0 ++ replicate 7 0 ++ 6 ∷ replicate 8 0

abbrev pub torn_root : List ℕ
torn_root = replicate 11 0 ++ 1 ∷ replicate 4 0 ++ replicate 7 0 ++ 5 ∷ replicate 8 0

-- a cut may have the new flag and the old counter: so a root that raises both is not written as one
pub record TornRoot : Type 0 where
  pub cut : IsCutSince ((root_label, open_root) ∷ []) (Whole 0 root_label closed_root ∷ [])
      ((root_label, torn_root) ∷ [])
  pub flag : flag_of ((root_label, torn_root) ∷ []) ≡ 1
  pub counter : counter_of ((root_label, torn_root) ∷ []) ≡ 5
  pub flag_before : flag_of ((root_label, open_root) ∷ []) ≡ 0
  pub counter_after : counter_of ((root_label, closed_root) ∷ []) ≡ 6

-- but no unit is torn
abbrev pub UnitIsWhole : Type 0
UnitIsWhole = IsCutSince ((free_label, replicate 16 0) ∷ []) (Whole 0 root_label (replicate 16 1) ∷ [])
    ((root_label, replicate 8 1 ++ replicate 8 0) ∷ []) → ⊥

-- file 16 has no page; a page of file 17 holds these bytes; that page is freed, and its sector becomes page 0 of file
-- 16
abbrev pub two_files : List ℕ → List Sector
two_files bytes = (free_label, []) ∷ (free_label, []) ∷ (free_label, []) ∷ (free_label, [])
    ∷ (page_label 16 0 leader_page, []) ∷ (page_label 17 0 leader_page, []) ∷ (page_label 17 0 0, bytes) ∷ []

abbrev pub given_on : List DiskWrite
given_on = LabelOnly 6 free_label ∷ Whole 6 (page_label 16 0 0) zero_bytes ∷ []

abbrev pub mixed_up : List ℕ → List Sector
mixed_up bytes = (free_label, []) ∷ (free_label, []) ∷ (free_label, []) ∷ (free_label, [])
    ∷ (page_label 16 0 leader_page, []) ∷ (page_label 17 0 leader_page, []) ∷ (page_label 16 0 0, bytes) ∷ []

-- a cut may have bytes of the one file in the other: so a sector that was another's has to be free and zeros at a
-- sync
pub record ForeignBytes (bytes : List ℕ) : Type 0 where
  pub permitted : ArePermitted (two_files bytes) given_on
  pub cut : IsCutSince (two_files bytes) given_on (mixed_up bytes)
  pub foreign : disk_page (mixed_up bytes) 16 0 ≡ Some (map byte bytes)

-- file 16 has no page, and a free sector has zeros; that sector becomes its page 0
abbrev pub one_file : List Sector
one_file = (free_label, []) ∷ (free_label, []) ∷ (free_label, []) ∷ (free_label, [])
    ∷ (page_label 16 0 leader_page, []) ∷ (free_label, zero_bytes) ∷ []

-- what a law asks of a file that is lengthened can be met
pub record OnePageMore : Type 0 where
  pub permitted : ArePermitted one_file (growth 16 0 0 (5 ∷ []))
  pub resized : IsResized one_file (growth 16 0 0 (5 ∷ [])) 16

pub record ExampleCuts : Type 0 where
  pub torn_root : TornRoot
  pub unit_is_whole : UnitIsWhole
  pub foreign_bytes : (bytes : List ℕ) → ForeignBytes bytes
  pub one_page_more : OnePageMore
