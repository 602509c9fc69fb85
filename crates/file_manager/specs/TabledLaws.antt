-- What bytes the pages of the space tables have stays, where sectors with their labels do.
use Rattle.std.proofs.Common.{◌≡◌, ◌≢◌, inl, inr, ℕ, ◌+◌, ◌*◌, ◌≤◌, Bool, true, false, List, [], length, Option, Some, None, sym, ap, subst, arith}
use Rattle.std.specs.Prelude.{slice_get, IfSome}
use Rattle.std.proofs.lemmas.Bool.{cases_eq}
use Rattle.std.proofs.lemmas.Bool.Decides.{nat_tests}
use Rattle.labelled_disk.specs.declared.label.Label.{Label}
use Rattle.labelled_disk.specs.declared.layout.Layout.{Layout}
use Rattle.labelled_disk.specs.Label.{is_file_id}
use Rattle.labelled_disk.specs.Sectors.{Sector}
use Rattle.flat_mem.specs.Memory.{part}
use Rattle.file_map.specs.FileMap.{Triples}
use Rattle.swapper_kernel.specs.declared.manager.Manager.{Manager}
use Rattle.swapper_kernel.specs.declared.manager.Manager.TheVariants.{AllocationMap, FileMap}
use Rattle.swapper_kernel.specs.Differs.{Differs}
use Rattle.swapper_kernel.specs.DiffersLaws.{names_id}
use Rattle.swapper_kernel.specs.Homes.{IsLayout}
use Rattle.swapper_kernel.specs.Window.{in_map}
use Rattle.swapper_kernel.proofs.PlacedLemmas.{parts}
use Rattle.filer_kernel.specs.PlaceLaws.{on_data}
use Rattle.filer_kernel.specs.Tables.{IsTablePage}
use Rattle.filer_kernel.specs.Triples.{MapIs}
use Rattle.session_words.proofs.FoundLemmas.{above_reserved}
use Rattle.file_manager.specs.Reasons.{InitialState, AreTabled, LeavesTables}

-- ---- Memories that have the same labels of the space tables.

-- each data sector of the earlier one with such a label is as it was
abbrev pub KeepsSectors : Layout → List Sector → List Sector → Type 0
KeepsSectors layout m n = (sector : ℕ) (s : Sector) → layout.first ≤ sector → slice_get m sector ≡ Some s → s.0.id ≡ 3 → slice_get n sector ≡ Some s

-- pages of the space tables that were named are named there still
abbrev pub StaysNamed : Triples → Triples → Type 0
StaysNamed named later = (page sector : ℕ) → named 3 page sector ≡ true → later 3 page sector ≡ true

module _ (layout : Layout) (named later : Triples) (m n : List Sector) where
  -- where no page of theirs is revealed, none is
  pub none_tabled : (bytes : List ℕ) → bytes ≡ [] → AreTabled layout named m bytes → AreTabled layout later n bytes
  none_tabled bytes empty h =
      let size : 0 ≡ length bytes = ap (λ (b : List ℕ). length b) (sym empty) in
      let long = h.long in
      let count : h.count ≡ 0 = omega (arith, size, long) in
      record { count = h.count; most = h.most; long = h.long; page = λ k below. absurd (omega (arith, below, count)) }

  module _ (is : IsLayout layout) (map : MapIs layout named m) (keeps : KeepsSectors layout m n) (stays : StaysNamed named later) where
    page_still : (k : ℕ) (page : List ℕ) → IsTablePage layout named m k page → IsTablePage layout later n k page
    page_still k page p = record {
      sector = p.sector;
      label = p.label;
      found = stays k p.sector p.found;
      keeps = keeps p.sector (p.label, page) (on_data layout named m map is 3 k p.sector p.found) p.keeps (names_id p.label (record { id = 3; page = k }) p.named_so);
      named_so = p.named_so;
    }

    -- else the bytes of those that are revealed stay
    pub tabled_still : (bytes : List ℕ) → AreTabled layout named m bytes → AreTabled layout later n bytes
    tabled_still bytes h = record {
      count = h.count;
      most = h.most;
      long = h.long;
      page = λ k below. page_still k (part bytes (512 * k) 512) (h.page k below);
    }

-- what is revealed of them stays so
pub tables_revealed : (layout : Layout) (named later : Triples) (m n : List Sector) (tables : Option (List ℕ)) → IsLayout layout → MapIs layout named m → KeepsSectors layout m n → StaysNamed named later
    → IfSome tables (AreTabled layout named m) → IfSome tables (AreTabled layout later n)
tables_revealed layout named later m n None is map keeps stays h = tt
tables_revealed layout named later m n (Some bytes) is map keeps stays h = tabled_still layout named later m n is map keeps stays bytes h

-- so it does where no page is revealed
pub none_revealed : (layout : Layout) (named later : Triples) (m n : List Sector) (tables : Option (List ℕ)) → IfSome tables (λ b. b ≡ []) → IfSome tables (AreTabled layout named m) → IfSome tables (AreTabled layout later n)
none_revealed layout named later m n None none is = tt
none_revealed layout named later m n (Some bytes) none is = none_tabled layout named later m n bytes none is

-- after a call on a file: where it is not that of the space tables, sectors with labels of theirs are as they were
pub revealed_left : (layout : Layout) (named later : Triples) (m n : List Sector) (o : InitialState) (id : ℕ) → IsLayout layout → MapIs layout named m → LeavesTables o id → (id ≢ 3 → KeepsSectors layout m n) → (id ≢ 3 → StaysNamed named later)
    → IfSome o.tables (AreTabled layout named m) → IfSome o.tables (AreTabled layout later n)
revealed_left layout named later m n o id is map never_blames keeps stays h = elim (cases_eq id 3) [
  | inl own ↦ none_revealed layout named later m n o.tables (never_blames own) h
  | inr other ↦ tables_revealed layout named later m n o.tables is map (keeps other) (stays other) h
]

-- ---- Sectors that do not differ.

-- data sectors with such labels that do not pass are as they were
pub keeps_undiffering : {test : ℕ → Label → Bool} (layout : Layout) (m n : List Sector) → Differs test m n → ((sector : ℕ) (l : Label) → layout.first ≤ sector → l.id ≡ 3 → test sector l ≡ false) → KeepsSectors layout m n
keeps_undiffering layout m n differs fails sector s from here own = differs.pages sector s here (fails sector s.0 from own)

-- changes of a map are before the data
pub prefix_only : (which : Manager) (layout : Layout) (sector : ℕ) (l : Label) → IsLayout layout → layout.first ≤ sector → in_map which layout sector l ≡ false
prefix_only AllocationMap layout sector l is from = let first : layout.first ≡ 1 + layout.vam + layout.vfm = (parts layout is).0 in grind (arith, nat_tests)
prefix_only FileMap layout sector l is from = let first : layout.first ≡ 1 + layout.vam + layout.vfm = (parts layout is).0 in grind (arith, nat_tests)

pub revealed_beside : (layout : Layout) (named : Triples) (m n : List Sector) (tables : Option (List ℕ)) (which : Manager) → IsLayout layout → MapIs layout named m → Differs (in_map which layout) m n
    → IfSome tables (AreTabled layout named m) → IfSome tables (AreTabled layout named n)
revealed_beside layout named m n tables which is map differs h =
    tables_revealed layout named named m n tables is map (keeps_undiffering layout m n differs (λ sector l from own. prefix_only which layout sector l is from)) (λ page sector own. own) h

-- and where the file map names no other page of theirs
pub revealed_renamed : (layout : Layout) (named later : Triples) (m n : List Sector) (o : InitialState) (id : ℕ) → IsLayout layout → MapIs layout named m → LeavesTables o id → Differs (in_map FileMap layout) m n → (id ≢ 3 → StaysNamed named later)
    → IfSome o.tables (AreTabled layout named m) → IfSome o.tables (AreTabled layout later n)
revealed_renamed layout named later m n o id is map never_blames differs stays h =
    revealed_left layout named later m n o id is map never_blames (λ other. keeps_undiffering layout m n differs (λ sector l from own. prefix_only FileMap layout sector l is from)) stays h

-- from a memory to another, and then to a third
pub keeps_sectors_then : (layout : Layout) (l m n : List Sector) → KeepsSectors layout l m → KeepsSectors layout m n → KeepsSectors layout l n
keeps_sectors_then layout l m n first next sector s from here own = next sector s from (first sector s from here own) own

-- ---- Calls that leave them.

-- a client's file is not theirs
pub client_leaves : (o : InitialState) (id : ℕ) → 16 ≤ id → LeavesTables o id
client_leaves o id client same = absurd (omega (arith, client, same))

-- and where nothing is revealed of them, nothing is
pub untold_leaves : (o : InitialState) (id : ℕ) → o.tables ≡ None → LeavesTables o id
untold_leaves o id none same = subst (λ (t : Option (List ℕ)). IfSome t (λ b. b ≡ [])) (sym none) tt

-- the identifier of a file is not theirs
pub file_untold : (o : InitialState) (id : ℕ) → is_file_id id ≡ true → id ≡ 3 → o.tables ≡ None
file_untold o id file same = let client = above_reserved id file in absurd (omega (arith, client, same))
