-- Why a call that cuts a file out of the map stops the session.
use Rattle.std.proofs.Common.{◌≡◌, ◌⊎◌, inl, inr, ℕ, not, ◌&&◌, List, ap, arith}
use Rattle.std.specs.Prelude.{◌==◌, nat_le}
use Rattle.std.proofs.lemmas.Bool.{and_parts}
use Rattle.labelled_disk.specs.declared.evidence.Evidence.{Evidence}
use Rattle.labelled_disk.specs.declared.evidence.Evidence.TheVariants.{Mismatch, Malformed, Missing}
use Rattle.labelled_disk.specs.declared.evidence.Halt.{Halt}
use Rattle.labelled_disk.specs.declared.evidence.Halt.TheVariants.{Disk, Damaged}
use Rattle.labelled_disk.specs.declared.layout.Layout.{Layout}
use Rattle.labelled_disk.specs.Sectors.{Sector}
use Rattle.labelled_disk.specs.State.{DiskState}
use Rattle.frame_pool.specs.Frames.{Slots}
use Rattle.file_map.specs.declared.run.Run.{Run}
use Rattle.file_map.specs.Run.{run_bytes}
use Rattle.file_map.specs.Entries.{Entry}
use Rattle.file_map.specs.Cause.{IsToCut}
use Rattle.file_map.specs.FileMap.{Triples, without_from}
use Rattle.swapper_kernel.specs.declared.manager.Manager.TheVariants.{FileMap}
use Rattle.swapper_kernel.specs.HaltLaws.{rose_wider}
use Rattle.swapper_kernel.specs.Homes.{home_at}
use Rattle.swapper_kernel.specs.Stands.{Stands}
use Rattle.swapper_kernel.specs.Window.{Beside}
use Rattle.filer_kernel.specs.Causes.{MapShows, MapEvidence, MapHalts, AddHalts, CutEvidence, CutHalts, IsFaultOrMost}
use Rattle.filer_kernel.specs.Triples.{MapIs}
use Rattle.file_manager.specs.Grounds.{IsUnframed, FreeEvidence, FreeHalts, TakesOut, CutFileHalts, PutsBack, IsFullStill, ShrinkHalts, KeepsMap}
use Rattle.file_manager.proofs.MakeStops.{beside_here, page_in}
use Rattle.file_manager.proofs.Keeping.{shown, free_before, search_before}

-- ---- The file is cut out of the map.

module _ {given : Type 0} {layout : Layout} {id : ℕ} {a b : DiskState} {s t : Slots} {kept runs : List Run} (keep : KeepsMap given layout id a s kept b t runs) (from : ℕ) (pages : ℕ → Type 0) where
  taken_out : (e : Evidence) (c : DiskState) (u : Slots) → MapEvidence layout b t e ⊎ IsToCut id from (MapShows layout b t) → CutEvidence layout b t c u e → FreeEvidence given layout kept id pages a s e ⊎ TakesOut given layout id from a s e
  taken_out (Mismatch sector wanted found) c u begun why = elim why.reason [
    | inl held ↦ elim (keep.brings.homes (home_at sector wanted) held) [ inl was ↦ inl (inl was) | inr own ↦ inl (inr (inl own)) ]
    | inr own ↦ inl (inr (inl (FileMap, own)))
  ]
  taken_out (Malformed structure page) c u begun why = elim begun [
    | inl broken ↦ inl (search_before keep (Malformed structure page) pages broken)
    | inr cut ↦ inr (why.0, λ g. record { run = cut.run; page = cut.page; shown = shown keep g (Entry cut.page (run_bytes cut.run)) cut.shown; of_file = cut.of_file; after = cut.after })
  ]
  taken_out (Missing missing page) c u begun why = absurd why

  pub cut_halts_after : (c : DiskState) (u : Slots) (halt : Halt) → MapHalts layout b t c halt ⊎ IsToCut id from (MapShows layout b t) → CutHalts layout b t c u halt → CutFileHalts given layout kept id from pages a s c halt
  cut_halts_after c u Disk begun why = rose_wider a.faults b.faults c.faults c.faults keep.faults (omega arith) why
  cut_halts_after c u (Damaged e) begun why = taken_out e c u begun why

-- what stops before the file is cut
pub cut_of_free : (given : Type 0) (layout : Layout) (kept : List Run) (id from : ℕ) (pages : ℕ → Type 0) (a c : DiskState) (s : Slots) (halt : Halt) → FreeHalts given layout kept id pages a s c halt → CutFileHalts given layout kept id from pages a s c halt
cut_of_free given layout kept id from pages a c s Disk is = is
cut_of_free given layout kept id from pages a c s (Damaged e) is = inl is

-- ---- A file that gets fewer pages.

module _ {given : Type 0} {layout : Layout} {id : ℕ} {a b : DiskState} {s t : Slots} {kept runs : List Run} (keep : KeepsMap given layout id a s kept b t runs) (size : a.sectors ≡ layout.sectors)
    (from : ℕ) (pages more : ℕ → Type 0) (all : (page : ℕ) → pages page → more page) (c : DiskState) (u : Slots) where
  out_before : (e : Evidence) → TakesOut (IsUnframed t id) layout id from b t e → TakesOut given layout id from a s e
  out_before (Mismatch sector wanted found) is = absurd is
  out_before (Malformed structure page) is = (is.0, λ g. let cut = is.1 (keep.unframed g) in record { run = cut.run; page = cut.page; shown = shown keep g (Entry cut.page (run_bytes cut.run)) cut.shown; of_file = cut.of_file; after = cut.after })
  out_before (Missing missing page) is = absurd is

  back_before : (e : Evidence) → PutsBack (IsUnframed t id) layout b t c u e → PutsBack given layout a s c u e
  back_before (Mismatch sector wanted found) is = absurd is
  back_before (Malformed structure page) is = (
    is.0,
    λ g m named stands map.
        let now = keep.revealed g map.bytes (record { memory = m; stands = stands; shows = map.shows; size = size }) in
        is.1 (keep.unframed g) now.memory named now.stands (record { bytes = map.bytes; shows = now.shows; names = map.names }),
  )
  back_before (Missing missing page) is = absurd is

  -- the halt of a call that shrinks the file, after them
  pub shrink_halts_after : (halt : Halt) → ShrinkHalts (IsUnframed t id) layout runs id from pages b t c u halt → ShrinkHalts given layout kept id from more a s c u halt
  shrink_halts_after Disk is = rose_wider a.faults b.faults c.faults c.faults keep.faults (omega arith) is
  shrink_halts_after (Damaged e) is = elim is [
    | inl free ↦ inl (free_before keep pages more all size e free)
    | inr (inl out) ↦ inr (inl (out_before e out))
    | inr (inr back) ↦ inr (inr (back_before e back))
  ]

-- it stops where pages are freed
pub shrink_of_free : (given : Type 0) (layout : Layout) (kept : List Run) (id from : ℕ) (pages : ℕ → Type 0) (a c : DiskState) (s u : Slots) (halt : Halt) → FreeHalts given layout kept id pages a s c halt → ShrinkHalts given layout kept id from pages a s c u halt
shrink_of_free given layout kept id from pages a c s u Disk is = is
shrink_of_free given layout kept id from pages a c s u (Damaged e) is = inl is

-- where the file is cut
pub shrink_of_cut : (given : Type 0) (layout : Layout) (kept : List Run) (id from : ℕ) (pages : ℕ → Type 0) (a c : DiskState) (s u : Slots) (halt : Halt) → CutFileHalts given layout kept id from pages a s c halt → ShrinkHalts given layout kept id from pages a s c u halt
shrink_of_cut given layout kept id from pages a c s u Disk is = is
shrink_of_cut given layout kept id from pages a c s u (Damaged e) is = elim is [ inl free ↦ inl free | inr out ↦ inr (inl out) ]

-- and where the leader is put in again
pub shrink_of_add : (given : Type 0) {layout later last : Layout} (kept : List Run) (id from : ℕ) (pages : ℕ → Type 0) {a b c : DiskState} {s t u : Slots} → Beside FileMap a s layout b t later → Beside FileMap b t layout c u last → (halt : Halt)
    → AddHalts layout b t c halt → ((m : List Sector) (named : Triples) → Stands a s m → MapIs layout named m → (n : List Sector) × Stands b t n × MapIs layout (without_from named id from) n × IsFaultOrMost layout b t halt) → ShrinkHalts given layout kept id from pages a s c u halt
shrink_of_add given kept id from pages {a = a} {b = b} {c = c} first second Disk is right = rose_wider a.faults b.faults c.faults c.faults first.goes.makes.went.faults (omega arith) is
shrink_of_add given kept id from pages first second (Damaged (Mismatch sector wanted found)) is right = elim is.reason [
  | inl held ↦ elim (first.brings.homes (home_at sector wanted) held) [ inl was ↦ inl (inl was) | inr own ↦ inl (inr (inl (FileMap, own))) ]
  | inr own ↦ inl (inr (inl (FileMap, own)))
]
shrink_of_add given {layout = layout} kept id from pages {b = b} {c = c} {t = t} {u = u} first second (Damaged (Malformed structure page)) is right = inr (inr (is.0, λ g m named stands map. filled m named (right m named stands map)))
  where
    filled : (m : List Sector) (named : Triples) → (n : List Sector) × Stands b t n × MapIs layout (without_from named id from) n × IsFaultOrMost layout b t (Damaged (Malformed structure page)) → (page ≡ 0) × IsFullStill layout named c u
    filled m named (n, stands, map, inl not) = absurd not
    filled m named (n, stands, map, inr (same, counts)) = (
      ap page_in same,
      record {
        disk = b;
        slots = t;
        memory = n;
        stands = stands;
        later = without_from named id from;
        map = map;
        only = λ i p sector is. (and_parts (named i p sector) (not ((i == id) && nat_le from p)) is).0;
        full = counts;
        until = beside_here second;
      },
    )
shrink_of_add given kept id from pages first second (Damaged (Missing missing page)) is right = absurd is
