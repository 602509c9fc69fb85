-- A look-up in the tables, a search of the map, and pages brought in: each finds pages and brings them in.
use Rattle.std.proofs.Common.{◌≡◌, ◌⊎◌, inl, inr, ℕ, ◌≤◌, List, length, Some, refl, sym, ◌∙◌, ap, subst, arith}
use Rattle.labelled_disk.specs.declared.layout.Layout.{Layout}
use Rattle.labelled_disk.specs.declared.evidence.Evidence.TheVariants.{Mismatch, Malformed, Missing}
use Rattle.labelled_disk.specs.declared.evidence.Halt.{Halt}
use Rattle.labelled_disk.specs.declared.evidence.Halt.TheVariants.{Disk, Damaged}
use Rattle.labelled_disk.specs.Sectors.{Sector, AreSectors}
use Rattle.frame_pool.specs.declared.home.Home.{Home}
use Rattle.frame_pool.specs.Frames.{Slots, ArePages}
use Rattle.file_map.specs.declared.run.Run.{Run}
use Rattle.file_map.specs.FileMap.{Triples}
use Rattle.swapper_kernel.specs.declared.manager.Manager.TheVariants.{FileMap}
use Rattle.swapper_kernel.specs.Maps.{IsMapHome}
use Rattle.swapper_kernel.specs.Homes.{IsLayout, Brings, Homes}
use Rattle.swapper_kernel.specs.Stands.{Stands}
use Rattle.swapper_kernel.specs.Differs.{Differs}
use Rattle.swapper_kernel.specs.Goes.{Same, Swaps}
use Rattle.swapper_kernel.specs.GoesLaws.{goes_then, swaps_wider}
use Rattle.swapper_kernel.specs.Halts.{Halts, held_or}
use Rattle.swapper_kernel.specs.HaltLaws.{brings_then, brings_wider, label_before, rose_wider}
use Rattle.swapper_kernel.specs.Window.{Reveals, Beside}
use Rattle.filer_kernel.specs.Cached.{runs_of}
use Rattle.filer_kernel.specs.Triples.{MapIs, AreOf, IsOneOf}
use Rattle.filer_kernel.specs.Causes.{IsGiven, MapHalts}
use Rattle.filer_kernel.specs.Tables.{in_tables, table_pages, IsFoundHome, FoundHalts, IsComing, BesideTables, IsTableAccounted}
use Rattle.filer_kernel.specs.TableOnce.{ComeOver, come_over, map_over, run_home_over, same_sectors, tables_stay, tables_swapped}
use Rattle.filer_kernel.proofs.FoundLemmas.{memory_stays, beside_found}
use Rattle.filer_kernel.specs.View.{View, kept_by, TablesAre}
use Rattle.fault_core.specs.Reach.{IsReachedHome, IsReached, Reaches, ReachHalts, BringsOwn, no_break}

found_reached : (v : View) (home : Home) → IsFoundHome v.layout v.disk v.slots (kept_by v) home → IsReachedHome v home
found_reached v home found = record { on_data = found.table.on_data; by_run = found.by_run }

coming_reached : (v : View) (home : Home) → IsComing v.layout v.disk v.slots (kept_by v) home → IsReached v home
coming_reached v home coming = elim coming [ inl map ↦ inl map | inr found ↦ inr (found_reached v home found) ]

-- ---- The tables.

pub reaches_tables : (v w : View) → BesideTables v.disk v.slots v.layout v.runs w.disk w.slots w.layout w.runs → ((b : List ℕ) → TablesAre v b → TablesAre w b) → Reaches v w
reaches_tables v w h same = record {
  goes = h.goes;
  brings = brings_wider (IsReached v) (coming_reached v) h.brings;
  layout = h.layout;
  given = λ r one. h.given r (subst (λ (l : Layout). IsOneOf r (runs_of l.sectors w.runs)) h.layout one);
  runs_are = λ m named stands map are. subst (λ (l : Layout). AreOf named (runs_of l.sectors w.runs)) (sym h.layout) (h.runs_are m named stands map are);
  revealed = same;
}

pub map_id : (layout : Layout) (home : Home) → IsMapHome FileMap layout home → (1 ≤ home.id) × (home.id ≤ 3)
map_id layout home map =
    let two : home.id ≡ 2 = ap (λ (h : Home). h.id) map.2 in
    (omega (arith, two), omega (arith, two))

pub own_tables : (v : View) (t : Slots) → Brings (IsComing v.layout v.disk v.slots (kept_by v)) v.slots t → BringsOwn v.slots t
own_tables v t brings = brings_wider (λ home. (1 ≤ home.id) × (home.id ≤ 3)) (λ home coming. elim coming [
  | inl map ↦ map_id v.layout home map
  | inr found ↦ let three = found.table.of_tables in (omega (arith, three), omega (arith, three))
]) brings

pub tables_halt : (v w : View) (breaks : ℕ → Type 0) (e : Halt) → IsTableAccounted v.disk v.slots v.layout v.runs w.disk e → ReachHalts breaks v w e
tables_halt v w breaks e accounted = wider e accounted.cause
  where
    wider : (e : Halt) → FoundHalts v.layout v.disk v.slots (kept_by v) w.disk e → ReachHalts breaks v w e
    wider Disk h = h
    wider (Damaged (Mismatch sector wanted found)) h = record { there = h.there; other = h.other; reason = elim h.reason [ inl held ↦ inl held | inr home ↦ inr (found_reached v _ home) ] }
    wider (Damaged (Malformed structure page)) h = inl h
    wider (Damaged (Missing id page)) h = ((h.0, h.1), h.2)

-- ---- The map.

pub reaches_map : (v w : View) → IsLayout v.layout → v.disk.sectors ≡ v.layout.sectors → ((all : List Sector) → v.disk.contents ≡ Some all → length all ≡ v.disk.sectors)
    → ((all : List Sector) → v.disk.contents ≡ Some all → AreSectors all) → ArePages v.slots → Beside FileMap v.disk v.slots v.layout w.disk w.slots w.layout
    → ((b : List ℕ) → Reveals FileMap v.disk v.slots v.layout b → Reveals FileMap w.disk w.slots v.layout b)
    → ((r : Run) → IsOneOf r (runs_of v.layout.sectors w.runs) → IsGiven v.layout v.disk v.slots (kept_by v) r)
    → ((m : List Sector) (named : Triples) → Stands v.disk v.slots m → MapIs v.layout named m → AreOf named (kept_by v) → AreOf named (runs_of v.layout.sectors w.runs)) → Reaches v w
reaches_map v w is size whole form pages beside bytes given are =
    let stays = memory_stays is size whole form pages beside bytes in
    reaches_tables v w (beside_found beside stays given are)
    (λ b reveals. tables_stay beside.layout beside.goes.makes.went.sectors (λ m named stands map. stays m stands) are b reveals (map_over v.layout reveals.triples beside.brings))

pub own_map : (v w : View) → Beside FileMap v.disk v.slots v.layout w.disk w.slots w.layout → BringsOwn v.slots w.slots
own_map v w beside = brings_wider (λ home. (1 ≤ home.id) × (home.id ≤ 3)) (map_id v.layout) beside.brings

pub map_halt : (v w : View) (breaks : ℕ → Type 0) (e : Halt) → MapHalts v.layout v.disk v.slots w.disk e → ReachHalts breaks v w e
map_halt v w breaks Disk h = h
map_halt v w breaks (Damaged (Mismatch sector wanted found)) h = record { there = h.there; other = h.other; reason = inl h.reason }
map_halt v w breaks (Damaged (Malformed structure page)) h = inl h
map_halt v w breaks (Damaged (Missing id page)) h = absurd h

-- ---- Pages brought in, after others.

module _ (v w x : View) (is : IsLayout v.layout) (h : Reaches v w) (come : Homes) (found : (home : Home) → come home → IsReachedHome v home) where
  -- where the space tables are revealed, pages of them come where the map has them
  brought_over : Brings come w.slots x.slots → (b : List ℕ) (reveals : TablesAre v b) → ComeOver w.slots x.slots (h.revealed b reveals).triples
  brought_over brings b reveals = come_over come (h.revealed b reveals).triples
      (λ home one three. same_sectors is h.layout h.goes reveals (h.revealed b reveals) 3 home.page home.sector ∙ run_home_over is reveals home (found home one).by_run three) brings

  pub reaches_brought : Swaps w.disk w.slots x.disk x.slots → Brings come w.slots x.slots → x.layout ≡ w.layout → x.runs ≡ w.runs → Reaches v x
  reaches_brought swaps brings layout runs = record {
    goes = goes_then (Differs (in_tables v.layout)) Same (Differs (in_tables v.layout)) (λ m n o first last. subst (Differs (in_tables v.layout) m) (sym last) first) h.goes (swaps_wider table_pages swaps);
    brings = brings_then h.brings (brings_wider (IsReached v) (λ home is. inr (found home is)) brings);
    layout = layout ∙ h.layout;
    given = λ r one. h.given r (rw (← layout, ← runs) one);
    runs_are = λ m named stands map are. rw (layout, runs) (h.runs_are m named stands map are);
    revealed = λ b reveals. rw (layout, runs) (tables_swapped refl swaps b (h.revealed b reveals) (brought_over brings b reveals));
  }

  reason_brought : (home : Home) → held_or w.slots come home → held_or v.slots (IsMapHome FileMap v.layout) home ⊎ IsReachedHome v home
  reason_brought home reason = elim reason [
    | inl held ↦ elim (h.brings.homes home held) [
      | inl was ↦ inl (inl was)
      | inr (inl map) ↦ inl (inr map)
      | inr (inr new) ↦ inr new
    ]
    | inr new ↦ inr (found home new)
  ]

  pub brought_halt : (e : Halt) → Halts come w.disk w.slots x.disk e → ReachHalts no_break v x e
  brought_halt Disk is = rose_wider v.disk.faults w.disk.faults x.disk.faults x.disk.faults h.goes.makes.went.faults (omega arith) is
  brought_halt (Damaged (Mismatch sector wanted label)) is = record { there = label_before h.goes.makes.wrote sector label is.there; other = is.other; reason = reason_brought _ is.reason }
  brought_halt (Damaged (Malformed structure page)) is = absurd is
  brought_halt (Damaged (Missing id page)) is = absurd is
