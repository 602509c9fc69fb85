-- Pages of the space tables that are brought into frames.
use Rattle.std.proofs.Common.{◌≡◌, ◌≢◌, ◌⊎◌, inl, inr, ℕ, ◌*◌, ◌<◌, ◌≤◌, true, List, refl, sym, ◌∙◌, ap, subst, arith}
use Rattle.std.specs.Prelude.{slice_get, Result, Ok, Err, IfOk, IfErr}
use Rattle.std.proofs.lemmas.Option.{same_Some}
use Rattle.labelled_disk.specs.declared.layout.Layout.{Layout}
use Rattle.labelled_disk.specs.declared.evidence.Halt.{Halt}
use Rattle.labelled_disk.specs.declared.evidence.Evidence.TheVariants.{Mismatch, Malformed, Missing}
use Rattle.labelled_disk.specs.declared.evidence.Halt.TheVariants.{Disk, Damaged}
use Rattle.labelled_disk.specs.Sectors.{Sector}
use Rattle.labelled_disk.specs.State.{DiskState}
use Rattle.flat_mem.specs.Memory.{part}
use Rattle.frame_pool.specs.declared.home.Home.{Home}
use Rattle.frame_pool.specs.Frames.{Slots, Frame, Has}
use Rattle.swapper_kernel.specs.declared.manager.Manager.{Manager}
use Rattle.swapper_kernel.specs.declared.manager.Manager.TheVariants.{AllocationMap, FileMap}
use Rattle.swapper_kernel.specs.Maps.{IsMapHome, id_of}
use Rattle.swapper_kernel.specs.Homes.{IsLayout, IsPlaced, IsNamed, Brings, no_home}
use Rattle.swapper_kernel.specs.Stands.{Stands, IsHome}
use Rattle.swapper_kernel.specs.Differs.{Differs}
use Rattle.swapper_kernel.specs.Goes.{Same, Swaps}
use Rattle.swapper_kernel.specs.GoesLaws.{goes_then, swaps_then, swaps_wider}
use Rattle.swapper_kernel.specs.Halts.{Halts, held_or}
use Rattle.swapper_kernel.specs.HaltLaws.{brings_then, brings_wider, label_before, rose_wider}
use Rattle.swapper_kernel.specs.Steps.{Steps}
use Rattle.swapper_kernel.specs.CourseLaws.{steps_then, steps_wider}
use Rattle.filer_kernel.specs.declared.cached.CachedRuns.{CachedRuns}
use Rattle.filer_kernel.specs.Cached.{runs_of}
use Rattle.filer_kernel.specs.Causes.{IsRunHome}
use Rattle.filer_kernel.specs.PlaceLaws.{one_sector}
use Rattle.filer_kernel.specs.Tables.{in_tables, table_pages, IsFoundHome, FoundHalts, IfMissing, IsComing, IsChanging, IsTablePage, TablesReveal, BesideTables, LookedTables, IsTableAccounted}
use Rattle.filer_kernel.specs.TableLaws.{looked_tables_beside}
use Rattle.filer_kernel.specs.TableOnce.{ComeOver, come_over, run_home_over, same_sectors, tables_swapped}

no_map : (id : ℕ) → id ≡ 3 → (which : Manager) → id ≢ id_of which
no_map id three AllocationMap same = absurd (omega (arith, three, same))
no_map id three FileMap same = absurd (omega (arith, three, same))

-- the home of a frame of the space tables is a data sector
pub table_on_data : (x : Layout) (home : Home) → IsPlaced x home → home.id ≡ 3 → (x.first ≤ home.sector) × (home.sector < x.sectors)
table_on_data x home placed three = placed.of_file (no_map home.id three)

-- a frame of the space tables has what is revealed
pub table_shown : (x : Layout) (d : DiskState) (s : Slots) (k : CachedRuns) (b : List ℕ) (page i : ℕ) (f : Frame) → page < 96 → TablesReveal d s x k b → Has s i f → f.home.id ≡ 3 → f.home.page ≡ page
    → f.bytes ≡ part b (512 * page) 512
table_shown x d s k b page i f below reveals has three at =
    let home : IsHome reveals.memory f = reveals.stands.merged.frames i f has in
    let p : IsTablePage x reveals.triples reveals.memory page (part b (512 * page) 512) = reveals.page page below in
    let over : reveals.triples 3 page f.home.sector ≡ true =
    ap (λ (j : ℕ). reveals.triples 3 j f.home.sector) (sym at) ∙ reveals.held f.home (record { slot = i; frame = f; has = has; at = refl }) three (omega (arith, at, below)) in
    let same : f.home.sector ≡ p.sector = one_sector x reveals.triples reveals.memory reveals.map 3 page f.home.sector p.sector over p.found in
    ap (λ (t : Sector). t.1) (same_Some {A = Sector} (home.label, f.bytes) (p.label, part b (512 * page) 512) (sym home.keeps ∙ ap (slice_get reveals.memory) same ∙ p.keeps))

-- the frame that a call gives is that of the page
pub table_there : (r : Result ℕ Halt) (s : Slots) (home : Home) (page : ℕ) → home.id ≡ 3 → home.page ≡ page → IfOk r (λ i. (f : Frame) × Has s i f × (f.home.id ≡ home.id) × (f.home.page ≡ home.page))
    → IfOk r (λ i. (f : Frame) × Has s i f × (f.home.id ≡ 3) × (f.home.page ≡ page))
table_there (Ok i) s home page three at is = (is.0, is.1, is.2 ∙ three, is.3 ∙ at)
table_there (Err e) s home page three at is = tt

-- and has what is revealed
pub table_shown_there : (r : Result ℕ Halt) (x : Layout) (d : DiskState) (s : Slots) (k : CachedRuns) (b : List ℕ) (page : ℕ) → page < 96 → TablesReveal d s x k b
    → IfOk r (λ i. (f : Frame) × Has s i f × (f.home.id ≡ 3) × (f.home.page ≡ page)) → IfOk r (λ i. (f : Frame) × Has s i f × (f.bytes ≡ part b (512 * page) 512))
table_shown_there (Ok i) x d s k b page below reveals is = (is.0, is.1, table_shown x d s k b page i is.0 below reveals is.1 is.2 is.3)
table_shown_there (Err e) x d s k b page below reveals is = tt

module _ {a b : DiskState} {s t : Slots} {x y : Layout} {k l : CachedRuns} (home : Home) (h : BesideTables a s x k b t y l) (found : IsFoundHome x a s (runs_of x.sectors k) home) where
  -- its frame is over the sector where the map has it
  over_fetched : {u : Slots} → IsLayout x → Brings (λ (o : Home). o ≡ home) t u → (bytes later : List ℕ) → (reveals : TablesReveal a s x k bytes) → (revealed : TablesReveal b t y l later) → ComeOver t u revealed.triples
  over_fetched is brings bytes later reveals revealed =
      come_over (λ (o : Home). o ≡ home) revealed.triples (λ o same three.
      same_sectors is h.layout h.goes reveals revealed 3 o.page o.sector ∙ run_home_over is reveals o (subst (IsRunHome x a s (runs_of x.sectors k)) (sym same) found.by_run) three) brings

  -- the same is revealed
  pub revealed_fetched : {c : DiskState} {u : Slots} {z : Layout} → IsLayout x → Swaps b t c u → Brings (λ (o : Home). o ≡ home) t u → z ≡ y → ((bytes : List ℕ) → TablesReveal a s x k bytes → TablesReveal b t y l bytes)
      → (bytes : List ℕ) → TablesReveal a s x k bytes → TablesReveal c u z l bytes
  revealed_fetched is swaps brings same mid bytes reveals = tables_swapped same swaps bytes (mid bytes reveals) (over_fetched is brings bytes bytes reveals (mid bytes reveals))

  -- a page that was found is brought in
  pub beside_fetched : {c : DiskState} {u : Slots} {z : Layout} → IsLayout x → Swaps b t c u → Brings (λ (o : Home). o ≡ home) t u → Steps (λ (o : Home). o ≡ home) no_home b t c u → z ≡ y → BesideTables a s x k c u z l
  beside_fetched is_layout swaps brings steps same = record {
    goes = goes_then (Differs (in_tables x)) Same (Differs (in_tables x)) (λ m n o first last. subst (Differs (in_tables x) m) (sym last) first) h.goes (swaps_wider table_pages swaps);
    brings = brings_then h.brings (brings_wider (IsComing x a s (runs_of x.sectors k)) (λ o is. inr (subst (IsFoundHome x a s (runs_of x.sectors k)) (sym is) found)) brings);
    steps = steps_then h.steps (steps_wider (IsComing x a s (runs_of x.sectors k)) (IsChanging x) (λ o is. inr (subst (IsFoundHome x a s (runs_of x.sectors k)) (sym is) found)) (λ o no. absurd no) steps);
    layout = same ∙ h.layout;
    given = h.given;
    runs_are = h.runs_are;
    revealed = λ bytes reveals. let mid = h.revealed bytes reveals in (mid.0, tables_swapped same swaps mid.0 mid.1 (over_fetched is_layout brings bytes mid.0 reveals mid.1));
  }

  reason_found : (o : Home) → held_or t (λ (i : Home). i ≡ home) o → held_or s (IsMapHome FileMap x) o ⊎ IsFoundHome x a s (runs_of x.sectors k) o
  reason_found o reason = elim reason [
    | inl held ↦ elim (h.brings.homes o held) [
      | inl was ↦ inl (inl was)
      | inr (inl map) ↦ inl (inr map)
      | inr (inr new) ↦ inr new
    ]
    | inr same ↦ inr (subst (IsFoundHome x a s (runs_of x.sectors k)) (sym same) found)
  ]

  halts_fetched : (c : DiskState) (e : Halt) → Halts (λ (o : Home). o ≡ home) b t c e → FoundHalts x a s (runs_of x.sectors k) c e
  halts_fetched c Disk is = rose_wider a.faults b.faults c.faults c.faults h.goes.makes.went.faults (omega arith) is
  halts_fetched c (Damaged (Mismatch sector wanted label)) is = record { there = label_before h.goes.makes.wrote sector label is.there; other = is.other; reason = reason_found _ is.reason }
  halts_fetched c (Damaged (Malformed structure page)) is = absurd is
  halts_fetched c (Damaged (Missing id page)) is = absurd is

  -- it could not be brought in
  pub accounted_fetched : (c : DiskState) (r : Result ℕ Halt) → IfErr r (Halts (λ (o : Home). o ≡ home) b t c) → ((m : List Sector) → Stands b t m → IsNamed m home → IfErr r (λ e. e ≡ Disk))
      → ((m : List Sector) → Stands a s m → Stands b t m) → ((bytes : List ℕ) → TablesReveal a s x k bytes → (m : List Sector) → Stands a s m → IsNamed m home) → IfErr r (IsTableAccounted a s x k c)
  accounted_fetched c (Ok i) cause sound stays named = tt
  accounted_fetched c (Err e) cause sound stays named = record { cause = halts_fetched c e cause; sound = λ m bytes stands maps reveals. sound m (stays m stands) (named bytes reveals m stands) }

-- a page that was found is brought in, and what is done is a look
pub looked_fetched : {a b c : DiskState} {s t u : Slots} {x y z : Layout} {k l : CachedRuns} (home : Home) → LookedTables a s x k b t y l → IsFoundHome x a s (runs_of x.sectors k) home → IsLayout x
    → Swaps b t c u → Brings (λ (o : Home). o ≡ home) t u → Steps (λ (o : Home). o ≡ home) no_home b t c u → z ≡ y → LookedTables a s x k c u z l
looked_fetched {a = a} {s = s} {x = x} {k = k} home h found is swaps brings steps same =
    let coming : (o : Home) → o ≡ home → IsComing x a s (runs_of x.sectors k) o = λ o at. inr (subst (IsFoundHome x a s (runs_of x.sectors k)) (sym at) found) in
    record {
      swaps = swaps_then h.swaps swaps;
      brings = brings_then h.brings (brings_wider (IsComing x a s (runs_of x.sectors k)) coming brings);
      steps = steps_then h.steps (steps_wider (IsComing x a s (runs_of x.sectors k)) no_home coming (λ o no. no) steps);
      layout = same ∙ h.layout;
      given = h.given;
      runs_are = h.runs_are;
      revealed = λ bytes reveals. revealed_fetched home (looked_tables_beside h) found is swaps brings same h.revealed bytes reveals;
    }

-- no page is missing where one was found
missing_no : (homes : Home → Type 0) (b : DiskState) (t : Slots) (c : DiskState) (page : ℕ) (e : Halt) → Halts homes b t c e → IfMissing page e
missing_no homes b t c page Disk is = tt
missing_no homes b t c page (Damaged (Mismatch sector wanted label)) is = tt
missing_no homes b t c page (Damaged (Malformed structure broken)) is = tt
missing_no homes b t c page (Damaged (Missing id missing)) is = absurd is

pub found_missing : (homes : Home → Type 0) (b : DiskState) (t : Slots) (c : DiskState) (page : ℕ) (r : Result ℕ Halt) → IfErr r (Halts homes b t c) → IfErr r (IfMissing page)
found_missing homes b t c page (Ok i) is = tt
found_missing homes b t c page (Err e) is = missing_no homes b t c page e is
