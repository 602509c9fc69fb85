-- What the file map reveals through its window, and what the memory says.
use Rattle.std.proofs.Common.{◌≡◌, ℕ, ◌*◌, ◌/◌, ◌≤◌, List, length, Option, Some, None, Ok, Err, IfOk, IfErr, IfSome, MatchResult, OnOk, refl, sym, ◌∙◌, ap, subst, arith}
use Rattle.std.specs.Prelude.{map as list_map}
use Rattle.std.specs.declared.result.Result.{Result}
use Rattle.labelled_disk.specs.declared.layout.Layout.{Layout}
use Rattle.labelled_disk.specs.declared.evidence.Evidence.TheVariants.{Mismatch, Malformed as MalformedPage, Missing}
use Rattle.labelled_disk.specs.declared.evidence.Halt.{Halt}
use Rattle.labelled_disk.specs.declared.evidence.Halt.TheVariants as halt
use Rattle.labelled_disk.specs.Sectors.{Sector}
use Rattle.labelled_disk.specs.State.{DiskState}
use Rattle.frame_pool.specs.declared.home.Home.{Home}
use Rattle.frame_pool.specs.Frames.{Slots}
use Rattle.page_tree.specs.Reveals.{RevealsTree}
use Rattle.page_tree.specs.Tree.{IsTree}
use Rattle.file_map.specs.declared.error.MapError.{MapError}
use Rattle.file_map.specs.declared.error.MapError.TheVariants.{Full, Malformed, Mem}
use Rattle.file_map.specs.Cause.{IsCause, IsBroken, FromMemory}
use Rattle.file_map.specs.declared.run.Run.{Run}
use Rattle.file_map.specs.Run.{run_bytes}
use Rattle.file_map.specs.Entries.{Entry}
use Rattle.file_map.specs.FileMap.{Triples, AreRuns, AreNamed as AreNames, most_records}
use Rattle.file_map.specs.Map.{ShownBy}
use Rattle.swapper_kernel.specs.declared.manager.Manager.{Manager}
use Rattle.swapper_kernel.specs.declared.manager.Manager.TheVariants.{FileMap}
use Rattle.swapper_kernel.specs.Maps.{IsMapHome, pages_of}
use Rattle.swapper_kernel.specs.Homes.{AreNamed}
use Rattle.swapper_kernel.specs.Stands.{Stands}
use Rattle.swapper_kernel.specs.Halts.{IsMismatch, HasCause, held_or}
use Rattle.swapper_kernel.specs.Window.{Reveals, Beside, IsAccounted, size_in}
use Rattle.swapper_kernel.specs.WindowLaws.{size_is}
use Rattle.filer_kernel.specs.Becomes.{Becomes}
use Rattle.filer_kernel.specs.Causes.{MapShows, MapHalts, IsFaultOrMismatch}
use Rattle.filer_kernel.specs.Halted.{halted}
use Rattle.filer_kernel.specs.Triples.{MapIs}
use Rattle.filer_kernel.proofs.MapLemmas.{becomes_shown}

-- the pages of so many bytes
pages_in : (n : ℕ) → 512 * n / 512 ≡ n
pages_in n = omega arith

pub window_pages : (which : Manager) (sectors : ℕ) (layout : Layout) → sectors ≡ layout.sectors → size_in which sectors layout / 512 ≡ pages_of which layout
window_pages which sectors layout size = ap (λ (n : ℕ). n / 512) (size_is which sectors layout size) ∙ pages_in (pages_of which layout)

-- the window reveals the bytes of the map
pub map_revealed : {d : DiskState} {s : Slots} {x : Layout} → d.sectors ≡ x.sectors → (m : List Sector) (named : Triples) → Stands d s m → (map : MapIs x named m) → Reveals FileMap d s x map.bytes
map_revealed size m named stands map = record { memory = m; stands = stands; shows = map.shows; size = size }

-- and the map over it names these triples
pub names_revealed : {d : DiskState} {s : Slots} {x : Layout} → d.sectors ≡ x.sectors → (m : List Sector) (named : Triples) → Stands d s m → MapIs x named m
    → AreNames x.sectors (RevealsTree 24 12 (size_in FileMap d.sectors x / 512) (Reveals FileMap d s x)) named
names_revealed {d = d} {s = s} {x = x} size m named stands map =
    let tree = map.names.listed in
    record {
      runs = map.names.runs;
      listed = record {
        bytes = tree.bytes;
        revealed = subst (Reveals FileMap d s x) (sym tree.revealed) (map_revealed size m named stands map);
        tree = subst (λ (n : ℕ). IsTree 24 12 n tree.bytes (list_map run_bytes map.names.runs)) (sym (window_pages FileMap d.sectors x size)) tree.tree;
        ascending = tree.ascending;
      };
      form = map.names.form;
      few = map.names.few;
      are = map.names.are;
    }

-- the map over the window names these triples afterwards
pub becomes_named : {also : Manager} {d e : DiskState} {s t : Slots} {x y : Layout} → FileMap ≡ also → Beside FileMap d s x e t y → (m : List Sector) → Stands d s m → (named : Triples) (n : ℕ) → n ≡ x.sectors
    → AreNames n (RevealsTree 24 12 (size_in also e.sectors y / 512) (Reveals also e t y)) named → Becomes FileMap x m (MapIs x named) e t
becomes_named {also = also} {e = e} {x = x} {y = y} same beside m stands named n of map =
    let tree = map.listed in
    let now = becomes_shown same beside m stands tree.bytes tree.revealed in
    let pages : size_in also e.sectors y / 512 ≡ x.vfm = window_pages also e.sectors y tree.revealed.size ∙ ap (λ (w : Manager). pages_of w y) (sym same) ∙ ap (λ (l : Layout). l.vfm) beside.layout in
    record {
      memory = now.memory;
      stands = now.stands;
      differs = now.differs;
      is = record {
        bytes = tree.bytes;
        shows = now.is;
        names = record {
          runs = map.runs;
          listed = record { bytes = tree.bytes; revealed = refl; tree = subst (λ (n : ℕ). IsTree 24 12 n tree.bytes (list_map run_bytes map.runs)) pages tree.tree; ascending = tree.ascending };
          form = subst (λ (k : ℕ). AreRuns k map.runs) of map.form;
          few = subst (λ (k : ℕ). length map.runs ≤ most_records k) of map.few;
          are = map.are;
        };
      };
    }

-- a halt of the window is one of a search of the map
pub search_halts : (x : Layout) (d e : DiskState) (s : Slots) (h : Halt) → HasCause (IsMismatch (held_or s (IsMapHome FileMap x)) d) d e h → MapHalts x d s e h
search_halts x d e s halt.Disk is = is
search_halts x d e s (halt.Damaged (Mismatch sector wanted found)) is = is
search_halts x d e s (halt.Damaged (MalformedPage structure page)) is = absurd is
search_halts x d e s (halt.Damaged (Missing id page)) is = is

pub broken_same : {n o p q page : ℕ} {reveals : List ℕ → Type 0} → n ≡ o → p ≡ q → IsBroken n (ShownBy reveals p) page → IsBroken o (ShownBy reveals q) page
broken_same of same h = rw (← of, ← same) h

-- why the map over a window answered an error; where it is full, this holds
abbrev pub IsWindowCause : ℕ → Type 0 → Manager → DiskState → Slots → Layout → DiskState → MapError Halt → Type 0
IsWindowCause n full which d s x e = IsCause n full (ShownBy (Reveals which d s x) (size_in which d.sectors x / 512)) (IsAccounted which d s x e)

-- what is said of the window's own swapper is said of the one that it was lent
pub cause_here : {T : Type 0} (r : Result T (MapError Halt)) (n : ℕ) (full : Manager → DiskState → Slots → Layout → Type 0) (e : DiskState) {which also : Manager} {a b : DiskState} {s t : Slots} {x y : Layout} → which ≡ also → a ≡ b → s ≡ t → x ≡ y
    → IfErr r (IsWindowCause n (full which a s x) which a s x e) → IfErr r (IsWindowCause n (full also b t y) also b t y e)
cause_here r n full e w d s l h = rw (← w, ← d, ← s, ← l) h

pub map_halts : {T : Type 0} (r : Result T (MapError Halt)) (n : ℕ) (x : Layout) (d e : DiskState) (s : Slots) → n ≡ x.sectors → d.sectors ≡ x.sectors
    → IfErr r (IsWindowCause n ⊥ FileMap d s x e) → IfErr (halted r) (MapHalts x d s e)
map_halts (Ok value) n x d e s of size is = tt
map_halts (Err Full) n x d e s of size is = absurd is
map_halts (Err (Malformed page)) n x d e s of size is = (refl, broken_same of (window_pages FileMap d.sectors x size) is)
map_halts (Err (Mem h)) n x d e s of size is = search_halts x d e s h is.cause

-- where the map is in form, and the labels of its sectors name its pages, it is a fault of the disk
pub map_sound : {T : Type 0} (r : Result T (MapError Halt)) (P : T → Type 0) (n : ℕ) (full : Type 0) (x : Layout) (d e : DiskState) (s : Slots) → MatchResult r P FromMemory
    → IfErr r (IsWindowCause n full FileMap d s x e) → (m : List Sector) → Stands d s m → AreNamed m (IsMapHome FileMap x) → IfErr (halted r) (λ h. h ≡ halt.Disk)
map_sound (Ok value) P n full x d e s own is m stands named = tt
map_sound (Err Full) P n full x d e s own is m stands named = absurd own
map_sound (Err (Malformed page)) P n full x d e s own is m stands named = absurd own
map_sound (Err (Mem h)) P n full x d e s own is m stands named = is.sound m stands named

-- a halt of the window is no page that breaks its form
pub window_right : (homes : Home → Type 0) (d e : DiskState) (h : Halt) → HasCause (IsMismatch homes d) d e h → IsFaultOrMismatch h
window_right homes d e halt.Disk is = tt
window_right homes d e (halt.Damaged (Mismatch sector wanted found)) is = tt
window_right homes d e (halt.Damaged (MalformedPage structure page)) is = is
window_right homes d e (halt.Damaged (Missing id page)) is = is

-- where the map is in form, neither is one of its calls
pub map_right : {T : Type 0} (r : Result T (MapError Halt)) (P : T → Type 0) (n : ℕ) (full : Type 0) (x : Layout) (d e : DiskState) (s : Slots) → MatchResult r P FromMemory → IfErr r (IsWindowCause n full FileMap d s x e)
    → IfErr (halted r) IsFaultOrMismatch
map_right (Ok value) P n full x d e s own is = tt
map_right (Err Full) P n full x d e s own is = absurd own
map_right (Err (Malformed page)) P n full x d e s own is = absurd own
map_right (Err (Mem h)) P n full x d e s own is = window_right (held_or s (IsMapHome FileMap x)) d e h is.cause

-- the run is a record that was read
pub ok_shown : (r : Result (Option Run) (MapError Halt)) (x : Layout) (d : DiskState) (s : Slots) → d.sectors ≡ x.sectors
    → IfOk r (λ found. IfSome found (λ run. (page : ℕ) × ShownBy (Reveals FileMap d s x) (size_in FileMap d.sectors x / 512) (Entry page (run_bytes run))))
    → IfOk (halted r) (λ found. IfSome found (λ run. (page : ℕ) × MapShows x d s (Entry page (run_bytes run))))
ok_shown (Ok (Some run)) x d s size is = (is.0, subst (λ (n : ℕ). ShownBy (Reveals FileMap d s x) n (Entry is.0 (run_bytes run))) (window_pages FileMap d.sectors x size) is.1)
ok_shown (Ok None) x d s size is = tt
ok_shown (Err error) x d s size is = tt

-- what holds of an answer holds of what is handed on
pub match_halted : {T : Type 0} (r : Result T (MapError Halt)) (P : T → Type 0) (Q : MapError Halt → Type 0) → MatchResult r P Q → IfOk (halted r) P
match_halted (Ok value) P Q is = is
match_halted (Err error) P Q is = tt

-- the bytes that a window reveals are those of the map
pub revealed_at : {also : Manager} {e : DiskState} {t : Slots} {x y : Layout} → FileMap ≡ also → y ≡ x → (b : List ℕ) → Reveals also e t y b → Reveals FileMap e t x b
revealed_at which layout b h = rw (which, ← layout) h

pub ok_halted : {T : Type 0} (r : Result T (MapError Halt)) (P : T → Type 0) → IfOk r P → IfOk (halted r) P
ok_halted (Ok value) P is = is
ok_halted (Err error) P is = tt

pub match_on_ok : {T : Type 0} (r : Result T (MapError Halt)) (P Q : Type 0) (E : MapError Halt → Type 0) → MatchResult r (λ value. P) E → (P → Q) → OnOk (halted r) Q
match_on_ok (Ok value) P Q E is f = f is
match_on_ok (Err error) P Q E is f = tt
