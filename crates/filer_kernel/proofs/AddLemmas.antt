-- Why a run is not added to the file map.
use Rattle.std.proofs.Common.{◌≡◌, ◌<◌, ◌/◌, ℕ, Bool, List, length, Ok, Err, IfErr, MatchResult, inl, inr, refl, sym, ap, subst, arith}
use Rattle.std.specs.Prelude.{map as list_map}
use Rattle.std.specs.declared.result.Result.{Result}
use Rattle.labelled_disk.specs.declared.layout.Layout.{Layout}
use Rattle.labelled_disk.specs.declared.evidence.Evidence.TheVariants.{Mismatch, Malformed as MalformedPage, Missing}
use Rattle.labelled_disk.specs.declared.evidence.Halt.{Halt}
use Rattle.labelled_disk.specs.declared.evidence.Halt.TheVariants as halt
use Rattle.labelled_disk.specs.Sectors.{Sector}
use Rattle.labelled_disk.specs.State.{DiskState}
use Rattle.frame_pool.specs.Frames.{Slots}
use Rattle.page_tree.specs.Page.{page_at, count_in}
use Rattle.file_map.specs.declared.error.MapError.{MapError}
use Rattle.file_map.specs.declared.error.MapError.TheVariants.{Full, Malformed, Mem}
use Rattle.file_map.specs.Run.{run_bytes}
use Rattle.file_map.specs.Cause.{IsFullOr, IsAddCause, IsMost}
use Rattle.file_map.specs.Entries.{Stops}
use Rattle.file_map.specs.FileMap.{Triples, most_records}
use Rattle.file_map.specs.Map.{ShownBy}
use Rattle.file_map.specs.Laws.{AreOnce, AreAmong, data_count}
use Rattle.file_map.specs.Shown.{counted_same}
use Rattle.file_map.proofs.Few.{are_few}
use Rattle.swapper_kernel.specs.declared.manager.Manager.{Manager}
use Rattle.swapper_kernel.specs.declared.manager.Manager.TheVariants.{FileMap}
use Rattle.swapper_kernel.specs.Maps.{IsMapHome}
use Rattle.swapper_kernel.specs.Homes.{AreNamed}
use Rattle.swapper_kernel.specs.Stands.{Stands}
use Rattle.swapper_kernel.specs.Halts.{IsMismatch, HasCause, held_or}
use Rattle.swapper_kernel.specs.Window.{Reveals, IsAccounted, size_in}
use Rattle.swapper_kernel.specs.OnceLaws.{reveals_once}
use Rattle.filer_kernel.specs.Causes.{AddHalts, MapCounts, IsFaultOrMost}
use Rattle.filer_kernel.specs.Halted.{halted}
use Rattle.filer_kernel.specs.Triples.{MapIs}
use Rattle.filer_kernel.proofs.FileLemmas.{names_revealed, window_pages, broken_same, window_right}

-- the window reveals a map that counts so many records
abbrev pub RevealsCount : ℕ → Manager → DiskState → Slots → Layout → Type 0
RevealsCount n which d s x = (b : List ℕ) × Reveals which d s x b × (n ≡ count_in (page_at b 0))

-- why an addition to the map over a window answered an error
abbrev pub IsWindowAddCause : ℕ → Type 0 → Manager → DiskState → Slots → Layout → DiskState → MapError Halt → Type 0
IsWindowAddCause n full which d s x e = IsAddCause n full (ShownBy (Reveals which d s x) (size_in which d.sectors x / 512)) (IsAccounted which d s x e)

-- what is said of the window's own swapper is said of the one that it was lent
pub add_cause_here : {T : Type 0} (r : Result T (MapError Halt)) (n : ℕ) (full : Manager → DiskState → Slots → Layout → Type 0) (e : DiskState) {which also : Manager} {a b : DiskState} {s t : Slots} {x y : Layout} → which ≡ also → a ≡ b → s ≡ t → x ≡ y
    → IfErr r (IsWindowAddCause n (full which a s x) which a s x e) → IfErr r (IsWindowAddCause n (full also b t y) also b t y e)
add_cause_here r n full e w d s l h = rw (← w, ← d, ← s, ← l) h

stops_same : {p q page : ℕ} {reveals : List ℕ → Type 0} → p ≡ q → ShownBy reveals p (Stops page) → ShownBy reveals q (Stops page)
stops_same same h = rw (← same) h

-- where fewer sectors are used than records may be, the map has room
pub has_room : {d : DiskState} {s : Slots} {x : Layout} → d.sectors ≡ x.sectors → (m : List Sector) (named : Triples) (used : ℕ → Bool) → Stands d s m → MapIs x named m → AreOnce named → AreAmong named used
    → data_count x.sectors used < most_records x.sectors → (n : ℕ) → n ≡ x.sectors → RevealsCount (most_records n) FileMap d s x → ⊥
has_room {d = d} {s = s} {x = x} size m named used stands map once among room n of counted =
    let revealed = names_revealed size m named stands map in
    let tree = revealed.listed in
    let count : most_records n ≡ length (list_map run_bytes revealed.runs) =
    counted_same (most_records n) (length (list_map run_bytes revealed.runs)) counted.0 tree.bytes (reveals_once FileMap d s x counted.0 tree.bytes counted.1 tree.revealed) counted.2 (sym tree.tree.header.count_is) in
    let few = are_few x.sectors _ named revealed (most_records n) count used once among in
    let same : most_records n ≡ most_records x.sectors = ap most_records of in
    omega (arith, few, room, same)

pub add_sound : {T : Type 0} (r : Result T (MapError Halt)) (P : T → Type 0) (n : ℕ) (whole full stays : Type 0) (x : Layout) (d e : DiskState) (s : Slots) → (full → ⊥) → MatchResult r P (IsFullOr full stays)
    → IfErr r (IsWindowAddCause n whole FileMap d s x e) → (m : List Sector) → Stands d s m → AreNamed m (IsMapHome FileMap x) → IfErr (halted r) (λ h. h ≡ halt.Disk)
add_sound (Ok value) P n whole full stays x d e s room own is m stands named = tt
add_sound (Err Full) P n whole full stays x d e s room own is m stands named = absurd (room own.0)
add_sound (Err (Malformed page)) P n whole full stays x d e s room own is m stands named = absurd own
add_sound (Err (Mem h)) P n whole full stays x d e s room own is m stands named = is.sound m stands named

window_halts : (x : Layout) (d e : DiskState) (s : Slots) (h : Halt) → HasCause (IsMismatch (held_or s (IsMapHome FileMap x)) d) d e h → AddHalts x d s e h
window_halts x d e s halt.Disk is = is
window_halts x d e s (halt.Damaged (Mismatch sector wanted found)) is = is
window_halts x d e s (halt.Damaged (MalformedPage structure page)) is = absurd is
window_halts x d e s (halt.Damaged (Missing id page)) is = is

-- no record may be added, on a volume of n sectors
abbrev pub RevealsMost : ℕ → Manager → DiskState → Slots → Layout → Type 0
RevealsMost n which d s x = IsMost n (λ count. RevealsCount count which d s x)

pub add_halts : {T : Type 0} (r : Result T (MapError Halt)) (n : ℕ) (x : Layout) (d e : DiskState) (s : Slots) → n ≡ x.sectors → d.sectors ≡ x.sectors
    → IfErr r (IsWindowAddCause n (RevealsMost n FileMap d s x) FileMap d s x e) → IfErr (halted r) (AddHalts x d s e)
add_halts (Ok value) n x d e s of size is = tt
add_halts (Err Full) n x d e s of size is = (refl, inr (refl, subst (λ (k : ℕ). RevealsMost k FileMap d s x) of is))
add_halts (Err (Malformed page)) n x d e s of size is = (
  refl,
  inl (elim is [
    | inl broken ↦ inl (broken_same of (window_pages FileMap d.sectors x size) broken)
    | inr stops ↦ inr (stops_same (window_pages FileMap d.sectors x size) stops)
  ]),
)
add_halts (Err (Mem h)) n x d e s of size is = window_halts x d e s h is.cause

-- over a map in form
pub add_right : {T : Type 0} (r : Result T (MapError Halt)) (P : T → Type 0) (n : ℕ) (whole full stays : Type 0) (x : Layout) (d e : DiskState) (s : Slots) → n ≡ x.sectors → (full → MapCounts x d s (most_records n)) → MatchResult r P (IsFullOr full stays)
    → IfErr r (IsWindowAddCause n whole FileMap d s x e) → IfErr (halted r) (IsFaultOrMost x d s)
add_right (Ok value) P n whole full stays x d e s of most own is = tt
add_right (Err Full) P n whole full stays x d e s of most own is = inr (refl, subst (λ (k : ℕ). MapCounts x d s (most_records k)) of (most own.0))
add_right (Err (Malformed page)) P n whole full stays x d e s of most own is = absurd own
add_right (Err (Mem h)) P n whole full stays x d e s of most own is = inl (window_right (held_or s (IsMapHome FileMap x)) d e h is.cause)
