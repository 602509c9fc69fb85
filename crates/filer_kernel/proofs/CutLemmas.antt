-- Why a file is not cut in the file map.
use Rattle.std.proofs.Common.{◌≡◌, ◌⊎◌, inl, inr, ℕ, ◌/◌, List, Ok, Err, IfErr, MatchResult, refl, ◌∙◌, subst}
use Rattle.std.specs.declared.result.Result.{Result}
use Rattle.labelled_disk.specs.declared.layout.Layout.{Layout}
use Rattle.labelled_disk.specs.declared.evidence.Evidence.TheVariants.{Mismatch, Malformed as MalformedPage, Missing}
use Rattle.labelled_disk.specs.declared.evidence.Halt.{Halt}
use Rattle.labelled_disk.specs.declared.evidence.Halt.TheVariants as halt
use Rattle.labelled_disk.specs.Sectors.{Sector}
use Rattle.labelled_disk.specs.State.{DiskState}
use Rattle.frame_pool.specs.Frames.{Slots}
use Rattle.file_map.specs.declared.error.MapError.{MapError}
use Rattle.file_map.specs.declared.error.MapError.TheVariants.{Full, Malformed, Mem}
use Rattle.file_map.specs.Cause.{IsCause, IsBroken, IsToCut, FromMemory}
use Rattle.file_map.specs.Map.{ShownBy}
use Rattle.swapper_kernel.specs.declared.manager.Manager.{Manager}
use Rattle.swapper_kernel.specs.declared.manager.Manager.TheVariants.{FileMap}
use Rattle.swapper_kernel.specs.Maps.{IsMapHome}
use Rattle.swapper_kernel.specs.Homes.{AreNamed}
use Rattle.swapper_kernel.specs.Stands.{Stands}
use Rattle.swapper_kernel.specs.Halts.{IsMismatch, HasCause, held_or}
use Rattle.swapper_kernel.specs.Window.{Reveals, Beside, IsAccounted, size_in}
use Rattle.filer_kernel.specs.Causes.{MapShows, MapHalts, CutHalts, IsFaultOrMismatch}
use Rattle.filer_kernel.specs.Halted.{halted}
use Rattle.filer_kernel.proofs.FileLemmas.{IsWindowCause, window_pages, broken_same, window_right, search_halts}

-- an error of the map over a window, by what the window was in some crash state
pub record IsAtCrashState (n : ℕ) (which : Manager) (a : DiskState) (s : Slots) (x : Layout) (e : DiskState) (t : Slots) (y : Layout) (error : MapError Halt) : Type 0 where
  pub what : Manager
  pub disk : DiskState
  pub slots : Slots
  pub place : Layout
  pub same : which ≡ what
  pub since : Beside which a s x disk slots place
  pub until : Beside what disk slots place e t y
  pub cause : IsCause n ⊥ (ShownBy (Reveals what disk slots place) (size_in what disk.sectors place / 512)) (IsAccounted which a s x e) error

-- of the swapper that was lent
pub crash_state_here : {T : Type 0} (r : Result T (MapError Halt)) (n : ℕ) (e : DiskState) (t : Slots) (y : Layout) {which also : Manager} {a b : DiskState} {s u : Slots} {x z : Layout} → which ≡ also → a ≡ b → s ≡ u → x ≡ z
    → IfErr r (IsAtCrashState n which a s x e t y) → IfErr r (IsAtCrashState n also b u z e t y)
crash_state_here r n e t y w d s l h = rw (← w, ← d, ← s, ← l) h

-- a page that broke its form then
broken_then : (n page : ℕ) (what : Manager) (disk : DiskState) (slots : Slots) (x place : Layout) → FileMap ≡ what → place ≡ x → n ≡ x.sectors → disk.sectors ≡ x.sectors
    → IsBroken n (ShownBy (Reveals what disk slots place) (size_in what disk.sectors place / 512)) page → IsBroken x.sectors (MapShows x disk slots) page
broken_then n page what disk slots x place same at of size is =
    let here : IsBroken n (ShownBy (Reveals FileMap disk slots x) (size_in FileMap disk.sectors x / 512)) page = rw (same, ← at) is in
    broken_same of (window_pages FileMap disk.sectors x size) here

until_then : (what : Manager) (disk e : DiskState) (slots t : Slots) (x place y : Layout) → FileMap ≡ what → place ≡ x → y ≡ place → Beside what disk slots place e t y → Beside FileMap disk slots x e t x
until_then what disk e slots t x place y same at later is =
    let there : y ≡ x = later ∙ at in
    let here : Beside FileMap disk slots x e t y = rw (same, ← at) is in
    subst (λ (l : Layout). Beside FileMap disk slots x e t l) there here

window_halts : (x : Layout) (d e : DiskState) (s t : Slots) (h : Halt) → HasCause (IsMismatch (held_or s (IsMapHome FileMap x)) d) d e h → CutHalts x d s e t h
window_halts x d e s t halt.Disk is = is
window_halts x d e s t (halt.Damaged (Mismatch sector wanted found)) is = is
window_halts x d e s t (halt.Damaged (MalformedPage structure page)) is = absurd is
window_halts x d e s t (halt.Damaged (Missing id page)) is = is

pub cut_halts : {T : Type 0} (r : Result T (MapError Halt)) (n : ℕ) (x : Layout) (d e : DiskState) (s t : Slots) (y : Layout) → n ≡ x.sectors → d.sectors ≡ x.sectors → IfErr r (IsAtCrashState n FileMap d s x e t y) → IfErr (halted r) (CutHalts x d s e t)
cut_halts (Ok value) n x d e s t y of size is = tt
cut_halts (Err Full) n x d e s t y of size is = absurd is.cause
cut_halts (Err (Malformed page)) n x d e s t y of size is = (
  refl,
  record {
    disk = is.disk;
    slots = is.slots;
    since = subst (λ (l : Layout). Beside FileMap d s x is.disk is.slots l) is.since.layout is.since;
    until = until_then is.what is.disk e is.slots t x is.place y is.same is.since.layout is.until.layout is.until;
    broken = broken_then n page is.what is.disk is.slots x is.place is.same is.since.layout of (is.since.goes.makes.went.sectors ∙ size) is.cause;
  },
)
cut_halts (Err (Mem h)) n x d e s t y of size is = window_halts x d e s t h is.cause.cause

pub cut_sound : {T : Type 0} (r : Result T (MapError Halt)) (P : T → Type 0) (n : ℕ) (x : Layout) (d e : DiskState) (s t : Slots) (y : Layout) → MatchResult r P FromMemory → IfErr r (IsAtCrashState n FileMap d s x e t y)
    → (m : List Sector) → Stands d s m → AreNamed m (IsMapHome FileMap x) → IfErr (halted r) (λ h. h ≡ halt.Disk)
cut_sound (Ok value) P n x d e s t y own is m stands named = tt
cut_sound (Err Full) P n x d e s t y own is m stands named = absurd own
cut_sound (Err (Malformed page)) P n x d e s t y own is m stands named = absurd own
cut_sound (Err (Mem h)) P n x d e s t y own is m stands named = is.cause.sound m stands named

pub cut_right : {T : Type 0} (r : Result T (MapError Halt)) (P : T → Type 0) (n : ℕ) (x : Layout) (d e : DiskState) (s t : Slots) (y : Layout) → MatchResult r P FromMemory → IfErr r (IsAtCrashState n FileMap d s x e t y)
    → IfErr (halted r) IsFaultOrMismatch
cut_right (Ok value) P n x d e s t y own is = tt
cut_right (Err Full) P n x d e s t y own is = absurd own
cut_right (Err (Malformed page)) P n x d e s t y own is = absurd own
cut_right (Err (Mem h)) P n x d e s t y own is = window_right (held_or s (IsMapHome FileMap x)) d e h is.cause.cause

-- it has its cause in the map as it was at the start, or the file had a record there to be taken out
abbrev pub IsBegun : ℕ → ℕ → ℕ → Manager → DiskState → Slots → Layout → DiskState → MapError Halt → Type 0
IsBegun n id from which d s x e error = IsWindowCause n ⊥ which d s x e error ⊎ IsToCut id from (ShownBy (Reveals which d s x) (size_in which d.sectors x / 512))

pub begun_here : {T : Type 0} (r : Result T (MapError Halt)) (n id from : ℕ) (e : DiskState) {which also : Manager} {a b : DiskState} {s t : Slots} {x y : Layout} → which ≡ also → a ≡ b → s ≡ t → x ≡ y
    → IfErr r (IsBegun n id from which a s x e) → IfErr r (IsBegun n id from also b t y e)
begun_here r n id from e w d s l h = rw (← w, ← d, ← s, ← l) h

to_cut : {p q id from : ℕ} {reveals : List ℕ → Type 0} → p ≡ q → IsToCut id from (ShownBy reveals p) → IsToCut id from (ShownBy reveals q)
to_cut same h = rw (← same) h

pub begun_halts : {T : Type 0} (r : Result T (MapError Halt)) (n id from : ℕ) (x : Layout) (d e : DiskState) (s : Slots) → n ≡ x.sectors → d.sectors ≡ x.sectors
    → IfErr r (IsBegun n id from FileMap d s x e) → IfErr (halted r) (λ h. MapHalts x d s e h ⊎ IsToCut id from (MapShows x d s))
begun_halts (Ok value) n id from x d e s of size is = tt
begun_halts (Err Full) n id from x d e s of size is = elim is [
  | inl cause ↦ absurd cause
  | inr cut ↦ inr (to_cut (window_pages FileMap d.sectors x size) cut)
]
begun_halts (Err (Malformed page)) n id from x d e s of size is = elim is [
  | inl cause ↦ inl (refl, broken_same of (window_pages FileMap d.sectors x size) cause)
  | inr cut ↦ inr (to_cut (window_pages FileMap d.sectors x size) cut)
]
begun_halts (Err (Mem h)) n id from x d e s of size is = elim is [
  | inl cause ↦ inl (search_halts x d e s h cause.cause)
  | inr cut ↦ inr (to_cut (window_pages FileMap d.sectors x size) cut)
]
