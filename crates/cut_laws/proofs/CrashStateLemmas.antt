-- A sector in each crash state of some writes.
use Rattle.std.proofs.Common.{◌≡◌, ℕ, zero, suc, ◌+◌, ◌<◌, ◌≤◌, List, [], ◌∷◌, length, take, drop, Some, refl, sym, ◌∙◌, ap, arith}
use Rattle.std.specs.Prelude.{slice_get}
use Rattle.std.proofs.lemmas.Option.{same_Some, none-some, slice_get_within}
use Rattle.labelled_disk.specs.declared.disk.DiskWrite.{DiskWrite}
use Rattle.labelled_disk.specs.CrashState.{crash_state, written}
use Rattle.labelled_disk.specs.Layout.{data_sectors, first_data}
use Rattle.labelled_disk.specs.Sectors.{Sector}
use Rattle.labelled_disk.proofs.WriteLemmas.{get_drop}
use Rattle.label_laws.specs.PermittedRuns.{ArePermitted}
use Rattle.label_laws.proofs.MixedLemmas.{crash_state_long}

pub get_some : {X : Type 0} (xs : List X) (i : ℕ) → i < length xs → (x : X) × (slice_get xs i ≡ Some x)
get_some [] i below = absurd (omega (arith, below))
get_some (x ∷ xs) zero below = (x, refl)
get_some (x ∷ xs) (suc i) below = get_some xs i (omega (arith, below))

-- the crash state after one more write
pub crash_state-step : (d : List Sector) (writes : List DiskWrite) (k : ℕ) (write : DiskWrite) → slice_get writes k ≡ Some write
    → crash_state d writes (suc k) ≡ written write (crash_state d writes k)
crash_state-step d [] k write here = absurd (none-some write here)
crash_state-step d (w ∷ ws) zero write here = ap (λ (v : DiskWrite). written v d) (same_Some w write here)
crash_state-step d (w ∷ ws) (suc k) write here = crash_state-step (written w d) ws k write here

crash_state-none : (d : List Sector) (k : ℕ) → crash_state d [] k ≡ d
crash_state-none d zero = refl
crash_state-none d (suc k) = refl

-- later crash states begin at an earlier one
pub crash_state-then : (d : List Sector) (writes : List DiskWrite) (s j : ℕ) → crash_state (crash_state d writes s) (drop s writes) j ≡ crash_state d writes (s + j)
crash_state-then d writes zero j = ap (crash_state d writes) (let z : j ≡ 0 + j = omega arith in z)
crash_state-then d [] (suc s) j = crash_state-none d j ∙ sym (crash_state-none d (suc s + j))
crash_state-then d (w ∷ ws) (suc s) j = crash_state-then (written w d) ws s j ∙ ap (crash_state d (w ∷ ws)) (let z : suc (s + j) ≡ suc s + j = omega arith in z)

-- after the last one nothing changes
pub crash_state-past : (d : List Sector) (writes : List DiskWrite) (k : ℕ) → length writes ≤ k → crash_state d writes k ≡ crash_state d writes (length writes)
crash_state-past d [] zero low = refl
crash_state-past d [] (suc k) low = refl
crash_state-past d (w ∷ ws) zero low = absurd (omega (arith, low))
crash_state-past d (w ∷ ws) (suc k) low = crash_state-past (written w d) ws k (omega (arith, low))

-- of writes that are cut off later, the crash states before are the same
pub crash_state-take : (d : List Sector) (writes : List DiskWrite) (k j : ℕ) → j ≤ k → crash_state d (take k writes) j ≡ crash_state d writes j
crash_state-take d writes k zero low = refl
crash_state-take d writes zero (suc j) low = absurd (omega (arith, low))
crash_state-take d [] (suc k) (suc j) low = refl
crash_state-take d (w ∷ ws) (suc k) (suc j) low = crash_state-take (written w d) ws k j (omega (arith, low))

pub permitted-take : (d : List Sector) (writes : List DiskWrite) (k : ℕ) → ArePermitted d writes → ArePermitted d (take k writes)
permitted-take d writes zero all = tt
permitted-take d [] (suc k) all = tt
permitted-take d (w ∷ ws) (suc k) all = (all.0, permitted-take (written w d) ws k all.1)

pub permitted-drop : (d : List Sector) (writes : List DiskWrite) (s : ℕ) → ArePermitted d writes → ArePermitted (crash_state d writes s) (drop s writes)
permitted-drop d writes zero all = all
permitted-drop d [] (suc s) all = tt
permitted-drop d (w ∷ ws) (suc s) all = permitted-drop (written w d) ws s all.1

-- the sector stands in each crash state
pub at_crash_state : (d : List Sector) (writes : List DiskWrite) (k i : ℕ) (s : Sector) → slice_get d i ≡ Some s → i < length (crash_state d writes k)
at_crash_state d writes k i s here = omega (arith, slice_get_within d i s here, crash_state_long d writes k)

-- What holds of a sector at first, and after each write if before it, holds of it in each crash state.
pub history : (P : ℕ → Sector → Type 0) (d : List Sector) (writes : List DiskWrite) (i : ℕ)
    → ((s : Sector) → slice_get d i ≡ Some s → P 0 s)
    → ((k : ℕ) (write : DiskWrite) (s t : Sector) → k < length writes → slice_get writes k ≡ Some write → slice_get (crash_state d writes k) i ≡ Some s → slice_get (written write (crash_state d writes k)) i ≡ Some t
    → slice_get (crash_state d writes (suc k)) i ≡ Some t → P k s → P (suc k) t)
    → (k : ℕ) → k ≤ length writes → (s : Sector) → slice_get (crash_state d writes k) i ≡ Some s → P k s
history P d writes i start step zero few s here = start s here
history P d writes i start step (suc k) few t here =
    let w = get_some writes k (omega (arith, few)) in
    let low : i < length (crash_state d writes (suc k)) = slice_get_within (crash_state d writes (suc k)) i t here in
    let old = get_some (crash_state d writes k) i (omega (arith, low, crash_state_long d writes (suc k), crash_state_long d writes k)) in
    step k w.0 old.0 t (omega (arith, few)) w.1 old.1 (ap (λ (e : List Sector). slice_get e i) (sym (crash_state-step d writes k w.0 w.1)) ∙ here) here
    (history P d writes i start step k (omega (arith, few)) old.0 old.1)

-- a data sector, counted from the first one
pub data_at : (d : List Sector) (i : ℕ) → slice_get (data_sectors d) i ≡ slice_get d (first_data (length d) + i)
data_at d i = get_drop (first_data (length d)) d i
