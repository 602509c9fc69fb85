-- What is so of each cut, where it is so of each cut of a window.
use Rattle.std.proofs.Common.{◌≡◌, ℕ, List}
use Rattle.labelled_disk.specs.declared.disk.DiskWrite.{DiskWrite}
use Rattle.labelled_disk.specs.CrashState.{crash_state}
use Rattle.labelled_disk.specs.Sectors.{Sector}
use Rattle.cut_laws.specs.Cut.{IsCutSince}
use Rattle.cut_laws.specs.CutLaws.{between}
use Rattle.cut_laws.specs.Syncs.{IsLastSync, Tears}
use Rattle.cut_laws.proofs.CutLemmas.{window_laws}
pub use Rattle.cut_words.proofs.LastSyncLemmas.{sync_laws}

-- What is so of each cut of a window, on the disk as it was at its sync, is so once the disk was settled.
pub tears_by_windows : (P : ℕ → List Sector → Type 0) (d : List Sector) (writes : List DiskWrite) (syncs : List ℕ)
    → ((k s : ℕ) (e : List Sector) → IsLastSync syncs k s → IsCutSince (crash_state d writes s) (between s k writes) e → P k e) → Tears P d writes syncs
tears_by_windows P d writes syncs each k s e is cut =
    let last = (sync_laws syncs k).revealed s in
    each k s e (last.0 is) (window_laws.cut d writes s k e (last.0 is).by_then cut)

pub tears_weaker : (P Q : ℕ → List Sector → Type 0) (d : List Sector) (writes : List DiskWrite) (syncs : List ℕ) → ((k : ℕ) (e : List Sector) → P k e → Q k e) → Tears P d writes syncs → Tears Q d writes syncs
tears_weaker P Q d writes syncs less tears k s e is cut = less k e (tears k s e is cut)
