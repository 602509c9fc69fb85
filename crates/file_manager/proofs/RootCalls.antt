-- The sector of the root in each crash state of the calls on files.
use Rattle.std.proofs.Common.{◌≡◌, ◌≢◌, inl, inr, ℕ, ◌^◌, ◌<◌, ◌≤◌, List, [], ◌∷◌, length, Some, sym, subst, arith}
use Rattle.labelled_disk.specs.declared.disk.DiskWrite.{DiskWrite}
use Rattle.labelled_disk.specs.declared.layout.Layout.{Layout}
use Rattle.labelled_disk.specs.Runs.{creation, growth}
use Rattle.labelled_disk.specs.Sectors.{Sector}
use Rattle.labelled_disk.specs.State.{DiskState}
use Rattle.frame_pool.specs.Frames.{Slots}
use Rattle.label_calls.specs.declared.page.Mark.{Mark}
use Rattle.swapper_kernel.specs.Goes.{Pages, Makes}
use Rattle.swapper_kernel.specs.Homes.{IsLayout}
use Rattle.session_words.specs.Volume.{volume_page}
use Rattle.volume_root.specs.declared.root.Root.{Root}
use Rattle.volume_root.specs.RootPage.{root_write}
use Rattle.file_manager.specs.Answer.{WritesMark}
use Rattle.file_manager.specs.Creating.{counted, next_id, NewMade, NewSome}
use Rattle.file_manager.specs.Deleting.{MakesOneFree}
use Rattle.file_manager.specs.Freeing.{MakesFree, MakesSomeFree}
use Rattle.file_manager.specs.Making.{MakesAll, MakesSome}
use Rattle.file_manager.specs.Resizing.{Resizes, ResizesSome}
use Rattle.file_manager.specs.Roots.{RootStays, RootCounts}
use Rattle.file_manager.proofs.RootSteps.{root_stays, root_counts, first_none, growth_none, freeing_none, creation_none}
use Rattle.file_manager.proofs.RunLeads.{take_all}

-- no label was written
pub quiet_root : {pages : Pages} {a b : DiskState} {s t : Slots} → Makes pages [] a s b t → RootStays a b
quiet_root makes = root_stays {run = []} tt makes

-- pages were made
pub grown_root : {id kind from pages : ℕ} {a b : DiskState} {s t : Slots} → id ≢ 4 → MakesAll id kind from pages a s b t → RootStays a b
grown_root {id = id} {kind = kind} {from = from} other h = root_stays (growth_none id kind from h.sectors other) h.makes

pub grew_root : {id kind from most : ℕ} {a b : DiskState} {s t : Slots} → id ≢ 4 → MakesSome id kind from most a s b t → RootStays a b
grew_root {id = id} {kind = kind} {from = from} other h = root_stays (first_none h.count (growth id kind from h.sectors) (growth_none id kind from h.sectors other)) h.makes

-- sectors were freed
pub freed_root : {pages : ℕ} {a b : DiskState} {s t : Slots} → MakesFree pages a s b t → RootStays a b
freed_root h = root_stays (freeing_none h.sectors) h.makes

pub freed_some_root : {a b : DiskState} {s t : Slots} → MakesSomeFree a s b t → RootStays a b
freed_some_root h = root_stays (freeing_none h.sectors) h.makes

pub deleted_root : {a b : DiskState} {s t : Slots} → MakesOneFree a s b t → RootStays a b
deleted_root h = freed_root h.1

-- another size
pub resized_root : {id pages : ℕ} {a b : DiskState} {s t : Slots} → id ≢ 4 → Resizes id pages a s b t → RootStays a b
resized_root other (inl grown) = grown_root other grown.3
resized_root other (inr shrunk) = freed_root shrunk.2

pub resized_some_root : {id : ℕ} (pages : ℕ) {a b : DiskState} {s t : Slots} → id ≢ 4 → ResizesSome id pages a s b t → RootStays a b
resized_some_root pages other (inl grew) = grew_root other grew.2
resized_some_root pages other (inr freed) = freed_some_root freed

-- a mark
pub marked_root : (mark : Mark) {a b : DiskState} {s t : Slots} → WritesMark mark a s b t → RootStays a b
marked_root mark (inl nothing) = quiet_root nothing
marked_root mark (inr made) = root_stays tt made.2

-- files and tables are no root
pub file_no_root : (id : ℕ) → 16 ≤ id → id ≢ 4
file_no_root id high same = omega (arith, high, same)

-- ---- A file is created.

new_is_no_root : (root : Root) → 1 ≤ root.serial → next_id root ≢ 4
new_is_no_root root some same = omega (arith, same, some)

some_there : (layout : Layout) → IsLayout layout → (a : DiskState) → ((d : List Sector) → a.contents ≡ Some d → length d ≡ layout.sectors) → (d : List Sector) → a.contents ≡ Some d → 0 < length d
some_there layout is a whole d revealed = let long = whole d revealed in let least = is.0.0 in omega (arith, long, least)

pub created_root : (root : Root) → root.serial < 2 ^ 32 → 1 ≤ root.serial → root.counter < 4294967295 → (layout : Layout) → IsLayout layout → {a b : DiskState} {s t : Slots} → ((d : List Sector) → a.contents ≡ Some d → length d ≡ layout.sectors)
    → (kind pages : ℕ) → NewMade root kind pages a s b t → RootCounts root a b
created_root root serial some counter layout is {a = a} {b = b} {s = s} {t = t} whole kind pages h =
    let rest = creation (next_id root) kind h.leader h.sectors in
    root_counts root rest (creation_none (next_id root) kind h.leader h.sectors (new_is_no_root root some)) serial counter (length (root_write (counted root) ∷ rest)) (some_there layout is a whole)
    (subst (λ (ws : List DiskWrite). Makes volume_page ws a s b t) (sym (take_all (root_write (counted root) ∷ rest))) h.makes)

pub created_some_root : (root : Root) → root.serial < 2 ^ 32 → 1 ≤ root.serial → root.counter < 4294967295 → (layout : Layout) → IsLayout layout → {a b : DiskState} {s t : Slots} → ((d : List Sector) → a.contents ≡ Some d → length d ≡ layout.sectors)
    → (kind pages : ℕ) → NewSome root kind pages a s b t → RootCounts root a b
created_some_root root serial some counter layout is {a = a} whole kind pages h =
    root_counts root (creation (next_id root) kind h.leader h.sectors) (creation_none (next_id root) kind h.leader h.sectors (new_is_no_root root some)) serial counter h.count (some_there layout is a whole) h.makes
