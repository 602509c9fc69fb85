-- What keeps to an initial state while the pages of a file are made, run by run.
use Rattle.std.specs.Prelude.{◌≡◌, None, ℕ, ◌+◌, ◌-◌, ◌<◌, ◌≤◌, Bool, true, ◌||◌, ◌&&◌}
use Rattle.std.proofs.Common.{inl, inr, refl, ap, subst, arith}
use Rattle.std.proofs.lemmas.Bool.{eq-eqb}
use Rattle.std.proofs.lemmas.Bool.Decides.{leb_tells}
use Rattle.labelled_disk.specs.declared.layout.Layout.{Layout}
use Rattle.labelled_disk.specs.State.{DiskState}
use Rattle.frame_pool.specs.Frames.{Slots}
use Rattle.file_map.specs.declared.run.Run.{Run}
use Rattle.file_map.specs.FileMap.{Triples, run_names, with_run}
use Rattle.file_map.specs.Run.{holds, sector_at}
use Rattle.file_map.proofs.Runs.{page_held}
use Rattle.filer_kernel.specs.declared.cached.CachedRuns.{CachedRuns}
use Rattle.filer_kernel.specs.Cached.{runs_of}
use Rattle.file_manager.specs.Reasons.{InitialState, KeepsTo, MayTake, NamesTables}
use Rattle.file_manager.specs.Taking.{NamesNoneOf}
use Rattle.file_manager.proofs.MadeReasons.{none_with_run}
use Rattle.file_manager.proofs.KeepCut.{or_right}

-- a run of these pages was made, none of which was named
abbrev pub RunKeeps : ℕ → ℕ → ℕ → Run → DiskState → Slots → Layout → CachedRuns → DiskState → Slots → Layout → CachedRuns → Type 0
RunKeeps id page most run old before layout kept new after later runs = (o : InitialState) (named : Triples) → KeepsTo o layout (runs_of layout.sectors kept) old before named → MayTake o id → (id ≡ 3 → o.tables ≡ None) → NamesNoneOf id (λ p. (page ≤ p) × (p < page + most)) named
    → KeepsTo o later (runs_of later.sectors runs) new after (with_run named run)

-- what was named is named
abbrev pub NamesMore : Triples → Triples → Type 0
NamesMore named now = (i p sector : ℕ) → named i p sector ≡ true → now i p sector ≡ true

-- each page of the file from one up to another has a sector
abbrev pub NamesEach : Triples → ℕ → ℕ → ℕ → Type 0
NamesEach now id from page = (p : ℕ) → from ≤ p → p < page → (sector : ℕ) × (now id p sector ≡ true)

-- the pages of the space tables are named still
pub tables_still : (named now : Triples) → NamesMore named now → NamesTables named → NamesTables now
tables_still named now more all page below = let at = all page below in (at.0, more 3 page at.0 at.1)

-- a page of a run has a sector
pub run_page : (named : Triples) (run : Run) (p : ℕ) → run.first ≤ p → p < run.first + run.pages → (sector : ℕ) × (with_run named run run.id p sector ≡ true)
run_page named run p from below =
    let place = sector_at run p in
    let held : holds run run.id p ≡ true = page_held run run.id p (record { same = refl; from = from; below = below }) in
    (place, or_right (named run.id p place) (run_names run run.id p place) (λ i. held i && eq-eqb place place refl i))

-- where none of the pages from one up to another was named, those from this page on are not named yet
abbrev pub KeepsUpTo : ℕ → ℕ → ℕ → ℕ → DiskState → Slots → Layout → CachedRuns → DiskState → Slots → Layout → CachedRuns → Type 0
KeepsUpTo id from end page old before layout kept new after later runs = (o : InitialState) (named : Triples) → KeepsTo o layout (runs_of layout.sectors kept) old before named → MayTake o id → (id ≡ 3 → o.tables ≡ None) → NamesNoneOf id (λ p. (from ≤ p) × (p < end)) named
    → (now : Triples) × KeepsTo o later (runs_of later.sectors runs) new after now × NamesNoneOf id (λ p. (page ≤ p) × (p < end)) now × NamesMore named now × NamesEach now id from page

pub keeps_more : {id from end page : ℕ} {d0 d d2 : DiskState} {s0 s s2 : Slots} {layout later l2 : Layout} (kept runs r2 : CachedRuns) (run : Run) → run.id ≡ id → run.first ≡ page → page < end
    → KeepsUpTo id from end page d0 s0 layout kept d s later runs → RunKeeps id page (end - page) run d s later runs d2 s2 l2 r2 → KeepsUpTo id from end (page + run.pages) d0 s0 layout kept d2 s2 l2 r2
keeps_more {id = id} {end = end} {page = page} kept runs r2 run same_id same_first below up made o named h may untold none =
    let was = up o named h may untold none in (
      with_run was.0 run,
      made o was.0 was.1 may untold (λ p sector own. let last = own.1 in was.2 p sector (own.0, omega (arith, last, below))),
      none_with_run run was.0 id page (λ p. (page + run.pages ≤ p) × (p < end)) same_id same_first (λ p own other. let from = own.0 in let last = other.1 in omega (arith, from, last))
          (λ p sector own. let from = own.0 in was.2 p sector (omega (arith, from), own.1)),
      (λ i p sector is. ap (λ (b : Bool). b || run_names run i p sector) (was.3 i p sector is)),
      (λ p above below_it. elim (leb_tells page p) [
        | inl (test, beyond) ↦
            let at = run_page was.0 run p (omega (arith, beyond, same_first)) (omega (arith, below_it, same_first)) in
            (at.0, subst (λ (i : ℕ). with_run was.0 run i p at.0 ≡ true) same_id at.1)
        | inr (test, before) ↦ let at = was.4 p above (omega (arith, before)) in (at.0, ap (λ (b : Bool). b || run_names run id p at.0) at.1)
      ]),
    )
