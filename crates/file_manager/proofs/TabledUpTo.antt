-- The bytes of the space tables while their pages are made, run by run.
use Rattle.std.proofs.Common.{◌≡◌, inl, inr, ℕ, ◌+◌, ◌-◌, ◌*◌, ◌<◌, ◌≤◌, Bool, true, ◌||◌, List, [], length, refl, ap, subst, arith}
use Rattle.std.proofs.lemmas.Bool.Decides.{leb_tells}
use Rattle.labelled_disk.specs.declared.layout.Layout.{Layout}
use Rattle.labelled_disk.specs.State.{DiskState}
use Rattle.frame_pool.specs.Frames.{Slots}
use Rattle.file_map.specs.declared.run.Run.{Run}
use Rattle.file_map.specs.FileMap.{Triples, run_names, with_run}
use Rattle.filer_kernel.specs.declared.cached.CachedRuns.{CachedRuns}
use Rattle.filer_kernel.specs.Cached.{runs_of}
use Rattle.file_manager.specs.Reasons.{InitialState, KeepsTo, telling}
use Rattle.file_manager.specs.Taking.{NamesNoneOf}
use Rattle.file_manager.proofs.KeptUpTo.{NamesEach, run_page}
use Rattle.file_manager.proofs.MadeReasons.{none_with_run}

-- a run of these pages was made, and the bytes of those before were revealed
abbrev pub RunRevealed : ℕ → ℕ → Run → DiskState → Slots → Layout → CachedRuns → DiskState → Slots → Layout → CachedRuns → Type 0
RunRevealed page most run old before layout kept new after later runs = (o : InitialState) (named : Triples) (b : List ℕ) → ◌≡◌ {A = ℕ} 3 3 → page + most ≤ 96 → length b ≡ 512 * page → KeepsTo (telling o b) layout (runs_of layout.sectors kept) old before named
    → NamesNoneOf 3 (λ p. (page ≤ p) × (p < page + most)) named
    → (c : List ℕ) × (KeepsTo (telling o c) later (runs_of later.sectors runs) new after (with_run named run) × (length c ≡ 512 * (page + run.pages)))

-- where none of the pages was revealed or named, those before this one are, and the others are not named yet
abbrev pub RevealedUpTo : ℕ → DiskState → Slots → Layout → CachedRuns → DiskState → Slots → Layout → CachedRuns → Type 0
RevealedUpTo page old before layout kept new after later runs = (o : InitialState) (named : Triples) → KeepsTo (telling o []) layout (runs_of layout.sectors kept) old before named → NamesNoneOf 3 (λ p. p < 96) named
    → (now : Triples) × (b : List ℕ) × KeepsTo (telling o b) later (runs_of later.sectors runs) new after now × (length b ≡ 512 * page) × NamesNoneOf 3 (λ p. (page ≤ p) × (p < 96)) now × NamesEach now 3 0 page

pub revealed_none : (d : DiskState) (s : Slots) (layout : Layout) (kept : CachedRuns) → RevealedUpTo 0 d s layout kept d s layout kept
revealed_none d s layout kept o named h none = (named, [], h, refl, (λ p sector own. none p sector own.1), (λ p above below. absurd (omega (arith, below))))

pub revealed_more : {page : ℕ} {d0 d d2 : DiskState} {s0 s s2 : Slots} {layout later l2 : Layout} (kept runs r2 : CachedRuns) (run : Run) → run.id ≡ 3 → run.first ≡ page → page < 96
    → RevealedUpTo page d0 s0 layout kept d s later runs → RunRevealed page (96 - page) run d s later runs d2 s2 l2 r2 → RevealedUpTo (page + run.pages) d0 s0 layout kept d2 s2 l2 r2
revealed_more {page = page} kept runs r2 run same_id same_first below up made o named h none =
    let was = up o named h none in
    let now = made o was.0 was.1 refl (omega (arith, below)) was.3 was.2 (λ p sector own. let last = own.1 in was.4 p sector (own.0, omega (arith, last, below))) in (
      with_run was.0 run,
      now.0,
      now.1.0,
      now.1.1,
      none_with_run run was.0 3 page (λ p. (page + run.pages ≤ p) × (p < 96)) same_id same_first (λ p own other. let from = own.0 in let last = other.1 in omega (arith, from, last))
          (λ p sector own. let from = own.0 in was.4 p sector (omega (arith, from), own.1)),
      (λ p above below_it. elim (leb_tells page p) [
        | inl (test, beyond) ↦
            let at = run_page was.0 run p (omega (arith, beyond, same_first)) (omega (arith, below_it, same_first)) in
            (at.0, subst (λ (i : ℕ). with_run was.0 run i p at.0 ≡ true) same_id at.1)
        | inr (test, before) ↦ let at = was.5 p above (omega (arith, before)) in (at.0, ap (λ (b : Bool). b || run_names run 3 p at.0) at.1)
      ]),
    )
