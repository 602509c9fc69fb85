-- What a call reports as evidence has its reason, where disk and frames keep to an initial state.
use Rattle.std.proofs.Common.{◌≡◌, ◌⊎◌, inl, inr, ℕ, ◌<◌, ◌≤◌, true, false, List, [], refl, sym, ◌∙◌, subst}
use Rattle.std.proofs.lemmas.Bool.{true≢false}
use Rattle.std.proofs.lemmas.Option.{none-some}
use Rattle.labelled_disk.specs.declared.disk.DiskWrite.{DiskWrite}
use Rattle.labelled_disk.specs.declared.evidence.Evidence.TheVariants.{Mismatch, Malformed, Missing}
use Rattle.labelled_disk.specs.declared.evidence.Halt.{Halt}
use Rattle.labelled_disk.specs.declared.evidence.Halt.TheVariants as halt
use Rattle.labelled_disk.specs.declared.layout.Layout.{Layout}
use Rattle.labelled_disk.specs.Sectors.{Sector}
use Rattle.labelled_disk.specs.State.{DiskState}
use Rattle.frame_pool.specs.declared.home.Home.{Home}
use Rattle.frame_pool.specs.Frames.{Slots}
use Rattle.file_map.specs.declared.run.Run.{Run}
use Rattle.file_map.specs.FileMap.{Triples, IsNowhere}
use Rattle.swapper_kernel.specs.declared.manager.Manager.TheVariants.{FileMap}
use Rattle.swapper_kernel.specs.Goes.{Makes, Pages}
use Rattle.swapper_kernel.specs.Halts.{Halts}
use Rattle.swapper_kernel.specs.Homes.{Homes, IsLayout, home_at}
use Rattle.swapper_kernel.specs.Stands.{Stands}
use Rattle.filer_kernel.specs.Causes.{MapHalts}
use Rattle.filer_kernel.specs.Triples.{MapIs}
use Rattle.file_manager.specs.Grounds.{IsMapsHome}
use Rattle.file_manager.specs.Reasons.{InitialState, IsAtHome, KeepsTo, HasReason, ShowsReason, MayLack}
use Rattle.file_manager.specs.LaterLaws.{released_later, used_later}
use Rattle.file_manager.specs.ShownLaws.{in_form}
use Rattle.file_manager.specs.KeepLaws.{home_later}

-- ---- Labels, and what a search of the file map reveals.

module _ {o : InitialState} {x : Layout} {k : List Run} {a : DiskState} {s : Slots} {named : Triples} (h : KeepsTo o x k a s named) {pages : Pages} {run : List DiskWrite} {b : DiskState} {t : Slots} (makes : Makes pages run a s b t) where
  -- a label that another page's is wanted for, at a home that was given or that a frame had
  pub label_reasons : (homes : Homes) → ((home : Home) → homes home → IsMapsHome x home ⊎ IsAtHome o b home) → (e : Halt) → Halts homes a s b e → ShowsReason o x b e
  label_reasons homes at halt.Disk is = tt
  label_reasons homes at (halt.Damaged (Mismatch sector wanted found)) is = elim is.reason [
    | inl held ↦ elim (home_later h makes (home_at sector wanted) held) [ inl own ↦ inl own | inr here ↦ inr (inl here) ]
    | inr given ↦ elim (at (home_at sector wanted) given) [ inl own ↦ inl own | inr here ↦ inr (inl here) ]
  ]
  label_reasons homes at (halt.Damaged (Malformed structure page)) is = absurd is
  label_reasons homes at (halt.Damaged (Missing id page)) is = absurd is

  -- the halt of a call that searches the file map
  pub map_reasons : IsLayout x → (e : Halt) → MapHalts x a s b e → ShowsReason o x b e
  map_reasons is halt.Disk cause = tt
  map_reasons is (halt.Damaged (Mismatch sector wanted found)) cause = elim cause.reason [
    | inl held ↦ elim (home_later h makes (home_at sector wanted) held) [ inl own ↦ inl own | inr here ↦ inr (inl here) ]
    | inr own ↦ inl (FileMap, own)
  ]
  map_reasons is (halt.Damaged (Malformed structure page)) cause = absurd (in_form is h.size h.stands h.map page cause.1)
  map_reasons is (halt.Damaged (Missing id page)) cause = absurd cause

-- ---- Pages that are missing.

module _ {o : InitialState} {x : Layout} {k : List Run} {a : DiskState} {s : Slots} {named : Triples} (h : KeepsTo o x k a s named) {pages : Pages} {b : DiskState} {t : Slots} (makes : Makes pages [] a s b t) where
  -- a page that the map does not name is reported as missing
  pub missing_reason : (id page : ℕ) → 16 ≤ id → ((m : List Sector) (named : Triples) → Stands a s m → MapIs x named m → IsNowhere named id page) → HasReason o x b (Missing id page)
  missing_reason id page client nowhere = inr (
    client,
    λ sector from.
        let home : Home = record { sector = sector; id = id; page = page } in
        elim (h.rest home from client) [
          | inl is ↦ absurd (true≢false (sym is ∙ nowhere h.memory named h.stands h.map sector))
          | inr evict ↦ released_later o makes home (λ k w at gives. none-some w at) evict
        ],
  )

  -- one of the space tables, which are all named, is not
  pub lack_reason : (id page : ℕ) → MayLack named id page → ((m : List Sector) (named : Triples) → Stands a s m → MapIs x named m → IsNowhere named id page) → HasReason o x b (Missing id page)
  lack_reason id page (inl client) nowhere = missing_reason id page client nowhere
  lack_reason id page (inr (tables, below, all)) nowhere =
      let at = all page below in
      absurd (true≢false (sym at.1 ∙ subst (λ (i : ℕ). named i page at.0 ≡ false) tables (nowhere h.memory named h.stands h.map at.0)))

-- ---- No data sector is free.

module _ {o : InitialState} {x : Layout} {k : List Run} {a : DiskState} {s : Slots} {named : Triples} (h : KeepsTo o x k a s named) {pages : Pages} {b : DiskState} {t : Slots} (makes : Makes pages [] a s b t) where
  -- the allocation map has each data sector as used
  pub room_reason : ((sector : ℕ) → x.first ≤ sector → sector < x.sectors → h.marks sector ≡ true) → HasReason o x b (Missing 3 0)
  room_reason all = inl (refl, refl, λ sector from below. used_later o makes sector (λ turn w at up. none-some w at) (h.used sector from below (all sector from below)))
