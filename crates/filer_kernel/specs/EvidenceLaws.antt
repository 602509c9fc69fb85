-- What evidence says of the disk as a call left it, from the call's cause: a call on a map writes no label.
use Rattle.std.specs.Prelude.{◌≡◌, ℕ, List, [], Option, Some, None, slice_get, option_map}
use Rattle.std.proofs.Common.{◌⊎◌, sym, ◌∙◌, ap, subst, inl, inr}
use Rattle.std.proofs.lemmas.Option.{none-some, same_Some, slice_get-map}
use Rattle.labelled_disk.specs.declared.disk.Disk.{Ghosts}
use Rattle.labelled_disk.specs.declared.label.Label.{Label}
use Rattle.labelled_disk.specs.declared.label.Wanted.{Wanted}
use Rattle.labelled_disk.specs.declared.layout.Layout.{Layout}
use Rattle.labelled_disk.specs.declared.evidence.Evidence.{Evidence}
use Rattle.labelled_disk.specs.declared.evidence.Evidence.TheVariants.{Mismatch, Malformed, Missing}
use Rattle.labelled_disk.specs.declared.evidence.Halt.{Halt}
use Rattle.labelled_disk.specs.declared.evidence.Halt.TheVariants.{Disk, Damaged}
use Rattle.labelled_disk.specs.Layout.{layout_of}
use Rattle.labelled_disk.specs.Sectors.{Sector}
use Rattle.labelled_disk.specs.State.{DiskState, HasLabel}
use Rattle.labelled_disk.specs.WriteRuns.{after_writes}
use Rattle.frame_pool.specs.declared.home.Home.{Home}
use Rattle.frame_pool.specs.Frames.{Slots}
use Rattle.file_map.specs.declared.run.Run.{Run}
use Rattle.swapper_kernel.specs.Goes.{Pages, Makes, Wrote}
use Rattle.swapper_kernel.specs.HaltLaws.{pages_written}
use Rattle.swapper_kernel.specs.declared.manager.Manager.{Manager}
use Rattle.swapper_kernel.specs.declared.manager.Manager.TheVariants.{FileMap}
use Rattle.swapper_kernel.specs.declared.swapper.Swapper.{Swapper}
use Rattle.swapper_kernel.specs.Halts.{HasCause, IsMismatch, IsOther, Halts, held_or}
use Rattle.swapper_kernel.specs.Homes.{Homes, IsLayout, IsPlaced, ArePlaced, IsFileHome, home_at}
use Rattle.swapper_kernel.specs.Maps.{IsMapHome}
use Rattle.swapper_kernel.proofs.PlacedLemmas.{map_placed, file_placed}
use Rattle.swapper_kernel.specs.Stands.{labels_of}
use Rattle.filer_kernel.specs.Causes.{MapEvidence, MapHalts, AddEvidence, AddHalts, CutEvidence, CutHalts}
use Rattle.filer_kernel.specs.Evidence.{MayBeIn, IsEvident, ShowsEvidence}
use Rattle.filer_kernel.specs.Tables.{FoundEvidence, FoundHalts, IsFoundHome}

-- a label that stood before writes of pages stands after them
pub label_after : {pages : Pages} {a b : DiskState} {s : Slots} → Wrote pages [] a s b → (sector : ℕ) (label : Label) → HasLabel a sector label → HasLabel b sector label
label_after {a = a} wrote sector label there d revealed = either a.contents (λ i. a.contents)
  where
    either : (o : Option (List Sector)) → a.contents ≡ o → option_map (λ (s : Sector). s.0) (slice_get d sector) ≡ Some label
    either None is = absurd (none-some d (sym (wrote.appended.contents ∙ ap (option_map (after_writes wrote.writes)) is) ∙ revealed))
    either (Some before) is =
        let now : after_writes wrote.writes before ≡ d = same_Some (after_writes wrote.writes before) d (sym (wrote.appended.contents ∙ ap (option_map (after_writes wrote.writes)) is) ∙ revealed) in
        sym (slice_get-map (λ (s : Sector). s.0) d sector) ∙ ap (λ (l : List Sector). slice_get (labels_of l) sector) (sym now)
        ∙ ap (λ (l : List Label). slice_get l sector) (pages_written wrote.writes before wrote.labels) ∙ slice_get-map (λ (s : Sector). s.0) before sector ∙ there before is

-- the layout is that of the disk, and lets each frame's page be where the frame's home is
pub record Fits (layout : Layout) (disk : DiskState) (slots : Slots) : Type 0 where
  pub size : disk.sectors ≡ layout.sectors
  pub accepted : IsLayout layout
  pub placed : ArePlaced slots layout

-- a swapper's does, where its disk has as many sectors
pub fits : {D A : Type 0} {G : Ghosts D} (s : Swapper D A G) → (G.state s.disk).sectors ≡ s.layout.sectors → Fits s.layout (G.state s.disk) s.pool
fits s size = record { size = size; accepted = s.accepted; placed = s.placed }

-- what the layout lets be, the layout of the disk's sectors does
pub may_be_in : (layout : Layout) (sectors sector : ℕ) (wanted : Wanted) → IsLayout layout → sectors ≡ layout.sectors → IsPlaced layout (home_at sector wanted) → MayBeIn sectors sector wanted
may_be_in layout sectors sector wanted accepted size placed = subst (λ (l : Layout). IsPlaced l (home_at sector wanted)) (accepted.1 ∙ sym (ap layout_of size)) placed

pub map_homes_placed : (which : Manager) (layout : Layout) (home : Home) → IsMapHome which layout home → IsPlaced layout home
map_homes_placed which layout home is = subst (IsPlaced layout) (sym is.2) (map_placed which layout is.0 is.1)

pub so_after : {pages : Pages} {a b : DiskState} {s t : Slots} → Makes pages [] a s b t → (e : Evidence) → IsEvident a e → IsEvident b e
so_after makes (Mismatch sector wanted found) is = (label_after makes.wrote sector found is.0, is.1, subst (λ (n : ℕ). MayBeIn n sector wanted) (sym makes.went.sectors) is.2)
so_after makes (Malformed structure page) is = is
so_after makes (Missing id page) is = is

-- what a halt shows is so still after calls that wrote no label
pub shows_so_after : {pages : Pages} {a b : DiskState} {s t : Slots} → Makes pages [] a s b t → (halt : Halt) → ShowsEvidence a halt → ShowsEvidence b halt
shows_so_after makes Disk is = tt
shows_so_after makes (Damaged e) is = so_after makes e is

-- evidence that is so of the disk as a call found it, where the call wrote no label
pub so_of_cause : {pages : Pages} (shown : Evidence → Type 0) {a b : DiskState} {s t : Slots} → Makes pages [] a s b t → ((e : Evidence) → shown e → IsEvident a e) → (halt : Halt) → HasCause shown a b halt → ShowsEvidence b halt
so_of_cause shown makes all Disk is = tt
so_of_cause shown makes all (Damaged e) is = so_after makes e (all e is)

module _ {layout : Layout} {disk : DiskState} {slots : Slots} (is_fit : Fits layout disk slots) where
  -- the homes that frames had are placed, and so are these
  held_placed : (homes : Homes) → ((home : Home) → homes home → IsPlaced layout home) → (home : Home) → held_or slots homes home → IsPlaced layout home
  held_placed homes all home reason = elim reason [
    | inl held ↦ subst (IsPlaced layout) held.at (is_fit.placed held.slot held.frame held.has)
    | inr one ↦ all home one
  ]

  -- a label, another than that of one of such homes
  pub other_so : (grounds : Homes) → ((home : Home) → grounds home → IsPlaced layout home) → (sector : ℕ) (wanted : Wanted) (found : Label) → IsOther grounds disk sector wanted found → IsEvident disk (Mismatch sector wanted found)
  other_so grounds all sector wanted found is = (is.there, inr is.other, may_be_in layout disk.sectors sector wanted is_fit.accepted is_fit.size (all (home_at sector wanted) is.reason))

  -- that of a home of the map, or of one that a frame had
  of_map_so : (sector : ℕ) (wanted : Wanted) (found : Label) → IsOther (held_or slots (IsMapHome FileMap layout)) disk sector wanted found → IsEvident disk (Mismatch sector wanted found)
  of_map_so = other_so (held_or slots (IsMapHome FileMap layout)) (held_placed (IsMapHome FileMap layout) (map_homes_placed FileMap layout))

  -- or of such a home, or of a page on a data sector
  pub held_or_file : (homes : Homes) → ((home : Home) → homes home → IsFileHome layout home) → (home : Home) → held_or slots (IsMapHome FileMap layout) home ⊎ homes home → IsPlaced layout home
  held_or_file homes all home reason = elim reason [
    | inl held ↦ held_placed (IsMapHome FileMap layout) (map_homes_placed FileMap layout) home held
    | inr one ↦ file_placed layout home (all home one)
  ]

  mismatch_so : (homes : Homes) → ((home : Home) → homes home → IsPlaced layout home) → (e : Evidence) → IsMismatch (held_or slots homes) disk e → IsEvident disk e
  mismatch_so homes all (Mismatch sector wanted found) is = other_so (held_or slots homes) (held_placed homes all) sector wanted found is
  mismatch_so homes all (Malformed structure page) is = absurd is
  mismatch_so homes all (Missing id page) is = absurd is

  map_so : (e : Evidence) → MapEvidence layout disk slots e → IsEvident disk e
  map_so (Mismatch sector wanted found) is = of_map_so sector wanted found is
  map_so (Malformed structure page) is = inl is.0
  map_so (Missing id page) is = absurd is

  add_so : (e : Evidence) → AddEvidence layout disk slots e → IsEvident disk e
  add_so (Mismatch sector wanted found) is = of_map_so sector wanted found is
  add_so (Malformed structure page) is = inl is.0
  add_so (Missing id page) is = absurd is

  cut_so : (new : DiskState) (after : Slots) (e : Evidence) → CutEvidence layout disk slots new after e → IsEvident disk e
  cut_so new after (Mismatch sector wanted found) is = of_map_so sector wanted found is
  cut_so new after (Malformed structure page) is = inl is.0
  cut_so new after (Missing id page) is = absurd is

  found_so : (kept : List Run) (e : Evidence) → FoundEvidence layout disk slots kept e → IsEvident disk e
  found_so kept (Mismatch sector wanted found) is =
      other_so _ (held_or_file (IsFoundHome layout disk slots kept) (λ home one. one.table.on_data)) sector wanted found is
  found_so kept (Malformed structure page) is = inl is.0
  found_so kept (Missing id page) is = inl (is.0, is.1)

-- ---- By the words of causes.

module _ {pages : Pages} {layout : Layout} {a b : DiskState} {s t : Slots} (is_fit : Fits layout a s) (makes : Makes pages [] a s b t) (halt : Halt) where
  -- where homes were given, and on the allocation map
  pub so_of_halts : (given : Homes) → ((home : Home) → given home → IsPlaced layout home) → Halts given a s b halt → ShowsEvidence b halt
  so_of_halts given all is = so_of_cause _ makes (mismatch_so is_fit given all) halt is

  pub so_of_map : MapHalts layout a s b halt → ShowsEvidence b halt
  so_of_map is = so_of_cause _ makes (map_so is_fit) halt is

  pub so_of_add : AddHalts layout a s b halt → ShowsEvidence b halt
  so_of_add is = so_of_cause _ makes (add_so is_fit) halt is

  pub so_of_cut : CutHalts layout a s b t halt → ShowsEvidence b halt
  so_of_cut is = so_of_cause _ makes (cut_so is_fit b t) halt is

  pub so_of_tables : (kept : List Run) → FoundHalts layout a s kept b halt → ShowsEvidence b halt
  so_of_tables kept is = so_of_cause _ makes (found_so is_fit kept) halt is
