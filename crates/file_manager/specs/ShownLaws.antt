-- What a file map in form names: pages of runs that were kept or are shown, and as many homes as it counts records.
use Rattle.std.proofs.Common.{◌≡◌, ℕ, zero, suc, ◌<◌, ◌≤◌, ◌^◌, true, List, [], ◌∷◌, length, map, Some, refl, sym, ◌∙◌, ap, arith}
use Rattle.std.specs.Prelude.{slice_get}
use Rattle.std.proofs.lemmas.List.{length-map}
use Rattle.std.proofs.lemmas.Option.{same_Some, none-some}
use Rattle.labelled_disk.specs.declared.layout.Layout.{Layout}
use Rattle.labelled_disk.specs.Layout.{vfm}
use Rattle.labelled_disk.specs.Sectors.{Sector}
use Rattle.labelled_disk.specs.State.{DiskState}
use Rattle.frame_pool.specs.declared.home.Home.{Home}
use Rattle.frame_pool.specs.Frames.{Slots}
use Rattle.page_tree.specs.Page.{page_at, count_in}
use Rattle.file_map.specs.declared.run.Run.{Run}
use Rattle.file_map.specs.Cause.{IsBroken}
use Rattle.file_map.specs.FileMap.{Triples}
use Rattle.file_map.proofs.InForm.{shown_unbroken}
use Rattle.swapper_kernel.specs.declared.manager.Manager.TheVariants.{FileMap}
use Rattle.swapper_kernel.specs.Homes.{IsLayout}
use Rattle.swapper_kernel.specs.OnceLaws.{reveals_once}
use Rattle.swapper_kernel.specs.Stands.{Stands}
use Rattle.swapper_kernel.specs.Window.{Reveals}
use Rattle.filer_kernel.specs.Causes.{MapShows, MapCounts}
pub use Rattle.filer_kernel.specs.NamedLaws.{run_home_named}
use Rattle.filer_kernel.specs.Triples.{MapIs}
use Rattle.file_manager.specs.CountedRuns.{counted_runs, first_named, firsts_apart}
use Rattle.file_manager.specs.Reasons.{AreHomes}

-- ---- The homes of the first pages of runs.

abbrev home_of : Run → Home
home_of r = record { sector = r.sector; id = r.id; page = r.first }

abbrev homes_of : List Run → List Home
homes_of runs = map home_of runs

home_at_turn : (runs : List Run) (k : ℕ) (home : Home) → slice_get (homes_of runs) k ≡ Some home → (r : Run) × (slice_get runs k ≡ Some r) × (home ≡ home_of r)
home_at_turn [] k home at = absurd (none-some home at)
home_at_turn (r ∷ runs) zero home at = (r, refl, sym (same_Some (home_of r) home at))
home_at_turn (r ∷ runs) (suc k) home at = home_at_turn runs k home at

-- ---- What a map in form shows.

module _ {x : Layout} {named : Triples} {a : DiskState} {s : Slots} {m : List Sector} (is : IsLayout x) (size : a.sectors ≡ x.sectors) (stands : Stands a s m) (map : MapIs x named m) where
  bytes_revealed : Reveals FileMap a s x map.bytes
  bytes_revealed = record { memory = m; stands = stands; shows = map.shows; size = size }

  map_pages : x.vfm ≡ vfm x.sectors
  map_pages = ap (λ (l : Layout). l.vfm) is.1

  few : x.sectors < 2 ^ 32
  few = let n = is.0.1 in omega (arith, n)

  least : 9 ≤ x.vfm
  least = let n = is.0.0 in let p = map_pages in omega (arith, n, p)

  most : x.vfm ≤ 2 ^ 18
  most = let n = is.0.1 in let p = map_pages in omega (arith, n, p)

  -- no page of it breaks its form
  pub in_form : (page : ℕ) → IsBroken x.sectors (MapShows x a s) page → ⊥
  in_form page broken = shown_unbroken x.sectors x.vfm map.bytes named map.names few least most (MapShows x a s) (λ sight shows. shows map.bytes bytes_revealed) page broken

  -- as many pages of it are named as it counts records
  pub named_homes : (k : ℕ) → MapCounts x a s k → AreHomes (λ home. named home.id home.page home.sector ≡ true) k
  named_homes k (b, revealed, counts) =
      let runs = map.names.runs in
      let n : k ≡ length runs = counts ∙ ap (λ (c : List ℕ). count_in (page_at c 0)) (reveals_once FileMap a s x b map.bytes revealed bytes_revealed) ∙ counted_runs x.sectors x.vfm map.bytes named map.names in
      record {
        homes = homes_of runs;
        counted = length-map runs home_of ∙ sym n;
        each = λ j home at. let r = home_at_turn runs j home at in
            (λ i. named (r.2 i).id (r.2 i).page (r.2 i).sector) ∙ first_named x.sectors x.vfm map.bytes named map.names j r.0 r.1;
        apart = λ i j y z first second before same_id same_page.
            let r = home_at_turn runs i y first in
            let q = home_at_turn runs j z second in
            firsts_apart x.sectors x.vfm map.bytes named map.names i j r.0 q.0 r.1 q.1 before
            (ap (λ (h : Home). h.id) (sym r.2) ∙ same_id ∙ ap (λ (h : Home). h.id) q.2) (ap (λ (h : Home). h.page) (sym r.2) ∙ same_page ∙ ap (λ (h : Home). h.page) q.2);
      }
