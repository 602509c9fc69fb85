-- What the file maps of one disk with one row of frames name, and what runs of such a map say.
use Rattle.std.specs.Prelude.{◌≡◌, ℕ, ◌<◌, ◌≤◌, ◌^◌, true, List}
use Rattle.std.proofs.Common.{inl, inr, sym, ◌∙◌, ap, subst, arith}
use Rattle.labelled_disk.specs.declared.layout.Layout.{Layout}
use Rattle.labelled_disk.specs.Layout.{vfm}
use Rattle.labelled_disk.specs.Sectors.{Sector}
use Rattle.labelled_disk.specs.State.{DiskState}
use Rattle.frame_pool.specs.declared.home.Home.{Home}
use Rattle.frame_pool.specs.Frames.{Slots}
use Rattle.page_tree.specs.Reveals.{RevealsTree}
use Rattle.file_map.specs.declared.run.Run.{Run}
use Rattle.file_map.specs.FileMap.{AreNamed, Triples}
use Rattle.file_map.specs.Run.{holds, sector_at}
use Rattle.file_map.proofs.InForm.{shown_run}
use Rattle.file_map.proofs.Runs.{has_page}
use Rattle.swapper_kernel.specs.declared.manager.Manager.TheVariants.{FileMap}
use Rattle.swapper_kernel.specs.Homes.{IsLayout}
use Rattle.swapper_kernel.specs.OnceLaws.{reveals_once}
use Rattle.swapper_kernel.specs.Stands.{Stands}
use Rattle.swapper_kernel.specs.Window.{Reveals}
use Rattle.filer_kernel.specs.Causes.{IsRunHome}
use Rattle.filer_kernel.specs.MapOnce.{named_by_bytes}
use Rattle.filer_kernel.specs.Triples.{MapIs, AreOf}

-- maps in form in the memories of one disk with one row of frames name the same
pub maps_named_once : {a : DiskState} {s : Slots} (layout : Layout) (m n : List Sector) (named also : Triples) → IsLayout layout → a.sectors ≡ layout.sectors → Stands a s m → Stands a s n → MapIs layout named m → MapIs layout also n
    → (id page sector : ℕ) → also id page sector ≡ named id page sector
maps_named_once {a = a} {s = s} layout m n named also is size first second h l =
    let pages : layout.vfm ≡ vfm layout.sectors = ap (λ (x : Layout). x.vfm) is.1 in
    let reveals : Reveals FileMap a s layout h.bytes = record { memory = m; stands = first; shows = h.shows; size = size } in
    let also_reveals : Reveals FileMap a s layout l.bytes = record { memory = n; stands = second; shows = l.shows; size = size } in
    let same : l.bytes ≡ h.bytes = reveals_once FileMap a s layout l.bytes h.bytes also_reveals reveals in
    named_by_bytes layout.sectors h.bytes l.bytes named also (let few = is.0.1 in omega (arith, few)) same
    (subst (λ (p : ℕ). AreNamed layout.sectors (RevealsTree 24 12 p (λ b. b ≡ h.bytes)) named) pages h.names)
    (subst (λ (p : ℕ). AreNamed layout.sectors (RevealsTree 24 12 p (λ b. b ≡ l.bytes)) also) pages l.names)

module _ {x : Layout} {named : Triples} {a : DiskState} {s : Slots} {m : List Sector} (is : IsLayout x) (size : a.sectors ≡ x.sectors) (stands : Stands a s m) (map : MapIs x named m) where
  bytes_revealed : Reveals FileMap a s x map.bytes
  bytes_revealed = record { memory = m; stands = stands; shows = map.shows; size = size }

  map_pages : x.vfm ≡ vfm x.sectors
  map_pages = ap (λ (l : Layout). l.vfm) is.1

  few : x.sectors < 2 ^ 32
  few = let n = is.0.1 in omega (arith, n)

  least : 9 ≤ x.vfm
  least = let n = is.0.0 in let p = map_pages in omega (arith, n, p)

  most : x.vfm ≤ 2 ^ 18
  most = let n = is.0.1 in let p = map_pages in omega (arith, n, p)

  -- what a run that was kept, or that the map shows, says is named
  pub run_home_named : (k : List Run) → AreOf named k → (home : Home) → IsRunHome x a s k home → named home.id home.page home.sector ≡ true
  run_home_named k are home h = elim h.given [
    | inl (j, at) ↦
        let same = (has_page h.run home.id home.page h.has).same in
        let held : holds h.run h.run.id home.page ≡ true = ap (λ (i : ℕ). holds h.run i home.page) same ∙ h.has in
        ap (named home.id home.page) h.at ∙ ap (λ (i : ℕ). named i home.page (sector_at h.run home.page)) (sym same) ∙ are j h.run at home.page held
    | inr (page, shows) ↦ ap (named home.id home.page) h.at ∙ shown_run x.sectors x.vfm map.bytes named map.names few least most page h.run h.form (shows map.bytes bytes_revealed) home.id home.page h.has
  ]
