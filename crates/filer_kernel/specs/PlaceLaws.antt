-- Where the file map says that pages stand, and what leaves the map.
use Rattle.std.specs.Prelude.{◌≡◌, ℕ, ◌+◌, ◌*◌, ◌<◌, ◌≤◌, true, false, List, []}
use Rattle.std.proofs.Common.{sym, ◌∙◌, ap, arith}
use Rattle.std.proofs.lemmas.Bool.Decides.{nat_tests}
use Rattle.labelled_disk.specs.declared.label.Label.{Label}
use Rattle.labelled_disk.specs.declared.layout.Layout.{Layout}
use Rattle.labelled_disk.specs.Layout.{first_data}
use Rattle.labelled_disk.specs.Sectors.{Sector}
use Rattle.labelled_disk.specs.State.{DiskState}
use Rattle.flat_mem.specs.Memory.{part}
use Rattle.frame_pool.specs.Frames.{Slots}
use Rattle.file_map.specs.Run.{sector_at}
use Rattle.file_map.specs.FileMap.{Triples, run_at}
use Rattle.file_map.specs.Entries.{Sight}
use Rattle.file_map.proofs.Searches.{IsNamedBy, named_by}
use Rattle.swapper_kernel.specs.declared.manager.Manager.TheVariants.{FileMap}
use Rattle.swapper_kernel.specs.Homes.{IsLayout}
use Rattle.swapper_kernel.specs.Differs.{Differs}
use Rattle.swapper_kernel.specs.Goes.{Goes, Pages}
use Rattle.swapper_kernel.specs.Window.{IsPage, Shows, Reveals}
use Rattle.swapper_kernel.proofs.PlacedLemmas.{parts}
use Rattle.filer_kernel.specs.Triples.{MapIs}
use Rattle.filer_kernel.specs.Causes.{MapShows}
use Rattle.filer_kernel.specs.Tables.{in_tables}

-- ---- Pages that are named.

pub data_first : (layout : Layout) → IsLayout layout → layout.first ≡ first_data layout.sectors
unfolding first_data
data_first layout is = ap (λ (l : Layout). l.first) is.1

module _ (layout : Layout) (named : Triples) (m : List Sector) (map : MapIs layout named m) where
  by_run : (id page sector : ℕ) → named id page sector ≡ true → IsNamedBy map.names.runs id page sector
  by_run id page sector is = named_by map.names.runs id page sector (sym (map.names.are id page sector) ∙ is)

  -- a page stands in one sector
  pub one_sector : (id page x y : ℕ) → named id page x ≡ true → named id page y ≡ true → x ≡ y
  one_sector id page x y first second =
      let a = by_run id page x first in
      let b = by_run id page y second in
      let same : a.index ≡ b.index = map.names.form.once a.index b.index id page a.below b.below a.held b.held in
      a.place ∙ ap (λ (j : ℕ). sector_at (run_at map.names.runs j) page) same ∙ sym b.place

  -- and that is a data sector
  pub on_data : IsLayout layout → (id page sector : ℕ) → named id page sector ≡ true → layout.first ≤ sector
  on_data is id page sector first =
      let a = by_run id page sector first in
      let from = (map.names.form.each a.index a.below).from_data in
      let place = a.place in
      let data_from = data_first layout is in
      omega (arith, from, place, data_from)

-- ---- Changes of the space tables' pages leave the map.

outside_tables : (layout : Layout) (k : ℕ) (l : Label) → IsLayout layout → k < layout.vfm → in_tables layout (1 + layout.vam + k) l ≡ false
outside_tables layout k l is below =
    let first : layout.first ≡ 1 + layout.vam + layout.vfm = (parts layout is).0 in
    grind (arith, nat_tests)

pub shows_kept : (layout : Layout) (m n : List Sector) (b : List ℕ) → IsLayout layout → Differs (in_tables layout) m n → Shows FileMap m layout b → Shows FileMap n layout b
shows_kept layout m n b is differs shows = record {
  count = shows.count;
  page = λ k below.
      let was : IsPage m (1 + layout.vam + k) (part b (512 * k) 512) = shows.page k below in
      record { label = was.label; keeps = differs.pages (1 + layout.vam + k) (was.label, part b (512 * k) 512) was.keeps (outside_tables layout k was.label is below) };
}

-- what the map says
pub map_kept : (layout : Layout) (named : Triples) (m n : List Sector) → IsLayout layout → Differs (in_tables layout) m n → MapIs layout named m → MapIs layout named n
map_kept layout named m n is differs map = record { bytes = map.bytes; shows = shows_kept layout m n map.bytes is differs map.shows; names = map.names }

-- and its bytes, whatever their form is
pub reveals_kept : {pages : Pages} {a b : DiskState} {s t : Slots} (layout : Layout) → IsLayout layout → Goes (Differs (in_tables layout)) pages [] a s b t
    → (bytes : List ℕ) → Reveals FileMap a s layout bytes → Reveals FileMap b t layout bytes
reveals_kept layout is goes bytes reveals =
    let now = goes.memory reveals.memory reveals.stands in
    record { memory = now.0; stands = now.1; shows = shows_kept layout reveals.memory now.0 bytes is now.2 reveals.shows; size = goes.makes.went.sectors ∙ reveals.size }

-- what they show afterwards they showed before
pub shown_before : {pages : Pages} {a b : DiskState} {s t : Slots} (layout : Layout) → IsLayout layout → Goes (Differs (in_tables layout)) pages [] a s b t
    → (sight : Sight) → MapShows layout b t sight → MapShows layout a s sight
shown_before layout is goes sight shows bytes reveals = shows bytes (reveals_kept layout is goes bytes reveals)
