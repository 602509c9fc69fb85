-- Where the maps are right, all pages of a file may be freed.
use Rattle.std.proofs.Common.{◌≡◌, ℕ, ◌+◌, ◌<◌, ◌≤◌, Bool, true, false, ◌&&◌, ◌||◌, List, Some, refl, sym, ◌∙◌, ap, subst, arith}
use Rattle.std.specs.Prelude.{◌==◌, nat_lt}
use Rattle.std.proofs.lemmas.List.{length-map}
use Rattle.std.proofs.lemmas.Bool.Decides.{nat_tests}
use Rattle.labelled_disk.specs.declared.label.Label.{Label}
use Rattle.labelled_disk.specs.declared.layout.Layout.{Layout}
use Rattle.labelled_disk.specs.Label.{names, leader_page}
use Rattle.labelled_disk.specs.Layout.{first_data}
use Rattle.labelled_disk.specs.Sectors.{Sector}
use Rattle.labelled_disk.specs.State.{DiskState}
use Rattle.frame_pool.specs.Frames.{Slots}
use Rattle.flat_machine.specs.declared.space.Space.{Space}
use Rattle.swapper_kernel.specs.Homes.{IsLayout}
use Rattle.swapper_kernel.specs.DiffersLaws.{sector_of_label}
use Rattle.filer_kernel.specs.declared.cached.CachedRuns.{CachedRuns}
use Rattle.filer_kernel.specs.Cached.{runs_of}
use Rattle.session_words.specs.Parts.{Shape, Shapes, is_owned}
use Rattle.file_manager.specs.Book.{Books}
use Rattle.file_manager.specs.Freeing.{IsHidden, MayFree, MayFreeAll, HasPageAt}
use Rattle.file_manager.proofs.BookLemmas.{kept_are}
use Rattle.file_manager.proofs.RunStages.{first_is, maps_named, marks_shown, bits_shown, map_is}

-- the pages of a file are some that labels name
page_owned : (shapes : Shapes) (id page : ℕ) (f : Shape) → shapes id ≡ Some f → page < f.size → is_owned shapes id page ≡ true
page_owned shapes id page f is below =
    let x : nat_lt page f.size ≡ true = grind (arith, nat_tests) in
    rw (is, x) (either (id == 3 && nat_lt page 96) (page == leader_page))
  where
    either : (a b : Bool) → (a || (b || true)) ≡ true
    either true b = refl
    either false true = refl
    either false false = refl

-- and so is its leader
lead_owned : (shapes : Shapes) (id : ℕ) (f : Shape) → shapes id ≡ Some f → is_owned shapes id leader_page ≡ true
lead_owned shapes id f is = rw is (either (id == 3 && nat_lt leader_page 96))
  where
    either : (b : Bool) → (b || true) ≡ true
    either true = refl
    either false = refl

module _ (disk : DiskState) (slots : Slots) (layout : Layout) (kept : CachedRuns) (shapes : Shapes) (spaces : List Space) (x : List Sector) (is : IsLayout layout) (books : Books disk slots layout kept shapes spaces x)
    (id : ℕ) (hidden : IsHidden slots spaces id) where
  labelled : (page s : ℕ) → books.booked.named id page s ≡ true → HasPageAt layout x id page s
  labelled page s is_named =
      let t = books.booked.triples.only id page s is_named in
      let o = books.booked.labels.pages.only s t.label t.there t.taken in
      let here = sector_of_label x s t.label t.there.here in
      let named : names t.label (record { id = id; page = page }) ≡ true = (λ j. names t.label (record { id = sym t.same_id j; page = sym t.same_page j })) ∙ o.named in
      let low : layout.first ≤ s = subst (λ (n : ℕ). n ≤ s) (ap first_data (length-map x (λ s. s.0)) ∙ sym (first_is layout is (runs_of layout.sectors kept) shapes x books.booked)) t.there.is_data in
      (low, (here.0, here.1, ap (λ (l : Label). names l (record { id = id; page = page })) here.2 ∙ named))

  pub may_be_freed : (from end : ℕ) → ((page : ℕ) → from ≤ page → page < end → is_owned shapes id page ≡ true) → MayFree disk slots layout kept books.booked.named spaces id from end x
  may_be_freed from end owned = record {
    stands = books.stands;
    long = books.booked.long;
    map = map_is layout is (runs_of layout.sectors kept) shapes x books.booked books.booked.named books.booked.map;
    kept = kept_are layout (runs_of layout.sectors kept) shapes x is books.booked;
    marks = marks_shown layout is (runs_of layout.sectors kept) shapes x books.booked;
    bits = bits_shown layout is (runs_of layout.sectors kept) shapes x books.booked;
    map_labels = maps_named layout is (runs_of layout.sectors kept) shapes x books.booked;
    frames = books.frames;
    hidden = hidden;
    mapped = λ page above below.
        let place = books.booked.labels.pages.all id page (owned page above below) in
        (place.place, books.booked.triples.all id page place.place (record { label = place.label; there = place.there; taken = place.taken; same_id = place.same_id; same_page = place.same_page }));
    labelled = λ page s above below is_named. labelled page s is_named;
  }

  pub all_may_be_freed : (f : Shape) → shapes id ≡ Some f → MayFreeAll disk slots layout kept books.booked.named spaces id f.size x
  all_may_be_freed f is_file = record {
    leader = may_be_freed leader_page (leader_page + 1) (λ page above below.
        let same : leader_page ≡ page = omega (arith, above, below) in
        ap (is_owned shapes id) (sym same) ∙ lead_owned shapes id f is_file);
    rest = may_be_freed 0 f.size (λ page above below. page_owned shapes id page f is_file below);
  }
