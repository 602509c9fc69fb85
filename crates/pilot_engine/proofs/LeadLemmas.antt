-- What a call on a file leaves of a session, from what it did to the memory.
use Rattle.std.proofs.Common.{◌≡◌, ℕ, ◌+◌, Bool, List, [], ◌∷◌, length, refl, sym, ◌∙◌, ap, length-set}
use Rattle.std.specs.Prelude.{slice_set}
use Rattle.std.proofs.lemmas.List.{length-map}
use Rattle.labelled_disk.specs.declared.label.Label.{Label}
use Rattle.labelled_disk.specs.declared.layout.Layout.{Layout}
use Rattle.labelled_disk.specs.declared.disk.DiskWrite.{DiskWrite}
use Rattle.labelled_disk.specs.Sectors.{Sector}
use Rattle.labelled_disk.specs.State.{DiskState}
use Rattle.frame_pool.specs.Frames.{Slots}
use Rattle.flat_machine.specs.Machine.{Machine, used}
use Rattle.swapper_kernel.specs.Goes.{Change}
use Rattle.swapper_kernel.specs.Stands.{labels_of}
use Rattle.filer_kernel.specs.declared.cached.CachedRuns.{CachedRuns}
use Rattle.session_words.specs.FreeLaws.{Frees, free_where}
use Rattle.session_words.specs.GrowLaws.{Grows, grown_labels}
use Rattle.labelled_disk.specs.Label.{page_label}
use Rattle.session_words.specs.MarkLaws.{Marks, marked_label}
use Rattle.session_words.specs.Parts.{TablesMeaning}
use Rattle.session_words.specs.StandsFor.{StandsFor}
use Rattle.file_manager.specs.declared.volume.Volume.{Volume}
use Rattle.file_manager.specs.Book.{Leads}
use Rattle.running_words.specs.Session.{IsSession}
use Rattle.running_words.proofs.SessionLemmas.{one_memory}

-- as many labels, as many sectors
pub same_count : (x y : List Sector) → length (labels_of y) ≡ length (labels_of x) → length y ≡ length x
same_count x y same = sym (length-map y (λ (s : Sector). s.0)) ∙ same ∙ length-map x (λ (s : Sector). s.0)

pub marks_long : (id : ℕ) (mark : Label → Label) (x y : List Sector) → Marks id mark x y → length y ≡ length x
marks_long id mark x y h = same_count x y (ap length h.labels ∙ length-map (labels_of x) (marked_label id mark))

pub frees_long : (gone : ℕ → ℕ → Bool) (x y : List Sector) → Frees gone x y → length y ≡ length x
frees_long gone x y h = same_count x y (ap length h.labels ∙ length-map (labels_of x) (free_where gone))

pub grown_long : (id kind page : ℕ) (is : List ℕ) (labels : List Label) → length (grown_labels id kind page is labels) ≡ length labels
grown_long id kind page [] labels = refl
grown_long id kind page (i ∷ is) labels = grown_long id kind (page + 1) is (slice_set labels i (page_label id kind page)) ∙ length-set labels i (page_label id kind page)

pub grows_long : (id kind page : ℕ) (is : List ℕ) (x y : List Sector) → Grows id kind page is x y → length y ≡ length x
grows_long id kind page is x y h = same_count x y (ap length h.grown.labels ∙ grown_long id kind page is (labels_of x))

module _ (P : Change) (run : List DiskWrite) (spaces_of : TablesMeaning) (old new : DiskState) (before after : Slots) (layout : Layout) (runs later : CachedRuns) (volume next_volume : Volume) (m n : Machine)
    (s : IsSession spaces_of old before layout runs volume m) (leads : Leads P run old before layout new after later) (long : (x y : List Sector) → P x y → length y ≡ length x) where
  -- a call that led to disk and frames that stand for another machine
  pub led : StandsFor spaces_of new after n → next_volume.root.serial ≡ n.serial → next_volume.root.counter ≡ n.counter → next_volume.used ≡ used n → IsSession spaces_of new after layout later next_volume n
  led stands serial counter room =
      let x = s.stands.memory in
      let y = leads.goes.memory x s.stands.stands in
      record {
        stands = stands;
        kept = λ z is. record { long = ap length (one_memory new after z y.0 is y.1) ∙ long x y.0 y.2 ∙ (s.kept x s.stands.stands).long; true_runs = leads.true_runs z is };
        same_serial = serial;
        same_counter = counter;
        same_used = room;
      }
