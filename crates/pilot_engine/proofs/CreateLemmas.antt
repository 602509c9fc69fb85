-- A file that is made.
use Rattle.std.proofs.Common.{◌≡◌, ℕ, ◌+◌, ◌*◌, ◌^◌, ◌<◌, ◌≤◌, List, ◌∷◌, length, Option, Some, None, sym, ◌∙◌, ap, subst, arith, length-set}
use Rattle.std.specs.Prelude.{slice_get, slice_set, option_map}
use Rattle.std.proofs.lemmas.List.{length-replicate}
use Rattle.labelled_disk.specs.declared.layout.Layout.{Layout}
use Rattle.labelled_disk.specs.File.{File, file_at}
use Rattle.labelled_disk.specs.Label.{leader_page, root_label, page_label}
use Rattle.labelled_disk.specs.Layout.{capacity}
use Rattle.labelled_disk.specs.Runs.{creation}
use Rattle.labelled_disk.specs.Sectors.{Sector}
use Rattle.labelled_disk.specs.State.{DiskState}
use Rattle.volume_root.specs.RootPage.{root_write}
use Rattle.frame_pool.specs.Frames.{Slots}
use Rattle.flat_machine.specs.declared.call.Call.TheVariants as call
use Rattle.flat_machine.specs.declared.call.Call.{Call}
use Rattle.flat_machine.specs.declared.call.Refusal.{Refusal}
use Rattle.flat_machine.specs.declared.call.Reply.TheVariants as reply
use Rattle.flat_machine.specs.File.{zero_page}
use Rattle.flat_machine.specs.Machine.{Machine, used}
use Rattle.flat_machine.specs.Next.{change, next, new_id, new_file}
use Rattle.flat_machine.specs.Refusal.{refusal}
use Rattle.flat_machine.proofs.FileLemmas.{room_put}
use Rattle.flat_machine.proofs.StoreLemmas.{unrefused}
use Rattle.swapper_kernel.specs.Goes.{Goes}
use Rattle.swapper_kernel.specs.Homes.{IsLayout}
use Rattle.swapper_kernel.specs.Stands.{labels_of}
use Rattle.filer_kernel.specs.declared.cached.CachedRuns.{CachedRuns}
use Rattle.session_words.specs.CreateLaws.{Creates}
use Rattle.session_words.specs.Parts.{TablesMeaning, shapes_of, shape_of}
use Rattle.session_words.specs.StandsFor.{StandsFor}
use Rattle.session_words.specs.Volume.{volume_page}
use Rattle.flat_machine.proofs.KeepNew.{none_new}
use Rattle.session_words.proofs.CreateLemmas.{create_stands}
use Rattle.session_words.proofs.SettledLemmas.{machine_shapes}
use Rattle.file_manager.specs.declared.volume.Volume.{Volume}
use Rattle.file_manager.specs.Creating.{CreatedAs, next_id, counted}
use Rattle.file_manager.specs.Making.{MayCreate}
use Rattle.running_words.specs.Session.{IsSession, Carries}
use Rattle.pilot_engine.proofs.CarryLemmas.{answers, refuses, stays_refused}
use Rattle.pilot_engine.proofs.LeadLemmas.{led, same_count, grown_long}
use Rattle.running_words.proofs.SessionLemmas.{session_books, known_brought}
use Rattle.pilot_engine.proofs.SeenLemmas.{missing_pages, nobody}
use Rattle.pilot_engine.proofs.SpaceLeft.{room}

creates_long : (serial counter left id kind leader : ℕ) (is : List ℕ) (x y : List Sector) → Creates serial counter left id kind leader is x y → length y ≡ length x
creates_long serial counter left id kind leader is x y h =
    same_count x y
    (ap length h.grown.labels ∙ grown_long id kind 0 is (labels_of h.middle) ∙ ap length h.led.labels
    ∙ length-set (slice_set (labels_of x) 0 root_label) leader (page_label id kind leader_page) ∙ length-set (labels_of x) 0 root_label)

module _ (spaces_of : TablesMeaning) (old : DiskState) (before : Slots) (layout : Layout) (runs : CachedRuns) (volume : Volume) (m : Machine) (s : IsSession spaces_of old before layout runs volume m) (is : IsLayout layout) (pages : ℕ) where
  same_id : next_id volume.root ≡ new_id m
  same_id = λ i. s.same_serial i * 2 ^ 32 + s.same_counter i

  none : file_at m.files (new_id m) ≡ None
  none = none_new m s.stands.is.by.machine

  -- the file may be made
  pub may_create : volume.used + pages + 1 ≤ layout.capacity → MayCreate old before layout runs (shapes_of m.files) m.spaces (next_id volume.root) pages s.stands.memory
  may_create fits =
      let left = room spaces_of old before layout runs volume m is s in
      record {
        books = session_books spaces_of old before layout runs volume m s;
        hidden = λ page. missing_pages m s.stands.is.by.machine 0 page (nobody m s.stands.is.by.machine);
        are = machine_shapes m s.stands.is.by.machine (length s.stands.memory) (slice_get s.stands.memory 0) s.stands.is.by.root;
        none = ap (shapes_of m.files) same_id ∙ ap (λ (o : Option File). option_map shape_of o) none;
        enough = omega (arith, fits, left, s.same_used);
      }

  module _ (kind : ℕ) (small : kind < 65536) (new : DiskState) (after : Slots) (later : CachedRuns) (now : Volume) (free : refusal m (call.Create pages kind) ≡ None)
      (changed : now ≡ record volume { root = counted volume.root; used = volume.used + pages + 1 }) (made : CreatedAs volume.root kind pages old before layout new after later) where
    room_same : capacity layout.sectors ≡ m.capacity
    room_same = ap capacity (sym (s.kept s.stands.memory s.stands.stands).long) ∙ s.stands.is.by.root.has_room

    goes : Goes (Creates m.serial (m.counter + 1) m.capacity (new_id m) kind made.leader made.sectors) volume_page (root_write (counted volume.root) ∷ creation (next_id volume.root) kind made.leader made.sectors) old before new after
    goes =
        subst (λ (n : ℕ). Goes (Creates m.serial (m.counter + 1) m.capacity n kind made.leader made.sectors) volume_page (root_write (counted volume.root) ∷ creation (next_id volume.root) kind made.leader made.sectors) old before new after) same_id
        (subst (λ (n : ℕ). Goes (Creates m.serial (m.counter + 1) n (next_id volume.root) kind made.leader made.sectors) volume_page (root_write (counted volume.root) ∷ creation (next_id volume.root) kind made.leader made.sectors) old before new after) room_same
        (subst (λ (n : ℕ). Goes (Creates m.serial (n + 1) (capacity layout.sectors) (next_id volume.root) kind made.leader made.sectors) volume_page (root_write (counted volume.root) ∷ creation (next_id volume.root) kind made.leader made.sectors) old before new after) s.same_counter
        (subst (λ (n : ℕ). Goes (Creates n (volume.root.counter + 1) (capacity layout.sectors) (next_id volume.root) kind made.leader made.sectors) volume_page (root_write (counted volume.root) ∷ creation (next_id volume.root) kind made.leader made.sectors) old before new after) s.same_serial
        made.leads.goes)))

    stands : StandsFor spaces_of new after (next m (call.Create pages kind))
    stands =
        subst (λ (n : ℕ). StandsFor spaces_of new after (next m (call.Create n kind))) made.long
        (create_stands spaces_of kind made.leader made.sectors _ old new before after m small (subst (λ (n : ℕ). refusal m (call.Create n kind) ≡ None) (sym made.long) free) goes (known_brought spaces_of m before after made.leads.brings) s.stands)

    used_more : used (change m (call.Create pages kind)) ≡ used m + (pages + 1)
    used_more =
        let put = room_put (new_file m pages kind) m.files s.stands.is.by.machine.ids_rise none in
        let long : length (new_file m pages kind).pages ≡ pages = length-replicate pages zero_page in
        omega (arith, put, long)

    pub create_done : Carries spaces_of m (call.Create pages kind) (reply.File (next_id volume.root)) new after layout later now
    create_done = record {
      allowed = answers m (call.Create pages kind) (reply.File (next_id volume.root)) free (ap reply.File same_id);
      stands = subst (λ (n : Machine). IsSession spaces_of new after layout later now n) (sym (unrefused m (call.Create pages kind) free))
          (led (Creates volume.root.serial (volume.root.counter + 1) (capacity layout.sectors) (next_id volume.root) kind made.leader made.sectors) _ spaces_of old new before after layout runs later volume now m (change m (call.Create pages kind)) s made.leads
          (creates_long volume.root.serial (volume.root.counter + 1) (capacity layout.sectors) (next_id volume.root) kind made.leader made.sectors)
          (subst (λ (n : Machine). StandsFor spaces_of new after n) (unrefused m (call.Create pages kind) free) stands)
          (ap (λ (v : Volume). v.root.serial) changed ∙ s.same_serial) (ap (λ (v : Volume). v.root.counter) changed ∙ ap (λ (n : ℕ). n + 1) s.same_counter)
          (let now_used : now.used ≡ volume.used + pages + 1 = ap (λ (v : Volume). v.used) changed in omega (arith, now_used, used_more, s.same_used)));
    }

-- a call that is refused at once
pub create_refused : (spaces_of : TablesMeaning) (disk : DiskState) (slots : Slots) (layout : Layout) (runs : CachedRuns) (volume : Volume) (m : Machine) → IsSession spaces_of disk slots layout runs volume m → (c : Call) (word : Refusal) → refusal m c ≡ Some word
    → Carries spaces_of m c (reply.Refused word) disk slots layout runs volume
create_refused spaces_of disk slots layout runs volume m s c word is = record {
  allowed = refuses m c word is;
  stands = subst (λ (n : Machine). IsSession spaces_of disk slots layout runs volume n) (stays_refused m c word is) s;
}
