-- All frames of clients' pages are given up, and the spaces are forgotten.
use Rattle.std.proofs.Common.{◌≡◌, inl, inr, ℕ, ◌+◌, ◌-◌, ◌<◌, ◌≤◌, Bool, true, false, cond, List, [], ◌∷◌, length, map, filter, Option, Some, None, refl, sym, ◌∙◌, ap, subst, arith}
use Rattle.std.specs.Prelude.{is_some, nat_le, nat_lt, ◌&&◌, ◌==◌, option_map, option_and_then, if◌then◌else◌}
use Rattle.std.specs.List.{AllByRecursion, AllZip, enumerate_from}
use Rattle.std.specs.Option.{option_map_or}
use Rattle.std.proofs.lemmas.Bool.{true≢false}
use Rattle.std.proofs.lemmas.Bool.Decides.{nat_tests}
use Rattle.labelled_disk.specs.declared.disk.DiskWrite.{DiskWrite}
use Rattle.labelled_disk.specs.File.{File, Page, file_at}
use Rattle.labelled_disk.specs.FilesOn.{files_on}
use Rattle.labelled_disk.specs.Sectors.{Sector}
use Rattle.labelled_disk.specs.State.{DiskState}
use Rattle.frame_pool.specs.Frames.{Slots}
use Rattle.flat_machine.specs.declared.call.Call.TheVariants as call
use Rattle.flat_machine.specs.declared.space.FilePage.{FilePage}
use Rattle.flat_machine.specs.declared.space.Space.{Space}
use Rattle.flat_machine.specs.declared.space.Window.{Window}
use Rattle.flat_machine.specs.At.{page_through, shown_at}
use Rattle.flat_machine.specs.File.{any_page}
use Rattle.flat_machine.specs.IsMachine.{IsMachine}
use Rattle.flat_machine.specs.Machine.{IsFile, Machine, nameable}
use Rattle.flat_machine.specs.Refusal.{refusal}
use Rattle.flat_machine.specs.Settled.{Agrees, FileAgrees, PageAgrees, is_unforced, settled_file}
use Rattle.flat_machine.specs.Space.{holds, mapped_at, root, root_pages, shows}
use Rattle.flat_machine.proofs.KeepPages.{close_keeps}
use Rattle.flat_machine.proofs.Lists.{In, any_in}
use Rattle.projection_laws.specs.Spaces.{AreSpaces}
use Rattle.projection_laws.proofs.Inside.{found_showing, in_the_root}
use Rattle.swap_units.specs.declared.interval.Interval.{Interval}
use Rattle.swapper_kernel.specs.Goes.{Makes}
use Rattle.swapper_kernel.specs.GoesLaws.{makes_wider}
use Rattle.swapper_kernel.specs.HaltLaws.{brings_wider}
use Rattle.filer_kernel.specs.Tables.{table_pages}
use Rattle.session_words.specs.FrameLaws.{HasFrames, IsKnown, IsThere, is_shown}
use Rattle.session_words.specs.Parts.{DirtyAreLoose, TablesMeaning}
use Rattle.session_words.specs.StandsFor.{IsFor, RevealsSettled}
use Rattle.session_words.specs.Volume.{volume_page}
use Rattle.session_words.proofs.CellLemmas.{any_agrees}
use Rattle.session_words.proofs.LooseLemmas.{volume_loose}
use Rattle.session_words.proofs.SameLabelLemmas.{zip_long}
use Rattle.file_manager.specs.declared.volume.Volume.{Volume}
use Rattle.fault_core.specs.Reach.{BringsOwn, Reaches}
use Rattle.fault_core.specs.Revealed.{Revealed}
use Rattle.fault_core.specs.Unit.{IsResident}
use Rattle.filer_kernel.specs.View.{View}
use Rattle.running_words.specs.Running.{IsRunning}
use Rattle.running_words.specs.RunningLaws.{IsWhole, RunningLaws}
use Rattle.running_words.specs.Session.{IsAlone}
use Rattle.running_words.proofs.LaterLemmas.{tables_own}
use Rattle.pilot_engine.specs.Closing.{HasShut, IsStop}
use Rattle.pilot_engine.specs.Opening.{root_alone}

-- with no space but the root, a file that is there may be deleted
pub delete_alone : (m : Machine) → m.spaces ≡ root ∷ [] → (id : ℕ) (f : File) → file_at m.files id ≡ Some f → refusal m (call.Delete id) ≡ None
delete_alone m alone id f found =
    let named : nameable m id ≡ file_at m.files id = rw alone refl in
    rw (named, alone, found) refl

-- A page that a window shows is shown at a page of the root.

pub record IsShownAt (ss : List Space) (u : FilePage) : Type 0 where
  pub page : ℕ
  pub below : page < root_pages
  pub shown : shown_at ss page ≡ Some u

through : (ss : List Space) → AreSpaces ss → (s : Space) (u : FilePage) (w : Window) → In s ss → s.window ≡ Some w → shows u.file u.page s ≡ true → IsShownAt ss u
through ss are s u w there has is =
    let p : ℕ = s.first + (u.page - w.first) in
    let mode : shows u.file u.page s ≡ (w.file == u.file && nat_le w.first u.page && nat_lt u.page (w.first + s.pages)) =
    ap (λ (o : Option Window). option_map_or (λ w. w.file == u.file && nat_le w.first u.page && nat_lt u.page (w.first + s.pages)) o false) has in
    let tests : (w.file == u.file && nat_le w.first u.page && nat_lt u.page (w.first + s.pages)) ≡ true = sym mode ∙ is in
    let same : w.file ≡ u.file = grind (arith, nat_tests, tests) in
    let from : w.first ≤ u.page = grind (arith, nat_tests, tests) in
    let last : u.page < w.first + s.pages = grind (arith, nat_tests, tests) in
    let held : holds s p ≡ true = grind (arith, nat_tests, from, last) in
    let mapped : is_some s.window ≡ true = ap is_some has in
    let at : mapped_at ss p ≡ Some s = found_showing ss are p s (record { there = there; mapped = mapped; holds_it = held }) in
    let place : w.first + (p - s.first) ≡ u.page = omega (arith, from) in
    let over = (in_the_root ss are s there).last in
    record {
      page = p;
      below = omega (arith, over, from, last);
      shown = ap (λ (o : Option Space). option_and_then (λ s. option_map (λ w. page_through s w p) s.window) o) at
          ∙ ap (λ (o : Option Window). option_map (λ w. page_through s w p) o) has ∙ (λ i. Some (record { file = same i; page = place i }));
    }

pub shown_somewhere : (ss : List Space) → AreSpaces ss → (u : FilePage) → is_shown ss u.file u.page ≡ true → IsShownAt ss u
shown_somewhere ss are u is = let found = any_in (shows u.file u.page) ss is in by found.0 found.1 found.2 found.0.window refl
  where
    by : (s : Space) → In s ss → shows u.file u.page s ≡ true → (o : Option Window) → s.window ≡ o → IsShownAt ss u
    by s there is None e = absurd (true≢false (sym is ∙ ap (λ (o : Option Window). option_map_or (λ w. w.file == u.file && nat_le w.first u.page && nat_lt u.page (w.first + s.pages)) o false) e))
    by s there is (Some w) e = through ss are s u w there e is

-- no frame has a page that a window shows from this page of the root on, up to another
abbrev pub AreGone : List Space → Slots → ℕ → ℕ → Type 0
AreGone ss slots from to = (page : ℕ) (u : FilePage) → from ≤ page → page < to → shown_at ss page ≡ Some u → IsResident slots u.file u.page → ⊥

-- The machine without its spaces.

abbrev pub forgotten : Machine → Machine
forgotten m = record m { spaces = root ∷ []; unforced = [] }

pub forgotten_machine : (m : Machine) → IsMachine m → IsMachine (forgotten m)
forgotten_machine m h =
    let c = close_keeps m h in
    record {
      serial_fits = h.serial_fits;
      counter_fits = h.counter_fits;
      ids_rise = h.ids_rise;
      ids_given = h.ids_given;
      whole_files = h.whole_files;
      room = h.room;
      has_root = c.has_root;
      handles_rise = c.handles_rise;
      whole_spaces = c.whole_spaces;
      siblings_apart = c.siblings_apart;
      one_mapped_on_a_path = c.one_mapped_on_a_path;
      whole_windows = (tt, tt);
      anonymous_alone = c.anonymous_alone;
      unforced_shown = tt;
      unforced_once = tt;
    }

-- a memory stands for it too
forgotten_is : (spaces_of : TablesMeaning) (x : List Sector) (m : Machine) → IsFor spaces_of x m → IsFor root_alone x (forgotten m)
forgotten_is spaces_of x m h = record {
  named = h.named;
  map = h.map;
  by = record {
    machine = forgotten_machine m h.by.machine;
    sectors = h.by.sectors;
    root = h.by.root;
    map_labels = h.by.map_labels;
    labels = h.by.labels;
    bits = h.by.bits;
    triples = h.by.triples;
    cells = h.by.cells;
    tables = record { pages = h.by.tables.pages; revealed = refl; count = h.by.tables.count; each = h.by.tables.each };
  };
}

module _ (ss : List Space) (are : AreSpaces ss) (slots : Slots) (frames : HasFrames slots ss) (gone : AreGone ss slots 0 (0 + root_pages)) where
  -- the frames that are left have pages of the volume's own
  own_left : (id page : ℕ) → IsThere slots id page → (1 ≤ id) × (id ≤ 3)
  own_left id page there = elim (frames.known id page there) [
    | inl own ↦ own
    | inr shown ↦
        let at = shown_somewhere ss are (record { file = id; page = page }) shown in
        absurd (gone at.page (record { file = id; page = page }) (omega arith) (let low = at.below in omega (arith, low)) at.shown (there.slot, (there.frame, there.has, (there.same_id, there.same_page))))
  ]

  pub frames_left : HasFrames slots (root ∷ [])
  frames_left = record { known = λ id page there. inl (own_left id page there) }

  pub dirty_left : DirtyAreLoose slots []
  dirty_left id page dirty =
      let own = own_left id page (record { slot = dirty.slot; frame = dirty.frame; has = dirty.has; same_id = dirty.same_id; same_page = dirty.same_page }) in
      volume_loose [] id page (let most = own.1 in omega (arith, most))

-- with the frames of all shown pages given up, a session stands for that machine
pub alone_left : (v : View) (kept : List Interval) (count : ℕ) (volume : Volume) (m : Machine) → IsRunning v kept count volume m → AreGone m.spaces v.slots 0 (0 + root_pages) → IsAlone root_alone v.disk v.slots v.layout v.runs volume (forgotten m)
alone_left v kept count volume m r gone =
    let s = r.session in
    let are = subst AreSpaces r.tables.spaces r.tables.right.spaces in
    record {
      session = record {
        stands = record {
          memory = s.stands.memory;
          stands = s.stands.stands;
          is = forgotten_is _ s.stands.memory m s.stands.is;
          dirty = dirty_left m.spaces are v.slots s.stands.frames gone;
          frames = frames_left m.spaces are v.slots s.stands.frames gone;
        };
        kept = s.kept;
        same_serial = s.same_serial;
        same_counter = s.same_counter;
        same_used = s.same_used;
      };
      alone = refl;
    }

-- pages of the volume's own
pub own_makes : {run : List DiskWrite} {a b : DiskState} {s t : Slots} → Makes table_pages run a s b t → Makes volume_page run a s b t
own_makes makes = makes_wider volume_page tables_own makes

-- the same of what a core is seen as, once the frames of the whole root were evicted
module _ (laws : RunningLaws) (v w : View) (kept later : List Interval) (count now : ℕ) (volume : Volume) (m : Machine) (whole : IsWhole v) (r : IsRunning v kept count volume m) where
  abbrev pub revealed_there : Revealed v kept count r.session.stands.memory r.session.stands.is.named m.spaces
  revealed_there = laws.known v kept count volume m whole r

  pub evict_alone : Reaches v w → BringsOwn v.slots w.slots → now ≡ count → Revealed w later now r.session.stands.memory r.session.stands.is.named m.spaces → AreGone m.spaces w.slots 0 (0 + root_pages)
      → IsAlone root_alone w.disk w.slots w.layout w.runs volume (forgotten m)
  evict_alone reaches came same revealed gone =
      let known = brings_wider (λ home. IsKnown m.spaces home.id home.page) (λ home own. inl own) came in
      let running = laws.asked v w kept later count volume m whole r reaches known (subst (λ (n : ℕ). Revealed w later n r.session.stands.memory r.session.stands.is.named m.spaces) same revealed) in
      alone_left w later count volume m running gone

-- Where all is forced, more bytes are revealed.

page_any : (test : ℕ → Bool) (n : ℕ) (ps qs : List Page) → AllByRecursion (λ q. length q ≡ 512) qs → AllZip PageAgrees ps (map (λ e. if false then any_page else e.1) (enumerate_from n qs))
    → AllZip PageAgrees ps (map (λ e. if test e.0 then any_page else e.1) (enumerate_from n qs))
page_any test n [] [] whole all = tt
page_any test n [] (q ∷ qs) whole all = absurd all
page_any test n (p ∷ ps) [] whole all = absurd all
page_any test n (p ∷ ps) (q ∷ qs) whole all = (either (test n), page_any test (n + 1) ps qs whole.1 all.1)
  where
    either : (b : Bool) → PageAgrees p (cond b any_page q)
    either true = any_agrees p (zip_long _ p q all.0 ∙ whole.0)
    either false = all.0

file_any : (unforced : List FilePage) (f g : File) → IsFile g → FileAgrees f (settled_file [] g) → FileAgrees f (settled_file unforced g)
file_any unforced f g whole h = record {
  same_id = h.same_id;
  same_kind = h.same_kind;
  same_immutable = h.same_immutable;
  pages_agree = page_any (is_unforced unforced g.id) 0 f.pages g.pages whole.whole_pages h.pages_agree;
}

abbrev left_of : List FilePage → List File → List File
left_of unforced files = map (settled_file unforced) (filter (λ g. g.permanent) files)

files_any : (unforced : List FilePage) (fs gs : List File) → AllByRecursion IsFile gs → Agrees fs (left_of [] gs) → Agrees fs (left_of unforced gs)
files_any unforced fs [] whole all = all
files_any unforced fs (g ∷ gs) whole all = either g.permanent fs (λ fs. files_any unforced fs gs whole.1) all
  where
    one : (fs : List File) → ((fs : List File) → Agrees fs (left_of [] gs) → Agrees fs (left_of unforced gs)) → Agrees fs (settled_file [] g ∷ left_of [] gs) → Agrees fs (settled_file unforced g ∷ left_of unforced gs)
    one [] rest all = absurd all
    one (f ∷ fs) rest all = (file_any unforced f g whole.0 all.0, rest fs all.1)

    either : (b : Bool) (fs : List File) → ((fs : List File) → Agrees fs (left_of [] gs) → Agrees fs (left_of unforced gs)) → Agrees fs (map (settled_file []) (cond b (g ∷ filter (λ g. g.permanent) gs) (filter (λ g. g.permanent) gs)))
        → Agrees fs (map (settled_file unforced) (cond b (g ∷ filter (λ g. g.permanent) gs) (filter (λ g. g.permanent) gs)))
    either true fs rest all = one fs rest all
    either false fs rest all = rest fs all

settled_more : (d : List Sector) (m : Machine) → IsMachine m → RevealsSettled d (forgotten m) → RevealsSettled d m
settled_more d m is revealed = record { agrees = files_any m.unforced (files_on d) m.files is.whole_files revealed.agrees; right = revealed.right }

pub stop_more : (d : List Sector) (m : Machine) → IsMachine m → IsStop (forgotten m) d → IsStop m d
stop_more d m is stop = record { revealed = settled_more d m is stop.revealed; same_serial = stop.same_serial; same_counter = stop.same_counter; honest = stop.honest }

-- and the machine that is closed is the same
pub shut_same : (m : Machine) (disk : DiskState) → HasShut (forgotten m) disk → HasShut m disk
shut_same m disk h =
    let s = h.reveals.shut in
    record {
      reveals = record {
        sectors = h.reveals.sectors;
        revealed = h.reveals.revealed;
        shut = record { sound = s.sound; same_serial = s.same_serial; same_counter = s.same_counter; same_room = s.same_room; revealed = s.revealed };
      };
      synced = h.synced;
    }
