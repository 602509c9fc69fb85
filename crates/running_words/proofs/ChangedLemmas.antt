-- The machine that a core stands for after pages of the space tables changed.
use Rattle.std.proofs.Common.{◌≡◌, inl, inr, ℕ, ◌*◌, ◌<◌, ◌≤◌, Bool, true, false, List, [], length, Some, refl, sym, ◌∙◌, ap, subst}
use Rattle.std.specs.Prelude.{slice_get, ◌==◌, nat_le, if◌then◌else◌}
use Rattle.std.proofs.lemmas.Bool.{and_parts, eq-eqb, eqb-true, leb-true, true≢false}
use Rattle.std.proofs.lemmas.Option.{none-some, same_Some}
use Rattle.labelled_disk.specs.declared.label.Label.{Label}
use Rattle.labelled_disk.specs.declared.layout.Layout.{Layout}
use Rattle.labelled_disk.specs.Label.{is_file}
use Rattle.labelled_disk.specs.Layout.{first_data}
use Rattle.labelled_disk.specs.Sectors.{Sector, AreSectors}
use Rattle.flat_mem.specs.Memory.{part}
use Rattle.labelled_disk.specs.State.{DiskState}
use Rattle.frame_pool.specs.Frames.{ArePages, Slots}
use Rattle.file_map.specs.FileMap.{Triples}
use Rattle.flat_machine.specs.declared.space.FilePage.{FilePage}
use Rattle.flat_machine.specs.declared.space.Space.{Space}
use Rattle.flat_machine.specs.IsMachine.{IsMachine}
use Rattle.flat_machine.specs.Machine.{Machine}
use Rattle.swap_units.specs.declared.interval.Interval.{Interval}
use Rattle.swapper_kernel.specs.Differs.{Differs}
use Rattle.swapper_kernel.specs.DiffersLaws.{other_sector, same_length}
use Rattle.swapper_kernel.specs.FormLaws.{memory_in_form}
use Rattle.swapper_kernel.specs.Homes.{IsLayout}
use Rattle.swapper_kernel.specs.Kinds.{HasKind, SameBut, a_file, kind_of, of_kinds, tables_alone, the_tables, unused}
use Rattle.swapper_kernel.specs.Stands.{labels_of}
use Rattle.swapper_kernel.proofs.KindLemmas.{data_kind, kind_is_data}
use Rattle.filer_kernel.specs.declared.cached.CachedRuns.{CachedRuns}
use Rattle.filer_kernel.specs.Cached.{runs_of}
use Rattle.filer_kernel.specs.NamedLaws.{maps_named_once}
use Rattle.filer_kernel.specs.PlaceLaws.{data_first, map_kept, one_sector}
use Rattle.filer_kernel.specs.Tables.{BesideTables, IsTablePage, TablesReveal, in_tables}
use Rattle.filer_kernel.specs.Triples.{MapIs}
use Rattle.space_tables.specs.Stored.{RevealSpaces}
use Rattle.session_words.specs.FrameLaws.{HasFrames, is_shown}
use Rattle.session_words.specs.Parts.{DirtyAreLoose, HasTables, TablesMeaning}
use Rattle.session_words.proofs.CallLemmas.{call_laws, kind_tables}
use Rattle.session_words.proofs.LooseLemmas.{volume_loose}
use Rattle.file_manager.specs.Book.{AreTrue}
use Rattle.file_manager.specs.declared.volume.Volume.{Volume}
use Rattle.file_manager.proofs.BookLemmas.{known_after, true_by_map}
use Rattle.fault_core.specs.Reach.{BringsOwn}
use Rattle.fault_core.specs.Revealed.{IsTabled, Known}
use Rattle.filer_kernel.specs.View.{View, TablesAre}
use Rattle.running_words.specs.Running.{IsRunning, exactly}
use Rattle.running_words.specs.RunningLaws.{IsWhole}
use Rattle.running_words.specs.Session.{AreInForm, IsKept, IsSession}
use Rattle.running_words.proofs.JoinedLemmas.{cut, cut_at, cut_length, joined_cut, own_pages}
use Rattle.running_words.proofs.KnownLemmas.{known}
use Rattle.running_words.proofs.LaterLemmas.{tables_own}
use Rattle.running_words.proofs.SessionLemmas.{one_memory}

-- a data sector with the identifier of the space tables is of their kind
tables_kind : (layout : Layout) (n k : ℕ) (l : Label) → IsLayout layout → n ≡ layout.sectors → layout.first ≤ k → l.id ≡ 3 → kind_of n k l ≡ the_tables
tables_kind layout n k l is size from three =
    let above : first_data n ≤ k = subst (λ (i : ℕ). i ≤ k) (data_first layout is ∙ ap first_data (sym size)) from in
    data_kind n k l above ∙ ap (λ (b : Bool). if b then the_tables else (if is_file l then a_file else unused)) (eq-eqb l.id 3 three)

-- so the tables alone differ
tables_differ : (layout : Layout) (x y : List Sector) → IsLayout layout → length x ≡ layout.sectors → Differs (in_tables layout) x y → SameBut tables_alone x y
tables_differ layout x y is size differs = record { labels = differs.labels; pages = λ k s here fails. differs.pages k s here (outside k s.0 fails (in_tables layout k s.0) refl) }
  where
    outside : (k : ℕ) (l : Label) → of_kinds (length x) tables_alone k l ≡ false → (b : Bool) → in_tables layout k l ≡ b → in_tables layout k l ≡ false
    outside k l fails false e = e
    outside k l fails true e =
        let both = and_parts (nat_le layout.first k) (l.id == 3) e in
        let kind : kind_of (length x) k l ≡ the_tables = tables_kind layout (length x) k l is size (leb-true layout.first k both.0) (eqb-true l.id 3 both.1) in
        absurd (true≢false (sym (ap tables_alone kind) ∙ fails))

-- the pages of the space tables in a memory are the pieces of their bytes
tables_cut : (spaces : List Space) (layout : Layout) (y : List Sector) (named : Triples) (bytes : List ℕ) → IsLayout layout → length y ≡ layout.sectors → MapIs layout named y → IsTabled layout named y
    → ((k : ℕ) → k < 96 → IsTablePage layout named y k (part bytes (512 * k) 512)) → HasTables (exactly (cut 96 bytes) spaces) y spaces
tables_cut spaces layout y named bytes is size map tabled pages = record {
  pages = cut 96 bytes;
  revealed = own_pages (cut 96 bytes) spaces;
  count = cut_length 96 bytes;
  each = λ k s kind.
      let three : s.0.id ≡ 3 = kind_tables (length y) k s.0 kind.is in
      let from : layout.first ≤ k = data_from k s kind in
      let own = tabled k s from kind.here three in
      let p = pages s.0.page own.0 in
      let place : k ≡ p.sector = one_sector layout named y map 3 s.0.page k p.sector own.1 p.found in
      let same : s ≡ (p.label, part bytes (512 * s.0.page) 512) = same_Some {A = Sector} s (p.label, part bytes (512 * s.0.page) 512) (sym kind.here ∙ ap (slice_get y) place ∙ p.keeps) in
      cut_at 96 bytes s.0.page own.0 ∙ ap (λ (t : Sector). Some t.1) (sym same);
}
  where
    data_from : (k : ℕ) (s : Sector) → HasKind y k s the_tables → layout.first ≤ k
    data_from k s kind =
        let above : first_data (length y) ≤ k = kind_is_data (length y) k s.0 the_tables (λ e. true≢false (ap tables_alone e)) (λ e. true≢false (ap tables_alone e)) (λ e. true≢false (ap tables_alone e)) kind.is in
        subst (λ (i : ℕ). i ≤ k) (sym (data_first layout is ∙ ap first_data (sym size))) above

-- the labels are the same, and what the map names, and so is this
tabled_still : (layout : Layout) (x y : List Sector) (named also : Triples) → labels_of y ≡ labels_of x → ((id page sector : ℕ) → also id page sector ≡ named id page sector) → IsTabled layout named x → IsTabled layout also y
tabled_still layout x y named also labels once tabled k s from here three =
    let was = other_sector x y labels k s here in
    let own = tabled k was.0 from was.1 (ap (λ (l : Label). l.id) was.2 ∙ three) in
    subst (λ (l : Label). (l.page < 96) × (also 3 l.page k ≡ true)) was.2 (own.0, once 3 was.0.0.page k ∙ own.1)

-- the tables' pages, in the one memory that stands
moved_pages : (d : DiskState) (s : Slots) (l : Layout) (k : CachedRuns) (b : List ℕ) (t : TablesReveal d s l k b) (x : Layout) (n : List Sector) → n ≡ t.memory → l ≡ x → (j : ℕ) → j < 96 → IsTablePage x t.triples n j (part b (512 * j) 512)
moved_pages d s l k b t x n same layout =
    subst (λ (y : Layout). (j : ℕ) → j < 96 → IsTablePage y t.triples n j (part b (512 * j) 512)) layout
    (subst (λ (o : List Sector). (j : ℕ) → j < 96 → IsTablePage l t.triples o j (part b (512 * j) 512)) (sym same) t.page)

-- Pages of the space tables changed, whatever they meant before.
module _ (before_of : TablesMeaning) (v w : View) (now : ℕ) (volume : Volume) (m : Machine) (spaces : List Space) (whole : IsWhole v) (form : AreInForm w.disk) (frames : ArePages w.slots)
    (s : IsSession before_of v.disk v.slots v.layout v.runs volume m) (was : List ℕ) (k : Known v s.stands.memory s.stands.is.named was)
    (b : BesideTables v.disk v.slots v.layout v.runs w.disk w.slots w.layout w.runs) (reveals : RevealSpaces (TablesAre w) now spaces) where
  pub session_changed : (unforced : List FilePage) → IsMachine (record m { spaces = spaces; unforced = unforced }) → HasFrames w.slots spaces → DirtyAreLoose w.slots unforced
      → IsRunning w [] now volume (record m { spaces = spaces; unforced = unforced })
  session_changed unforced is has loose =
      let x : List Sector = s.stands.memory in
      let mid = b.goes.memory x s.stands.stands in
      let y : List Sector = mid.0 in
      let t = reveals.hold.revealed in
      let bytes : List ℕ = reveals.hold.bytes in
      let long : length y ≡ v.layout.sectors = same_length x y mid.2.labels ∙ k.long in
      let same : y ≡ t.memory = one_memory w.disk w.slots y t.memory mid.1 t.stands in
      let map : MapIs v.layout t.triples y = subst (λ (z : List Sector). MapIs v.layout t.triples z) (sym same) (subst (λ (l : Layout). MapIs l t.triples t.memory) b.layout t.map) in
      let once = maps_named_once v.layout y y s.stands.is.named t.triples whole.layout (t.size ∙ ap (λ (l : Layout). l.sectors) b.layout) mid.1 mid.1 (map_kept v.layout s.stands.is.named x y whole.layout mid.2 k.map) map in
      let tables = tables_cut spaces v.layout y t.triples bytes whole.layout long map (tabled_still v.layout x y s.stands.is.named t.triples mid.2.labels once k.tabled) (moved_pages w.disk w.slots w.layout w.runs bytes t v.layout y same b.layout) in
      let sectors : AreSectors y = memory_in_form w.disk w.slots y mid.1 (form mid.1.sectors mid.1.revealed) frames in
      record {
        pages = cut 96 bytes;
        tables = record {
          slots = reveals.slots;
          xs = reveals.xs;
          hold = record { bytes = bytes; revealed = sym (joined_cut 96 bytes t.count); are = reveals.hold.are };
          right = reveals.right;
          counted = reveals.counted;
          spaces = reveals.spaces;
        };
        session = record {
          stands = record {
            memory = y;
            stands = mid.1;
            is = (call_laws (exactly (cut 96 bytes) spaces)).tables before_of x y m spaces unforced (tables_differ v.layout x y whole.layout k.long mid.2) sectors is tables s.stands.is;
            dirty = loose;
            frames = has;
          };
          kept = λ z there.
              let of = b.runs_are x s.stands.is.named s.stands.stands k.map k.runs in
              let kept_there : IsKept v.layout w.runs y = record {
                long = long;
                true_runs = subst (λ (ls : List Label). AreTrue ls (runs_of v.layout.sectors w.runs)) (sym mid.2.labels) (true_by_map (labels_of x) s.stands.is.named _ s.stands.is.by.triples of);
              } in
              subst (λ (o : List Sector). IsKept w.layout w.runs o) (one_memory w.disk w.slots y z mid.1 there) (subst (λ (l : Layout). IsKept l w.runs y) (sym b.layout) kept_there);
          same_serial = s.same_serial;
          same_counter = s.same_counter;
          same_used = s.same_used;
        };
        cached = λ i one. absurd (none-some i one.1);
      }

module _ (v w : View) (kept : List Interval) (count now : ℕ) (volume : Volume) (m : Machine) (spaces : List Space) (whole : IsWhole v) (form : AreInForm w.disk) (frames : ArePages w.slots)
    (r : IsRunning v kept count volume m) (b : BesideTables v.disk v.slots v.layout v.runs w.disk w.slots w.layout w.runs) (reveals : RevealSpaces (TablesAre w) now spaces) where
  pub changed_to : (unforced : List FilePage) → IsMachine (record m { spaces = spaces; unforced = unforced }) → HasFrames w.slots spaces → DirtyAreLoose w.slots unforced
      → IsRunning w [] now volume (record m { spaces = spaces; unforced = unforced })
  changed_to = session_changed (exactly r.pages m.spaces) v w now volume m spaces whole form frames r.session _ (known v kept count volume m whole r).known b reveals

  -- where what windows show is still shown, what is unforced stays
  pub reshaped_to : BringsOwn v.slots w.slots → IsMachine (record m { spaces = spaces }) → ((id page : ℕ) → is_shown m.spaces id page ≡ true → is_shown spaces id page ≡ true) → IsRunning w [] now volume (record m { spaces = spaces })
  reshaped_to came is still = changed_to m.unforced is has loose
    where
      has : HasFrames w.slots spaces
      has =
          let frames_then = known_after v.slots w.slots m.spaces came r.session.stands.frames in
          record { known = λ id page there. elim (frames_then.known id page there) [ inl own ↦ inl own | inr shown ↦ inr (still id page shown) ] }

      loose : DirtyAreLoose w.slots m.unforced
      loose id page dirty = elim (b.goes.makes.dirty id page dirty) [ inl was ↦ r.session.stands.dirty id page was | inr own ↦ volume_loose m.unforced id page (tables_own id page own) ]

pub changed : (v w : View) (kept : List Interval) (count now : ℕ) (volume : Volume) (m : Machine) (spaces : List Space) (unforced : List FilePage) → IsWhole v → AreInForm w.disk → ArePages w.slots → IsRunning v kept count volume m
    → BesideTables v.disk v.slots v.layout v.runs w.disk w.slots w.layout w.runs → RevealSpaces (TablesAre w) now spaces
    → IsMachine (record m { spaces = spaces; unforced = unforced }) → HasFrames w.slots spaces → DirtyAreLoose w.slots unforced
    → IsRunning w [] now volume (record m { spaces = spaces; unforced = unforced })
changed v w kept count now volume m spaces unforced whole form frames r b reveals is has loose = changed_to v w kept count now volume m spaces whole form frames r b reveals unforced is has loose

pub reshaped : (v w : View) (kept : List Interval) (count now : ℕ) (volume : Volume) (m : Machine) (spaces : List Space) → IsWhole v → AreInForm w.disk → ArePages w.slots → IsRunning v kept count volume m
    → BesideTables v.disk v.slots v.layout v.runs w.disk w.slots w.layout w.runs → BringsOwn v.slots w.slots → RevealSpaces (TablesAre w) now spaces
    → IsMachine (record m { spaces = spaces }) → ((id page : ℕ) → is_shown m.spaces id page ≡ true → is_shown spaces id page ≡ true)
    → IsRunning w [] now volume (record m { spaces = spaces })
reshaped v w kept count now volume m spaces whole form frames r b came reveals is still = reshaped_to v w kept count now volume m spaces whole form frames r b reveals came is still
