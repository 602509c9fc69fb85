-- How a session keeps to what stood when it began: at its start, where the space tables are begun, and where maps are written.
use Rattle.std.proofs.Common.{◌≡◌, ◌⊎◌, inl, inr, ℕ, ◌*◌, ◌<◌, Bool, true, false, List, [], ◌∷◌, ◌++◌, drop, length, Option, Some, None, refl, suc, sym, zero, ◌∙◌, ap, append-nil, subst, arith, ◌+◌, ◌≤◌}
use Rattle.std.specs.Prelude.{slice_get, ◌&&◌, ◌==◌, filter, not, option_map, IfSome}
use Rattle.std.proofs.lemmas.Bool.{true≢false}
use Rattle.std.proofs.lemmas.Option.{none-some, same_Some}
use Rattle.labelled_disk.specs.declared.disk.DiskWrite.{DiskWrite}
use Rattle.labelled_disk.specs.declared.disk.DiskWrite.TheVariants as write
use Rattle.labelled_disk.specs.declared.evidence.Halt.{Halt}
use Rattle.labelled_disk.specs.declared.layout.Layout.{Layout}
use Rattle.labelled_disk.specs.Calls.{OnlyReads}
use Rattle.labelled_disk.specs.Label.{page_label}
use Rattle.labelled_disk.specs.Layout.{vam}
use Rattle.labelled_disk.specs.Sectors.{Sector, AreSectors, free_label}
use Rattle.labelled_disk.specs.State.{DiskState}
use Rattle.alloc_map.specs.Bits.{is_used}
use Rattle.frame_pool.specs.declared.home.Home.{Home}
use Rattle.frame_pool.specs.Frames.{Frame, Slots, Has}
use Rattle.file_map.specs.declared.run.Run.{Run}
use Rattle.file_map.specs.FileMap.{Triples}
use Rattle.swapper_kernel.specs.declared.manager.Manager.TheVariants.{AllocationMap}
use Rattle.swapper_kernel.specs.Differs.{Differs}
use Rattle.swapper_kernel.specs.DiffersLaws.{differs_wider}
use Rattle.swapper_kernel.specs.Goes.{Makes, Swaps, is_page_write, no_page}
use Rattle.swapper_kernel.specs.GoesLaws.{goes_wider}
use Rattle.swapper_kernel.specs.HaltLaws.{brings_same, brings_wider}
use Rattle.swapper_kernel.specs.Halts.{Halts}
use Rattle.swapper_kernel.specs.Homes.{IsLayout, no_home}
use Rattle.swapper_kernel.specs.Maps.{IsMapHome}
use Rattle.swapper_kernel.specs.Stands.{Stands}
use Rattle.swapper_kernel.specs.ThereLaws.{shows_there}
use Rattle.swapper_kernel.specs.Window.{Beside, Shows, map_bytes}
use Rattle.filer_kernel.specs.declared.cached.CachedRuns.{CachedRuns}
use Rattle.filer_kernel.specs.Cached.{runs_of}
use Rattle.filer_kernel.specs.Marks.{Marks, BitsAre}
use Rattle.filer_kernel.specs.Tables.{in_tables, BesideTables}
use Rattle.filer_kernel.specs.Triples.{AreOf, IsOneOf}
use Rattle.filer_kernel.proofs.LawLemmas.{named_in_sectors}
use Rattle.session_words.proofs.ShownLemmas.{shown_laws}
use Rattle.volume_root.specs.declared.root.Root.{Root}
use Rattle.volume_root.specs.RootPage.{root_write}
use Rattle.file_manager.specs.Grounds.{IsUnframed}
use Rattle.file_manager.specs.KeepLaws.{beside_keeps}
use Rattle.file_manager.specs.ReasonLaws.{label_reasons}
use Rattle.file_manager.specs.Reasons.{AreTabled, giving, HasMade, HasRoot, IsAt, IsReleased, WasGiven, IsOne, KeepsTo, InitialState, initial_state, ShowsReason, Takes, telling}
use Rattle.fault_core.specs.Reach.{IsReached, Reaches}
use Rattle.fault_core.specs.Touch.{on_data}
use Rattle.filer_kernel.specs.View.{View, kept_by}
use Rattle.fault_core.proofs.ReachLemmas.{reaches_itself}
use Rattle.fault_core.proofs.TurnLemmas.{reaches_brought}
use Rattle.running_words.specs.Moving.{Moves, any_page}
use Rattle.running_words.specs.MovingLaws.{keeps_bare, moves_of_reaches}
use Rattle.labelled_disk.specs.Runs.{zero_bytes}
use Rattle.swapper_kernel.proofs.PlacedLemmas.{parts}
use Rattle.labelled_disk.specs.declared.label.Wanted.{Wanted}
use Rattle.pilot_engine.specs.Opening.{IsBare}
use Rattle.pilot_engine.specs.Reasons.{IsBegun}
use Rattle.pilot_engine.proofs.StartStands.{bare_stands}

-- ---- The start.

-- a disk that was read alone reveals the same
pub begun_read : {d : List Sector} {named : Triples} {ws : List DiskWrite} {a b : DiskState} → OnlyReads a b → IsBegun d named ws a → IsBegun d named ws b
begun_read reads b = record { contents = reads.contents ∙ b.contents; writes = reads.writes ∙ b.writes; map = b.map }

-- what is so meanwhile is put beside: from where on no identifier is given out, and what is revealed of the space tables
abbrev meanwhile : InitialState → ℕ → Option (List ℕ) → InitialState
meanwhile o next tables = record o { next = next; tables = tables }

-- what stands after the same writes is the same
one_end : (xs ys zs : List DiskWrite) → xs ++ ys ≡ xs ++ zs → ys ≡ zs
one_end [] ys zs same = same
one_end (x ∷ xs) ys zs same = one_end xs ys zs (ap (λ (l : List DiskWrite). drop 1 l) same)

-- where no write is revealed after these, none of them has a root
no_root : (ws : List DiskWrite) {now : Option (List DiskWrite)} → now ≡ Some ws → (root : Root) → HasMade ws now (HasRoot root) → ⊥
no_root ws revealed root made =
    let none : made.more ≡ [] = one_end ws made.more [] (same_Some (ws ++ made.more) (ws ++ []) (sym made.revealed ∙ revealed ∙ ap (λ (l : List DiskWrite). Some l) (sym (append-nil ws)))) in
    let at = made.evidence_seen.1.1.0 in
    none-some (write.Whole 0 made.evidence_seen.0 made.evidence_seen.1.0) (sym (ap (λ (l : List DiskWrite). slice_get l made.turn) none) ∙ at)

-- and no page was given a sector
none_given : (o : InitialState) (disk : DiskState) → disk.writes ≡ Some o.writes → (home : Home) → WasGiven o disk home → ⊥
none_given o disk revealed home (kind, made) =
    let none : made.more ≡ [] = one_end o.writes made.more [] (same_Some (o.writes ++ made.more) (o.writes ++ []) (sym made.revealed ∙ revealed ∙ ap (λ (l : List DiskWrite). Some l) (sym (append-nil o.writes)))) in
    none-some (write.Whole home.sector (page_label home.id kind home.page) zero_bytes) (sym (ap (λ (l : List DiskWrite). slice_get l made.turn) none) ∙ made.evidence_seen)

-- where no bytes of the space tables are revealed, none of their pages is
no_page_tabled : (layout : Layout) (named : Triples) (d : List Sector) → AreTabled layout named d []
no_page_tabled layout named d = record { count = 0; most = omega arith; long = refl; page = λ k below. absurd (omega (arith, below)) }

begun_with : (next : ℕ) (tables : Option (List ℕ)) (layout : Layout) (d : List Sector) (named : Triples) (ws : List DiskWrite) (disk : DiskState) (slots : Slots) (kept : CachedRuns) → IsLayout layout → disk.sectors ≡ layout.sectors → AreSectors d
    → length d ≡ layout.sectors → IsBare slots → runs_of layout.sectors kept ≡ [] → IsBegun d named ws disk → IfSome tables (AreTabled layout named d) → KeepsTo (meanwhile (initial_state d named ws) next tables) layout (runs_of layout.sectors kept) disk slots named
begun_with next tables layout d named ws disk slots kept is size sectors long bare none begun tabled = record {
  since = ([], begun.writes ∙ ap (λ (l : List DiskWrite). Some l) (sym (append-nil ws)));
  memory = d;
  stands = bare_stands disk slots d bare begun.contents;
  size = size;
  map = (named_in_sectors layout named d is long sectors).1 begun.map;
  homes = λ home at. inl at;
  kept = λ k r at. absurd (none-some r (sym (ap (λ (l : List Run). slice_get l k) none) ∙ at));
  frames = λ home held. absurd (bare held.slot held.frame held.has);
  unframed = λ page there. absurd (bare there.slot there.frame there.has);
  over = λ home held three below. absurd (bare held.slot held.frame held.has);
  marks = is_used (map_bytes AllocationMap layout d);
  bits = record { bytes = map_bytes AllocationMap layout d; shows = shown; are = λ sector. refl };
  free = λ sector from below clear. record { initial_state = inl (sym (shown_laws.bits layout d (map_bytes AllocationMap layout d) sector shown (in_bits sector below)) ∙ clear); since = ([], begun.writes ∙ ap (λ (l : List DiskWrite). Some l) (sym (append-nil ws)), λ turn w at takes. absurd (none-some w at)) };
  rest = λ home from may. released_or_named (named home.id home.page home.sector) home refl;
  used = λ sector from below is_used. record { initial_state = inl (sym (shown_laws.bits layout d (map_bytes AllocationMap layout d) sector shown (in_bits sector below)) ∙ is_used); since = ([], begun.writes ∙ ap (λ (l : List DiskWrite). Some l) (sym (append-nil ws)), λ turn w at up. absurd (none-some w at)) };
  roots = λ root made. absurd (no_root ws begun.writes root made);
  taken = λ home given. absurd (none_given (meanwhile (initial_state d named ws) next tables) disk begun.writes home given);
  tabled = tabled;
}
  where
    released_or_named : (is_named : Bool) (home : Home) → named home.id home.page home.sector ≡ is_named → (named home.id home.page home.sector ≡ true) ⊎ IsReleased (meanwhile (initial_state d named ws) next tables) disk home
    released_or_named true home is_so = inl is_so
    released_or_named false home is_so = inr (record {
      initial_state = λ was. absurd (true≢false (sym was ∙ is_so));
      since = ([], begun.writes ∙ ap (λ (l : List DiskWrite). Some l) (sym (append-nil ws)), λ turn w at gives. absurd (none-some w at));
    })

    shown : Shows AllocationMap d layout (map_bytes AllocationMap layout d)
    shown = shows_there AllocationMap layout d is long sectors

    in_bits : (k : ℕ) → k < layout.sectors → k < 4096 * layout.vam
    in_bits k below = let v : layout.vam ≡ vam layout.sectors = ap (λ (l : Layout). l.vam) is.1 in omega (arith, below, v)

-- without frames and runs, a disk keeps to what it reveals, whatever identifiers are given out
pub begun_keeps : (next : ℕ) (layout : Layout) (d : List Sector) (named : Triples) (ws : List DiskWrite) (disk : DiskState) (slots : Slots) (kept : CachedRuns) → IsLayout layout → disk.sectors ≡ layout.sectors → AreSectors d
    → length d ≡ layout.sectors → IsBare slots → runs_of layout.sectors kept ≡ [] → IsBegun d named ws disk → KeepsTo (giving (initial_state d named ws) next) layout (runs_of layout.sectors kept) disk slots named
begun_keeps next layout d named ws disk slots kept is size sectors long bare none begun = begun_with next None layout d named ws disk slots kept is size sectors long bare none begun tt

-- and no page of the space tables is revealed
pub begun_untabled : (next : ℕ) (layout : Layout) (d : List Sector) (named : Triples) (ws : List DiskWrite) (disk : DiskState) (slots : Slots) (kept : CachedRuns) → IsLayout layout → disk.sectors ≡ layout.sectors → AreSectors d
    → length d ≡ layout.sectors → IsBare slots → runs_of layout.sectors kept ≡ [] → IsBegun d named ws disk → KeepsTo (telling (giving (initial_state d named ws) next) []) layout (runs_of layout.sectors kept) disk slots named
begun_untabled next layout d named ws disk slots kept is size sectors long bare none begun = begun_with next (Some []) layout d named ws disk slots kept is size sectors long bare none begun (no_page_tabled layout named d)

-- ---- The root is written, and the allocation map is looked at.

-- What was written since is the root alone.
only_root : (ws : List DiskWrite) (w : DiskWrite) {now : Option (List DiskWrite)} → now ≡ Some (ws ++ (w ∷ [])) → (v : DiskWrite) → HasMade ws now (IsAt v) → v ≡ w
only_root ws w revealed v made = first made.turn (one_end ws made.more (w ∷ []) (same_Some (ws ++ made.more) (ws ++ (w ∷ [])) (sym made.revealed ∙ revealed))) made.evidence_seen
  where
    first : (turn : ℕ) {more : List DiskWrite} → more ≡ w ∷ [] → slice_get more turn ≡ Some v → v ≡ w
    first zero same is = sym (same_Some w v (sym (ap (λ (l : List DiskWrite). slice_get l 0) same) ∙ is))
    first (suc turn) same is = absurd (none-some v (sym (ap (λ (l : List DiskWrite). slice_get l (suc turn)) same) ∙ is))

-- where no page was written, each write is of a label
all_labels : (ws : List DiskWrite) → ((k sector : ℕ) (wanted : Wanted) (bytes : List ℕ) → slice_get ws k ≡ Some (write.Page sector wanted bytes) → ⊥) → filter (λ w. not (is_page_write w)) ws ≡ ws
all_labels [] none = refl
all_labels (write.Page sector wanted bytes ∷ ws) none = absurd (none 0 sector wanted bytes refl)
all_labels (write.Whole sector label bytes ∷ ws) none = ap (λ (l : List DiskWrite). write.Whole sector label bytes ∷ l) (all_labels ws (λ k sector wanted bytes at. none (suc k) sector wanted bytes at))
all_labels (write.LabelOnly sector label ∷ ws) none = ap (λ (l : List DiskWrite). write.LabelOnly sector label ∷ l) (all_labels ws (λ k sector wanted bytes at. none (suc k) sector wanted bytes at))

-- without frames one write of a label is all that was written
pub rooted_writes : (ws : List DiskWrite) (w : DiskWrite) {a b : DiskState} {s t : Slots} → Makes no_page (w ∷ []) a s b t → IsBare s → a.writes ≡ Some ws → b.writes ≡ Some (ws ++ (w ∷ []))
rooted_writes ws w makes bare revealed =
    makes.wrote.appended.revealed ∙ ap (option_map (λ (earlier : List DiskWrite). earlier ++ makes.wrote.writes)) revealed ∙ ap (λ (l : List DiskWrite). Some (ws ++ l))
    (sym (all_labels makes.wrote.writes (λ k sector wanted bytes at. elim (makes.wrote.of_dirty k sector wanted bytes at) [ inl dirty ↦ bare dirty.slot dirty.frame dirty.has | inr none ↦ none ])) ∙ makes.wrote.labels)

-- a sector is in it
sector_written : DiskWrite → ℕ
sector_written (write.Whole sector label bytes) = sector
sector_written (write.LabelOnly sector label) = sector
sector_written (write.Page sector wanted bytes) = sector

-- where what is revealed of the space tables alone is put beside
abbrev with_tables : InitialState → Option (List ℕ) → InitialState
with_tables o tables = record o { tables = tables }

-- A session begins with the root's write: what keeps to what stood before it keeps to what stood after it.
rooted : (next : ℕ) (tables : Option (List ℕ)) (layout : Layout) (d : List Sector) (named : Triples) (ws : List DiskWrite) (root : Root) (disk : DiskState) (slots : Slots) (kept : List Run) → IsLayout layout → IsBare slots → disk.writes ≡ Some (ws ++ (root_write root ∷ []))
    → KeepsTo (meanwhile (initial_state d named ws) next tables) layout kept disk slots named → KeepsTo (with_tables (initial_state d named (ws ++ (root_write root ∷ []))) tables) layout kept disk slots named
unfolding sector_written zero_bytes
rooted next tables layout d named ws root disk slots kept is bare revealed k = record {
  since = ([], revealed ∙ ap (λ (l : List DiskWrite). Some l) (sym (append-nil (ws ++ (root_write root ∷ [])))));
  memory = k.memory;
  stands = k.stands;
  size = k.size;
  map = k.map;
  homes = λ home at. inl at;
  kept = k.kept;
  frames = λ home held. absurd (bare held.slot held.frame held.has);
  unframed = k.unframed;
  over = k.over;
  marks = k.marks;
  bits = k.bits;
  free = λ sector from below clear. record {
    initial_state = elim (k.free sector from below clear).initial_state [
      | inl was ↦ inl was
      | inr up ↦ absurd (no_data sector from (ap sector_written (only_root ws (root_write root) revealed (write.LabelOnly sector free_label) up)))
    ];
    since = ([], revealed ∙ ap (λ (l : List DiskWrite). Some l) (sym (append-nil (ws ++ (root_write root ∷ [])))), λ turn w at takes. absurd (none-some w at));
  };
  rest = λ home from client. rest home (decided (named home.id home.page home.sector));
  used = λ sector from below is_used. record {
    initial_state = elim (k.used sector from below is_used).initial_state [
      | inl was ↦ inl was
      | inr taken ↦ absurd (no_data sector from (taken_root sector taken))
    ];
    since = ([], revealed ∙ ap (λ (l : List DiskWrite). Some l) (sym (append-nil (ws ++ (root_write root ∷ [])))), λ turn w at up. absurd (none-some w at));
  };
  roots = λ later made. absurd (no_root (ws ++ (root_write root ∷ [])) revealed later made);
  taken = λ home given. absurd (none_given (with_tables (initial_state d named (ws ++ (root_write root ∷ []))) tables) disk revealed home given);
  tabled = k.tabled;
}
  where
    -- a write that gives the sector to a page is in it
    taken_root : (sector : ℕ) → HasMade ws disk.writes (IsOne (Takes sector)) → sector ≡ 0
    taken_root sector made =
        let w : DiskWrite = made.evidence_seen.0 in
        let is : w ≡ root_write root = only_root ws (root_write root) revealed w (record { more = made.more; revealed = made.revealed; turn = made.turn; evidence_seen = made.evidence_seen.2 }) in
        ap sector_written (sym made.evidence_seen.1.2.1 ∙ is)

    no_data : (sector : ℕ) → layout.first ≤ sector → sector ≡ 0 → ⊥
    no_data sector from same = let first : layout.first ≡ 1 + layout.vam + layout.vfm = (parts layout is).0 in omega (arith, from, same, first)

    decided : (b : Bool) → (b ≡ true) ⊎ (b ≡ false)
    decided true = inl refl
    decided false = inr refl

    rest : (home : Home) → (named home.id home.page home.sector ≡ true) ⊎ (named home.id home.page home.sector ≡ false) → (named home.id home.page home.sector ≡ true) ⊎ IsReleased (with_tables (initial_state d named (ws ++ (root_write root ∷ []))) tables) disk home
    rest home (inl is_named) = inl is_named
    rest home (inr none) = inr (record {
      initial_state = λ was. absurd (true≢false (sym was ∙ none));
      since = ([], revealed ∙ ap (λ (l : List DiskWrite). Some l) (sym (append-nil (ws ++ (root_write root ∷ [])))), λ turn w at gives. absurd (none-some w at));
    })

-- ---- The space tables are begun.

-- a change of the space tables is one of data sectors
tables_on_data : (layout : Layout) (m n : List Sector) → Differs (in_tables layout) m n → Differs (on_data layout) m n
tables_on_data layout m n h = differs_wider (in_tables layout) (on_data layout) m n (λ k s here fails. ap (λ (b : Bool). b && (s.0.id == 3)) fails) h

-- pages of the tables are brought in and changed
pub moves_of_tables : (v w : View) → BesideTables v.disk v.slots v.layout v.runs w.disk w.slots w.layout w.runs → Moves v w
moves_of_tables v w h = record {
  goes = goes_wider (Differs (in_tables v.layout)) (Differs (on_data v.layout)) any_page (tables_on_data v.layout) (λ id page own. tt) h.goes;
  brings = brings_wider (IsReached v) (λ home coming. elim coming [ inl map ↦ inl map | inr found ↦ inr (record { on_data = found.table.on_data; by_run = found.by_run }) ]) h.brings;
  layout = h.layout;
  given = λ r one. h.given r (subst (λ (l : Layout). IsOneOf r (runs_of l.sectors w.runs)) h.layout one);
  runs_are = λ m named stands map are. subst (λ (l : Layout). AreOf named (runs_of l.sectors w.runs)) (sym h.layout) (h.runs_are m named stands map are);
}

-- ---- Frames are written out.

module _ (v w : View) where
  -- no page comes
  pub written_reaches : IsLayout v.layout → Swaps v.disk v.slots w.disk w.slots → ((i : ℕ) (f : Frame) → Has w.slots i f → (g : Frame) × Has v.slots i g × (g.home ≡ f.home) × (g.bytes ≡ f.bytes)) → w.layout ≡ v.layout → w.runs ≡ v.runs → Reaches v w
  written_reaches is swaps frames layout runs = reaches_brought v v w is (reaches_itself v) no_home (λ home none. absurd none) swaps (brings_same no_home frames) layout runs

-- ---- What is kept without the space tables.

-- what is seen keeps to the initial state, whether or not the space tables are named
abbrev pub ViewKeepsBare : InitialState → View → Triples → Type 0
ViewKeepsBare o v named = KeepsTo o v.layout (kept_by v) v.disk v.slots named

-- at a start, of the initial state after the root's write
pub rooted_at : (d : List Sector) (named : Triples) (ws : List DiskWrite) (root : Root) (next : ℕ) (v : View) → IsLayout v.layout → IsBare v.slots → v.disk.writes ≡ Some (ws ++ (root_write root ∷ []))
    → ViewKeepsBare (giving (initial_state d named ws) next) v named → ViewKeepsBare (initial_state d named (ws ++ (root_write root ∷ []))) v named
rooted_at d named ws root next v is bare revealed k = rooted next None v.layout d named ws root v.disk v.slots (kept_by v) is bare revealed k

-- so it is where no page of the space tables is revealed
pub rooted_untabled : (d : List Sector) (named : Triples) (ws : List DiskWrite) (root : Root) (next : ℕ) (v : View) → IsLayout v.layout → IsBare v.slots → v.disk.writes ≡ Some (ws ++ (root_write root ∷ []))
    → ViewKeepsBare (telling (giving (initial_state d named ws) next) []) v named → ViewKeepsBare (telling (initial_state d named (ws ++ (root_write root ∷ []))) []) v named
rooted_untabled d named ws root next v is bare revealed k = rooted next (Some []) v.layout d named ws root v.disk v.slots (kept_by v) is bare revealed k

-- it does so where frames were written out
pub keeps_written : (o : InitialState) (v w : View) (named : Triples) → IsLayout v.layout → o.tables ≡ None → ViewKeepsBare o v named → Reaches v w → ViewKeepsBare o w named
keeps_written o v w named is untold keeps reaches = keeps_bare o v w named is untold keeps (moves_of_reaches v w reaches)

-- ---- The allocation map is looked at.

-- its bits are reported as they were, so the memory stands still
pub keeps_counted : (o : InitialState) (v w : View) (named : Triples) → ViewKeepsBare o v named → Beside AllocationMap v.disk v.slots v.layout w.disk w.slots w.layout
    → ((m : List Sector) (marks : Marks) → Stands v.disk v.slots m → BitsAre v.layout marks m → Stands w.disk w.slots m) → w.runs ≡ v.runs → ViewKeepsBare o w named
keeps_counted o v w named keeps beside still runs =
    let now = beside_keeps keeps AllocationMap beside (still keeps.memory keeps.marks keeps.stands keeps.bits) (kept_by v) keeps.kept in
    subst (λ (r : CachedRuns). KeepsTo o w.layout (runs_of w.layout.sectors r) w.disk w.slots named) (sym runs)
    (subst (λ (l : Layout). KeepsTo o l (runs_of l.sectors v.runs) w.disk w.slots named) (sym beside.layout) now)

-- a label is another than that of a page of the map, or of a frame
pub counted_reasons : (o : InitialState) (v w : View) (named : Triples) → ViewKeepsBare o v named → Beside AllocationMap v.disk v.slots v.layout w.disk w.slots w.layout
    → (halt : Halt) → Halts (IsMapHome AllocationMap v.layout) v.disk v.slots w.disk halt → ShowsReason o v.layout w.disk halt
counted_reasons o v w named keeps beside halt is = label_reasons keeps beside.goes.makes (IsMapHome AllocationMap v.layout) (λ home own. inl (AllocationMap, own)) halt is

-- no frame has a page of the space tables then
pub counted_unframed : {layout later : Layout} {a b : DiskState} {s t : Slots} → IsBare s → Beside AllocationMap a s layout b t later → IsUnframed t 3
counted_unframed bare beside page there = elim (beside.brings.homes there.frame.home (record { slot = there.slot; frame = there.frame; has = there.has; at = refl })) [
  | inl was ↦ bare was.slot was.frame was.has
  | inr (other, below, at) ↦
      let map : there.frame.home.id ≡ 1 = ap (λ (h : Home). h.id) at in
      let own = there.same_id in
      absurd (omega (arith, map, own))
]
