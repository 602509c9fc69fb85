-- Calls that change cells alone.
use Rattle.std.proofs.Common.{inl, inr, ◌≡◌, ℕ, zero, suc, ◌+◌, Bool, true, false, ◌&&◌, List, [], ◌∷◌, map, length, Option, Some, None, refl, sym, ◌∙◌, ap, subst, arith}
use Rattle.std.specs.Prelude.{slice_get, if◌then◌else◌, is_none, fold, replicate}
use Rattle.std.specs.Option.{option_map_or}
use Rattle.std.specs.List.{AllZip, enumerate_from}
use Rattle.std.proofs.lemmas.Option.{same_Some, none-some}
use Rattle.std.proofs.lemmas.Bool.{true≢false}
use Rattle.std.proofs.lemmas.List.{length-map}
use Rattle.labelled_disk.specs.Sectors.{Sector}
use Rattle.labelled_disk.specs.File.{File, Page, Cell, byte, any_page, file_at}
use Rattle.labelled_disk.proofs.AscendingLemmas.{at_id}
use Rattle.flat_machine.specs.declared.space.Space.{Space}
use Rattle.flat_machine.specs.declared.call.Call.{Call}
use Rattle.flat_machine.specs.declared.call.Refusal.{Refusal}
use Rattle.flat_machine.specs.declared.call.Call.TheVariants.{Store, Kill}
use Rattle.flat_machine.specs.Machine.{Machine}
use Rattle.flat_machine.specs.IsMachine.{IsMachine}
use Rattle.flat_machine.specs.At.{pages_of}
use Rattle.flat_machine.specs.Refusal.{refusal}
use Rattle.flat_machine.specs.Next.{next, change, store_bytes, killed_file, with_any, is_writable_within, mark_page}
use Rattle.flat_machine.specs.Settled.{PageAgrees, CellAgrees}
use Rattle.flat_machine.proofs.Cells.{killed_size}
use Rattle.flat_machine.proofs.NextLemmas.{next_keeps_machine}
use Rattle.swapper_kernel.specs.Stands.{labels_of}
use Rattle.session_words.specs.Volume.{volume_page}
use Rattle.swapper_kernel.specs.Kinds.{kind_of, HasKind, of_kinds, a_file, files_alone}
use Rattle.session_words.specs.Parts.{Shapes, shape_of, shapes_of, HasLabels, HasCells, but_none, TablesMeaning}
use Rattle.session_words.specs.StandsFor.{StandsFor}
use Rattle.session_words.specs.CellLaws.{pieces, Stores, IsTouchedOrOwn, is_killed, Kills, OnlyCells, StoreStands, KillStands, CellLaws}
use Rattle.swapper_kernel.specs.DiffersLaws.{same_length, same_back, differs_wider}
use Rattle.session_words.proofs.KnownLemmas.{frames_brought}
use Rattle.session_words.proofs.StayLemmas.{stays}
use Rattle.session_words.proofs.LooseLemmas.{volume_loose, goes_stands}
use Rattle.session_words.proofs.ShapeLemmas.{changed_from, shapes_map, stored_shapes}
use Rattle.session_words.proofs.UnforcedLemmas.{loose_more, loose_unforced, pages_stay, pages_there, shown_high}
use Rattle.session_words.proofs.StoreLemmas.{all_pieces, pieces_stored}

-- an unrefused call changes the machine
pub unrefused : (m : Machine) (call : Call) → refusal m call ≡ None → next m call ≡ change m call
unrefused m call e = ap (λ (o : Option Refusal). if is_none o then change m call else m) e

module _ (spaces_of : TablesMeaning) where
  pub only_cells : OnlyCells spaces_of
  only_cells x y m files unforced same are is shapes cells h =
      let kept = stays spaces_of x y files_alone same in
      record {
        named = h.named;
        map = kept.map h.named refl h.map;
        by = record {
          machine = is;
          sectors = are;
          root = kept.root m.serial m.counter m.capacity refl h.by.root;
          map_labels = kept.map_labels h.by.map_labels;
          labels = subst (λ (s : Shapes). HasLabels (labels_of y) s) (sym shapes) (kept.labels (shapes_of m.files) h.by.labels);
          bits = kept.bits refl h.by.bits;
          triples = kept.triples h.named h.by.triples;
          cells = cells;
          tables = kept.tables m.spaces refl h.by.tables;
        };
      }

  pub store_stands : StoreStands spaces_of
  store_stands address bytes old new before after m typed accepted goes known h =
      let after_machine : Machine = record m { files = store_bytes m.spaces address bytes m.files; unforced = fold (mark_page m.spaces) m.unforced (pages_of address (length bytes)) } in
      let is : IsMachine after_machine = subst IsMachine (unrefused m (Store address bytes) accepted) (next_keeps_machine m (Store address bytes) typed h.is.by.machine) in
      subst (λ (n : Machine). StandsFor spaces_of new after n) (sym (unrefused m (Store address bytes) accepted))
      (goes_stands spaces_of (Stores m.spaces address bytes) (IsTouchedOrOwn m.spaces address (length bytes)) [] old new before after m after_machine (frames_brought before after m.spaces known)
      (λ x y stores f.
      let stored_all = pieces_stored (shapes_of m.files) m.spaces (pieces address bytes) x y m.files f.by.sectors f.by.labels f.by.cells stores in
      only_cells x y m (store_bytes m.spaces address bytes m.files) (fold (mark_page m.spaces) m.unforced (pages_of address (length bytes))) stored_all.same stored_all.sectors is
      (stored_shapes m.spaces bytes address m.files) (subst (λ (fs : List File). HasCells but_none y fs) (all_pieces m.spaces address bytes m.files) stored_all.cells) f)
      (loose_more m.unforced (fold (mark_page m.spaces) m.unforced (pages_of address (length bytes))) (pages_stay m.spaces (pages_of address (length bytes)) m.unforced))
      (λ id page touched. elim touched [
        | inl t ↦ loose_unforced (fold (mark_page m.spaces) m.unforced (pages_of address (length bytes))) id page (shown_high m h.is.by.machine t.virtual (record { file = id; page = page }) t.shown)
            (pages_there m.spaces (pages_of address (length bytes)) m.unforced t.k t.virtual (record { file = id; page = page }) t.touched t.shown)
        | inr own ↦ volume_loose (fold (mark_page m.spaces) m.unforced (pages_of address (length bytes))) id page own
      ])
      goes h)

-- A kill.

pub any_agrees : (p : Page) → length p ≡ 512 → PageAgrees p any_page
unfolding any_page
any_agrees p long = with_none p 512 long
  where
    with_none : (cs : List Cell) (n : ℕ) → length cs ≡ n → AllZip CellAgrees cs (replicate n None)
    with_none [] zero e = tt
    with_none [] (suc n) e = absurd (omega arith)
    with_none (c ∷ cs) zero e = absurd (omega arith)
    with_none (c ∷ cs) (suc n) e = (tt, with_none cs n (omega arith))

-- a page of pages of which some are any
pub page_with_any : (test : ℕ → Bool) (ps : List Page) (k : ℕ) (p : Page) → slice_get (with_any test ps) k ≡ Some p
    → (was : Page) × (slice_get ps k ≡ Some was) × (p ≡ (if test k then any_page else was))
page_with_any test ps k p at = let r = from 0 ps k at in let z : 0 + k ≡ k = omega arith in (r.0, r.1, r.2 ∙ ap (λ (i : ℕ). if test i then any_page else r.0) z)
  where
    from : (n : ℕ) (ps : List Page) (k : ℕ) → slice_get (map (λ e. if test e.0 then any_page else e.1) (enumerate_from n ps)) k ≡ Some p
        → (was : Page) × (slice_get ps k ≡ Some was) × (p ≡ (if test (n + k) then any_page else was))
    from n [] k at = absurd (none-some p at)
    from n (q ∷ ps) zero at = let z : n ≡ n + 0 = omega arith in (q, refl, sym (same_Some (if test n then any_page else q) p at) ∙ ap (λ (i : ℕ). if test i then any_page else q) z)
    from n (q ∷ ps) (suc k) at = let r = from (n + 1) ps k at in let z : n + 1 + k ≡ n + suc k = omega arith in (r.0, r.1, r.2 ∙ ap (λ (i : ℕ). if test i then any_page else r.0) z)

killed_shape : (spaces : List Space) (range : Space) (f : File) → shape_of (killed_file spaces range f) ≡ shape_of f
killed_shape spaces range f = λ i. record { kind = f.kind; permanent = f.permanent; immutable = f.immutable; size = killed_size spaces range f i }

killed_cells : (spaces : List Space) (range : Space) (x y : List Sector) (files : List File) → Kills spaces range x y → HasCells but_none x files → HasCells but_none y (map (killed_file spaces range) files)
killed_cells spaces range x y files kills cells = record {
  agrees = λ k t f p has found page none.
      let was = changed_from (killed_file spaces range) (λ g. refl) files t.0.id f found in
      let old = page_with_any (λ j. is_writable_within spaces range (record { file = was.0.id; page = j })) was.0.pages t.0.page p (ap (λ (g : File). slice_get g.pages t.0.page) (sym was.2) ∙ page) in
      let own : was.0.id ≡ t.0.id = at_id files t.0.id was.0 was.1 in
      either k t was.0 p has was.1 old.0 old.1 (is_writable_within spaces range (record { file = t.0.id; page = t.0.page })) refl
      (old.2 ∙ ap (λ (n : ℕ). if is_writable_within spaces range (record { file = n; page = t.0.page }) then any_page else old.0) own);
}
  where
    either : (k : ℕ) (t : Sector) (f : File) (p : Page) → HasKind y k t a_file → file_at files t.0.id ≡ Some f → (old : Page) → slice_get f.pages t.0.page ≡ Some old
        → (b : Bool) → is_writable_within spaces range (record { file = t.0.id; page = t.0.page }) ≡ b
        → p ≡ (if is_writable_within spaces range (record { file = t.0.id; page = t.0.page }) then any_page else old) → PageAgrees (map byte t.1) p
    either k t f p has found old at true e is =
        subst (λ (q : Page). PageAgrees (map byte t.1) q) (sym (is ∙ ap (λ (b : Bool). if b then any_page else old) e))
        (any_agrees (map byte t.1) (length-map t.1 byte ∙ (kills.sectors k t has.here).whole_page))
    either k t f p has found old at false e is =
        let was_kind : kind_of (length x) k t.0 ≡ a_file = ap (λ (n : ℕ). kind_of n k t.0) (sym (same_length x y kills.differs.labels)) ∙ has.is in
        let stays_there = same_back (is_killed (length x) spaces range) x y kills.differs k t has.here (rw (was_kind, e) refl) in
        subst (λ (q : Page). PageAgrees (map byte t.1) q) (sym (is ∙ ap (λ (b : Bool). if b then any_page else old) e))
        (cells.agrees k t f old (record { here = stays_there; is = was_kind }) found at refl)

left_false : (a b : Bool) → a ≡ false → (a && b) ≡ false
left_false true b e = absurd (true≢false e)
left_false false b e = refl

module _ (spaces_of : TablesMeaning) where
  pub kill_stands : KillStands spaces_of
  kill_stands space s old new before after m accepted there goes known h =
      let killed : Machine = record m { files = map (killed_file m.spaces s) m.files } in
      let becomes : next m (Kill space) ≡ killed =
      unrefused m (Kill space) accepted ∙ ap (λ (o : Option Space). option_map_or (λ (r : Space). record m { files = map (killed_file m.spaces r) m.files }) o m) there in
      let is : IsMachine killed = subst IsMachine becomes (next_keeps_machine m (Kill space) tt h.is.by.machine) in
      subst (λ (n : Machine). StandsFor spaces_of new after n) (sym becomes)
      (goes_stands spaces_of (Kills m.spaces s) volume_page [] old new before after m killed (frames_brought before after m.spaces known)
      (λ x y kills f. only_cells spaces_of x y m (map (killed_file m.spaces s) m.files) m.unforced
      (differs_wider (is_killed (length x) m.spaces s) (of_kinds (length x) files_alone) x y
      (λ k t here fails. left_false (of_kinds (length x) files_alone k t.0) (is_writable_within m.spaces s (record { file = t.0.id; page = t.0.page })) fails) kills.differs)
      kills.sectors is (shapes_map (killed_file m.spaces s) (λ f. refl) (killed_shape m.spaces s) m.files) (killed_cells m.spaces s x y m.files kills f.by.cells) f)
      (λ id page l. l) (λ id page own. volume_loose m.unforced id page own) goes h)

  pub cell_laws : CellLaws spaces_of
  cell_laws = record { cells = only_cells spaces_of; store = store_stands spaces_of; kill = kill_stands }
