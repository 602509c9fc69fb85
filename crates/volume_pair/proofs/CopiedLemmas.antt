-- Once its file is whole and has both marks, the second volume can be opened, and has the files of before and this one.
use Rattle.std.proofs.Common.{◌≡◌, ◌≢◌, ◌⊎◌, inl, inr, ℕ, zero, suc, ◌+◌, ◌<◌, ◌≤◌, Bool, true, false, cond, ◌&&◌, List, [], ◌∷◌, filter, map, length, Option, Some, None, refl, sym, ◌∙◌, ap, subst, arith, eqb}
use Rattle.std.specs.Prelude.{slice_get, option_map, ◌==◌, if◌then◌else◌}
use Rattle.std.specs.List.{AllByRecursion, AllZip}
use Rattle.std.specs.Option.{option_map_or}
use Rattle.std.proofs.lemmas.Bool.{and_parts, cases_eq, eq-eqb, eqb-false, eqb-true, false≢true, ne_eqb, true≢false}
use Rattle.std.proofs.lemmas.List.{length-map}
use Rattle.std.proofs.lemmas.Option.{none-some, same_Some, slice_get_within}
use Rattle.labelled_disk.specs.declared.layout.Layout.{Layout}
use Rattle.labelled_disk.specs.File.{File, Page, byte, file_at, room_of, size, total_room}
use Rattle.labelled_disk.specs.FilesOn.{disk_file, files_on, page_at, pages_from, put_file}
use Rattle.labelled_disk.specs.Label.{is_file, is_free, is_permanent, leader_page}
use Rattle.labelled_disk.specs.Layout.{capacity, data_sectors, first_data}
use Rattle.labelled_disk.specs.Lowest.{is_needed}
use Rattle.labelled_disk.specs.Root.{counter_of, serial_of}
use Rattle.labelled_disk.specs.Sectors.{Sector}
use Rattle.labelled_disk.proofs.AscendingLemmas.{ascending_put, at_put}
use Rattle.labelled_disk.proofs.LowestLemmas as lowest
use Rattle.labelled_disk.proofs.WriteLemmas as laws
use Rattle.file_map.specs.declared.run.Run.{Run}
use Rattle.flat_machine.specs.IsMachine.{IsMachine}
use Rattle.flat_machine.specs.Machine.{IsFile, IsFileId, Machine}
use Rattle.flat_machine.specs.Settled.{Agrees, PageAgrees, settled}
use Rattle.flat_machine.specs.Start.{start}
use Rattle.flat_machine.proofs.FileLemmas.{each_put, room_put}
use Rattle.flat_machine.proofs.MoreLaws.{forced_is_settled}
use Rattle.flat_machine.proofs.StartLemmas.{each_by_leaders}
use Rattle.flat_machine.proofs.StartMachine.{start_is_machine}
use Rattle.pair_machine.specs.Exact.{HasBytes, IsByte}
use Rattle.pair_machine.proofs.ExactLemmas.{agreeing_are_same}
use Rattle.swapper_kernel.specs.DiffersLaws.{label_here}
use Rattle.swapper_kernel.specs.Kinds.{a_file, files_alone}
use Rattle.swapper_kernel.specs.Stands.{labels_of}
use Rattle.swapper_kernel.proofs.KindLemmas.{kind_is_data}
use Rattle.session_words.specs.OpenLaws.{CanOpen}
use Rattle.session_words.specs.Found.{AreShapes}
use Rattle.session_words.specs.Parts.{HasLabelsUpto, HasRoot, is_owned_upto, shape_of, shapes_of}
use Rattle.session_words.specs.PlaceLaws.{with_shape}
use Rattle.session_words.specs.StandsFor.{IsSettled, RevealsSettled}
use Rattle.session_words.proofs.FoundLemmas.{file_label, file_not_free, from_data, owner_upto}
use Rattle.session_words.proofs.LooseLemmas.{kind_file}
use Rattle.session_words.proofs.SettledLemmas.{settled_is_revealed, shape_at}
use Rattle.file_manager.specs.Book.{IsBookedUpto}
use Rattle.file_manager.proofs.TablesMade.{no_shape, unowned_from}
use Rattle.volume_pair.specs.Copied.{KeepsOthers}
use Rattle.volume_pair.specs.Sides.{HasPageBytes}
use Rattle.volume_pair.proofs.SideLemmas.{cells_on}

-- ---- Files have bytes alone.

bytes_alone : (bs : List ℕ) → AllByRecursion IsByte (map byte bs)
bytes_alone [] = tt
bytes_alone (b ∷ bs) = ((b, refl), bytes_alone bs)

bytes_agree : (bs : List ℕ) → PageAgrees (map byte bs) (map byte bs)
bytes_agree [] = tt
bytes_agree (b ∷ bs) = (refl, bytes_agree bs)

all_from : (page : ℕ → Option Page) → ((k : ℕ) (p : Page) → page k ≡ Some p → AllByRecursion IsByte p) → (k n : ℕ) → AllByRecursion (AllByRecursion IsByte) (pages_from page k n)
unfolding pages_from
all_from page each k zero = tt
all_from page each k (suc n) = either (page k) refl (all_from page each (k + 1) n)
  where
    either : (o : Option Page) → page k ≡ o → AllByRecursion (AllByRecursion IsByte) (pages_from page (k + 1) n) → AllByRecursion (AllByRecursion IsByte) (option_map_or (λ p. p ∷ pages_from page (k + 1) n) o [])
    either None e rest = tt
    either (Some p) e rest = (each k p e, rest)

page_bytes : (o : Option Sector) (p : Page) → option_map (λ (s : Sector). map byte s.1) o ≡ Some p → AllByRecursion IsByte p
page_bytes None p is = absurd (none-some p is)
page_bytes (Some s) p is = subst (AllByRecursion IsByte) (same_Some (map byte s.1) p is) (bytes_alone s.1)

pub files_have_bytes : (d : List Sector) → AllByRecursion HasBytes (files_on d)
files_have_bytes d = each_by_leaders HasBytes false (data_sectors d) (data_sectors d) (λ s leads. all_from (page_at (data_sectors d) s.0.id) (λ k p is. page_bytes _ p is) 0 leader_page)

pub files_permanent : (d : List Sector) → AllByRecursion (λ f. f.permanent ≡ true) (files_on d)
files_permanent d = each_by_leaders (λ f. f.permanent ≡ true) false (data_sectors d) (data_sectors d) (λ s leads. (and_parts (is_file s.0 && eqb s.0.page leader_page) (is_permanent s.0) leads).1)

-- files that are permanent
only_permanent : (fs : List File) → AllByRecursion (λ f. f.permanent ≡ true) fs → filter (λ f. f.permanent) fs ≡ fs
only_permanent [] h = refl
only_permanent (f ∷ fs) h = either f.permanent h.0 (only_permanent fs h.1)
  where
    either : (b : Bool) → b ≡ true → filter (λ f. f.permanent) fs ≡ fs → cond b (f ∷ filter (λ f. f.permanent) fs) (filter (λ f. f.permanent) fs) ≡ f ∷ fs
    either true e rest = ap (λ (l : List File). f ∷ l) rest
    either false e rest = absurd (false≢true e)

both_permanent : (fs gs : List File) → Agrees fs gs → AllByRecursion (λ f. f.permanent ≡ true) fs → AllByRecursion (λ f. f.permanent ≡ true) gs → AllZip (λ f g. f.permanent ≡ g.permanent) fs gs
both_permanent [] [] agrees h k = tt
both_permanent [] (g ∷ gs) agrees h k = absurd agrees
both_permanent (f ∷ fs) [] agrees h k = absurd agrees
both_permanent (f ∷ fs) (g ∷ gs) agrees h k = (h.0 ∙ sym k.0, both_permanent fs gs agrees.1 h.1 k.1)

-- ---- The volume with one file more.

module _ (x : List Sector) (o : CanOpen x) (layout : Layout) (long : length x ≡ layout.sectors) (unset : HasRoot (length x) (slice_get x 0) (serial_of x) (counter_of x) (capacity (length x)))
    (f : File) (lasting : f.permanent ≡ true) (form : IsFile f) (bytes : HasBytes f) (given : IsFileId (serial_of x) (counter_of x) f.id) (none : file_at (files_on x) f.id ≡ None) (room : total_room (files_on x) + room_of f ≤ capacity (length x))
    (w : List Sector) {runs : List Run} (b : IsBookedUpto 0 layout runs (with_shape (shapes_of (files_on x)) f.id (shape_of f)) w) (keeps : KeepsOthers f.id x w)
    (cells : (page : ℕ) (bs : List ℕ) → HasPageBytes w f.id page bs → page < size f → slice_get f.pages page ≡ Some (map byte bs)) where
  abbrev m : Machine
  m = record (start x) { files = put_file f (files_on x) }

  is_machine : IsMachine m
  is_machine =
      let s = start_is_machine x o.sectors o.right in
      let more = room_put f (files_on x) s.ids_rise none in
      record {
        serial_fits = s.serial_fits;
        counter_fits = s.counter_fits;
        ids_rise = ascending_put f (files_on x) s.ids_rise;
        ids_given = each_put (λ g. IsFileId (serial_of x) (counter_of x) g.id) f (files_on x) given s.ids_given;
        whole_files = each_put IsFile f (files_on x) form s.whole_files;
        room = omega (arith, more, room);
        has_root = s.has_root;
        handles_rise = s.handles_rise;
        whole_spaces = s.whole_spaces;
        siblings_apart = s.siblings_apart;
        one_mapped_on_a_path = s.one_mapped_on_a_path;
        whole_windows = (tt, tt);
        anonymous_alone = s.anonymous_alone;
        unforced_shown = s.unforced_shown;
        unforced_once = s.unforced_once;
      }

  shapes_put : shapes_of (put_file f (files_on x)) ≡ with_shape (shapes_of (files_on x)) f.id (shape_of f)
  shapes_put = λ i j. each j (f.id == j) refl i
    where
      each : (j : ℕ) (c : Bool) → (f.id == j) ≡ c → shapes_of (put_file f (files_on x)) j ≡ with_shape (shapes_of (files_on x)) f.id (shape_of f) j
      each j true e =
          ap (λ (q : Option File). option_map shape_of q) (at_put f (files_on x) j ∙ ap (λ (c : Bool). cond c (Some f) (file_at (files_on x) j)) e)
          ∙ sym (ap (λ (c : Bool). if c then Some (shape_of f) else shapes_of (files_on x) j) (eq-eqb j f.id (sym (eqb-true f.id j e))))
      each j false e =
          ap (λ (q : Option File). option_map shape_of q) (at_put f (files_on x) j ∙ ap (λ (c : Bool). cond c (Some f) (file_at (files_on x) j)) e)
          ∙ sym (ap (λ (c : Bool). if c then Some (shape_of f) else shapes_of (files_on x) j) (ne_eqb j f.id (λ q. eqb-false f.id j e (sym q))))

  labels_put : HasLabelsUpto 0 (labels_of w) (shapes_of (put_file f (files_on x)))
  labels_put = subst (HasLabelsUpto 0 (labels_of w)) (sym shapes_put) b.labels

  root_put : HasRoot (length w) (slice_get w 0) (serial_of x) (counter_of x) (capacity (length x))
  root_put = subst (λ (n : ℕ). HasRoot n (slice_get w 0) (serial_of x) (counter_of x) (capacity (length x))) (sym keeps.long) (subst (λ (q : Option Sector). HasRoot (length x) q (serial_of x) (counter_of x) (capacity (length x))) (sym keeps.root) unset)

  -- the page of a file that stands in a sector
  there : (y : List Sector) (k : ℕ) (s : Sector) → slice_get y k ≡ Some s → first_data (length y) ≤ k → is_file s.0 ≡ true → HasPageBytes y s.0.id s.0.page s.1
  there y k s here above file = record {
    sector = k;
    label = s.0;
    here = here;
    triple = record {
      label = s.0;
      there = record { is_data = subst (λ (n : ℕ). first_data n ≤ k) (sym (length-map y (λ s. s.0))) above; here = label_here y k s here };
      taken = file_not_free s.0 file;
      same_id = refl;
      same_page = refl;
    };
  }

  settled_put : IsSettled w m
  settled_put = record {
    table_pages = 0;
    machine = is_machine;
    sectors = b.sectors;
    root = root_put;
    map_labels = b.map_labels;
    labels = labels_put;
    cells = record {
      agrees = λ k s g p has found page firm.
          let file = kind_file (length w) k s.0 has.is in
          let above = kind_is_data (length w) k s.0 a_file (λ e. true≢false (ap files_alone e)) (λ e. true≢false (ap files_alone e)) (λ e. true≢false (ap files_alone e)) has.is in
          let bytes_are : slice_get g.pages s.0.page ≡ Some (map byte s.1) = either k s g p has.here above file page found (cases_eq s.0.id f.id) in
          subst (PageAgrees (map byte s.1)) (same_Some (map byte s.1) p (sym bytes_are ∙ page)) (bytes_agree s.1);
    };
  }
    where
      either : (k : ℕ) (s : Sector) (g : File) (p : Page) → slice_get w k ≡ Some s → first_data (length w) ≤ k → is_file s.0 ≡ true → slice_get g.pages s.0.page ≡ Some p → file_at (put_file f (files_on x)) s.0.id ≡ Some g → (s.0.id ≡ f.id) ⊎ (s.0.id ≢ f.id)
          → slice_get g.pages s.0.page ≡ Some (map byte s.1)
      either k s g p here above file page found (inl own) =
          let same : f ≡ g = same_Some f g (sym (at_put f (files_on x) s.0.id ∙ ap (λ (c : Bool). cond c (Some f) (file_at (files_on x) s.0.id)) (eq-eqb f.id s.0.id (sym own))) ∙ found) in
          let within : s.0.page < size f = subst (λ (h : File). s.0.page < size h) (sym same) (slice_get_within g.pages s.0.page p page) in
          subst (λ (h : File). slice_get h.pages s.0.page ≡ Some (map byte s.1)) same (cells s.0.page s.1 (subst (λ (i : ℕ). HasPageBytes w i s.0.page s.1) own (there w k s here above file)) within)
      either k s g p here above file page found (inr other) =
          let was : slice_get x k ≡ Some s = keeps.others k s here above file other in
          let old : file_at (files_on x) s.0.id ≡ Some g = sym (at_put f (files_on x) s.0.id ∙ ap (λ (c : Bool). cond c (Some f) (file_at (files_on x) s.0.id)) (ne_eqb f.id s.0.id (λ q. other (sym q)))) ∙ found in
          cells_on x o layout s.0.id s.0.page s.1 g long old (slice_get_within g.pages s.0.page p page) (there x k s was (subst (λ (n : ℕ). first_data n ≤ k) keeps.long above) file)

  revealed : RevealsSettled w m
  revealed = settled_is_revealed w m settled_put

  all_permanent : AllByRecursion (λ g. g.permanent ≡ true) (put_file f (files_on x))
  all_permanent = each_put (λ g. g.permanent ≡ true) f (files_on x) lasting (files_permanent x)

  -- the files are those of before and this one
  pub files_put : files_on w ≡ put_file f (files_on x)
  files_put =
      let same : settled m ≡ put_file f (files_on x) = forced_is_settled m refl ∙ only_permanent (put_file f (files_on x)) all_permanent in
      let agrees = subst (Agrees (files_on w)) same revealed.agrees in
      agreeing_are_same (files_on w) (put_file f (files_on x)) agrees (each_put HasBytes f (files_on x) bytes (files_have_bytes x)) (both_permanent (files_on w) (put_file f (files_on x)) agrees (files_permanent w) all_permanent)

  needed : (i : ℕ) (s : Sector) → slice_get (data_sectors w) i ≡ Some s → (is_free s.0 ≡ true) ⊎ (is_needed false (data_sectors w) i ≡ true)
  needed i s here = by (is_free s.0) refl
    where
      by : (c : Bool) → is_free s.0 ≡ c → (is_free s.0 ≡ true) ⊎ (is_needed false (data_sectors w) i ≡ true)
      by true e = inl e
      by false e =
          let label = from_data 0 w (shapes_of (put_file f (files_on x))) labels_put (subst AreShapes (sym shapes_put) b.files) i s here in
          let owns = labels_put.pages.only (first_data (length w) + i) s.0 label e in
          let three : s.0.id ≢ 3 = λ q. true≢false (sym owns.is ∙ ap (λ (n : ℕ). is_owned_upto 0 (shapes_of (put_file f (files_on x))) n s.0.page) q ∙ unowned_from 0 (shapes_of (put_file f (files_on x))) s.0.page (no_shape _ (subst AreShapes (sym shapes_put) b.files)) (omega arith)) in
          let own = owner_upto 0 (shapes_of (put_file f (files_on x))) s.0.id s.0.page three owns.is in
          let file = shape_at (put_file f (files_on x)) s.0.id own.0 own.1 in
          let of_file = (subst AreShapes (sym shapes_put) b.files).given s.0.id own.0 own.1 in
          let on : disk_file false w s.0.id ≡ Some file.0 = sym (laws.look_up false 0 0 w s.0.id) ∙ ap (λ (l : List File). file_at l s.0.id) files_put ∙ file.1 in
          inr (lowest.right_are_needed false (serial_of w) (counter_of w) w i s file.0 revealed.right.files here (file_label s.0 of_file owns.named) on)

  pub opens_put : CanOpen w
  opens_put = record {
    sectors = b.sectors;
    right = revealed.right;
    free_or_needed = needed;
    bits = b.bits;
    named = b.named;
    map = b.map;
    triples = b.triples;
  }
