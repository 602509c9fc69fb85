-- A call that gives a file another size.
use Rattle.std.proofs.Common.{◌≡◌, ◌≢◌, ⊎_elim, ℕ, ◌+◌, ◌-◌, ◌≤◌, List, ◌++◌, length, take, replicate, Option, Some, None, refl, sym, ◌∙◌, ap, subst, arith, take_all, append-nil}
use Rattle.std.specs.Prelude.{option_map, ◌==◌, if◌then◌else◌}
use Rattle.std.proofs.lemmas.Option.{same_Some}
use Rattle.std.proofs.lemmas.Bool.{cases_eq}
use Rattle.labelled_disk.specs.File.{File, Page, file_at, size, zero_page}
use Rattle.labelled_disk.specs.Ascending.{AreAscending}
use Rattle.labelled_disk.specs.Runs.{lengthened}
use Rattle.labelled_disk.proofs.AscendingLemmas.{at_id, same_by_look_up}
use Rattle.flat_machine.specs.declared.call.Call.TheVariants.{SetSize}
use Rattle.flat_machine.specs.Machine.{Machine}
use Rattle.flat_machine.specs.IsMachine.{IsMachine}
use Rattle.flat_machine.specs.Refusal.{refusal}
use Rattle.flat_machine.specs.Next.{next, change_file, resized}
use Rattle.flat_machine.proofs.FileLemmas.{look_up_changed, one_id, changed_here, unchanged}
use Rattle.flat_machine.proofs.Lists.{ascending_map}
use Rattle.flat_machine.proofs.NextLemmas.{next_keeps_machine}
use Rattle.session_words.specs.Volume.{volume_page}
use Rattle.session_words.specs.Parts.{TablesMeaning}
use Rattle.session_words.specs.StandsFor.{StandsFor}
use Rattle.session_words.specs.GrowLaws.{Grows}
use Rattle.session_words.specs.FreeLaws.{Frees, cut_pages, cut}
use Rattle.session_words.specs.SizeLaws.{SizeLaws}
use Rattle.session_words.proofs.KnownLemmas.{frames_brought}
use Rattle.session_words.proofs.CellLemmas.{unrefused}
use Rattle.session_words.proofs.CutLemmas.{all_cut}
use Rattle.session_words.proofs.GrowLemmas.{grow_laws}
use Rattle.session_words.proofs.LooseLemmas.{volume_loose, goes_stands}

-- two changes of one file that are the same there
pub changed_alike : (id : ℕ) (f : File) (c d : File → File) → ((w : File) → (c w).id ≡ w.id) → ((w : File) → (d w).id ≡ w.id) → c f ≡ d f → (fs : List File) → AreAscending fs → file_at fs id ≡ Some f
    → change_file id c fs ≡ change_file id d fs
changed_alike id f c d ids other same fs rise found =
    same_by_look_up (change_file id c fs) (change_file id d fs)
    (ascending_map (λ w. w.id) (λ w. if w.id == id then c w else w) (one_id id c ids) fs rise)
    (ascending_map (λ w. w.id) (λ w. if w.id == id then d w else w) (one_id id d other) fs rise)
    (λ j. look_up_changed (λ w. if w.id == id then c w else w) (one_id id c ids) fs j ∙ either j (file_at fs j) refl
    ∙ sym (look_up_changed (λ w. if w.id == id then d w else w) (one_id id d other) fs j))
  where
    either : (j : ℕ) (o : Option File) → file_at fs j ≡ o → option_map (λ w. if w.id == id then c w else w) o ≡ option_map (λ w. if w.id == id then d w else w) o
    either j None e = refl
    either j (Some w) e = ⊎_elim
        (λ (q : w.id ≡ id).
        let here : w ≡ f = same_Some w f (sym e ∙ ap (file_at fs) (sym (at_id fs j w e) ∙ q) ∙ found) in
        ap (λ (x : File). Some x) (changed_here id c w q ∙ ap c here ∙ same ∙ ap d (sym here) ∙ sym (changed_here id d w q)))
        (λ (q : w.id ≢ id). ap (λ (x : File). Some x) (unchanged id c w q ∙ sym (unchanged id d w q)))
        (cases_eq w.id id)

-- with pages more
longer_is : (f : File) (pages n : ℕ) → size f + n ≡ pages → resized pages f ≡ lengthened n f
longer_is f pages n is =
    let more : pages - size f ≡ n = omega (arith, is) in
    ap (λ (ps : List Page). record f { pages = ps })
    (ap (λ (ps : List Page). ps ++ replicate (pages - size f) zero_page) (take_all pages f.pages (omega (arith, is))) ∙ ap (λ (k : ℕ). f.pages ++ replicate k zero_page) more)

-- with pages fewer
shorter_is : (f : File) (pages : ℕ) → pages ≤ size f → resized pages f ≡ cut pages f
shorter_is f pages few =
    let none : pages - size f ≡ 0 = omega (arith, few) in
    ap (λ (ps : List Page). record f { pages = ps })
    (ap (λ (k : ℕ). take pages f.pages ++ replicate k zero_page) none ∙ append-nil (take pages f.pages))

module _ (spaces_of : TablesMeaning) where
  -- the machine after it, with the change said otherwise
  resized_machine : (id pages : ℕ) (f : File) (c : File → File) (m : Machine) → ((w : File) → (c w).id ≡ w.id) → resized pages f ≡ c f → IsMachine m → refusal m (SetSize id pages) ≡ None → file_at m.files id ≡ Some f
      → next m (SetSize id pages) ≡ record m { files = change_file id c m.files }
  resized_machine id pages f c m ids same is accepted found =
      unrefused m (SetSize id pages) accepted
      ∙ ap (λ (fs : List File). record m { files = fs }) (changed_alike id f (resized pages) c (λ w. refl) ids same m.files is.ids_rise found)

  pub size_laws : SizeLaws spaces_of
  size_laws = record {
    lengthens = λ id pages f is run old new before after m accepted found long goes known h.
        let becomes = resized_machine id pages f (lengthened (length is)) m (λ w. refl) (longer_is f pages (length is) long) h.is.by.machine accepted found in
        let machine : IsMachine (record m { files = change_file id (lengthened (length is)) m.files }) = subst IsMachine becomes (next_keeps_machine m (SetSize id pages) tt h.is.by.machine) in
        subst (λ (n : Machine). StandsFor spaces_of new after n) (sym becomes)
        (goes_stands spaces_of (Grows id f.kind (size f) is) volume_page run old new before after m (record m { files = change_file id (lengthened (length is)) m.files }) (frames_brought before after m.spaces known)
        (λ x y grows k. (grow_laws spaces_of).grown x y m id f is found grows machine k) (λ i page l. l) (λ i page own. volume_loose m.unforced i page own) goes h);
    shortens = λ id pages f run old new before after m accepted found few goes known h.
        let becomes = resized_machine id pages f (cut pages) m (λ w. refl) (shorter_is f pages few) h.is.by.machine accepted found in
        let machine : IsMachine (record m { files = change_file id (cut pages) m.files }) = subst IsMachine becomes (next_keeps_machine m (SetSize id pages) tt h.is.by.machine) in
        subst (λ (n : Machine). StandsFor spaces_of new after n) (sym becomes)
        (goes_stands spaces_of (Frees (cut_pages id pages)) volume_page run old new before after m (record m { files = change_file id (cut pages) m.files }) (frames_brought before after m.spaces known)
        (λ x y frees k. all_cut spaces_of x y m id pages f found few frees machine k) (λ i page l. l) (λ i page own. volume_loose m.unforced i page own) goes h);
  }
