-- The settled files say less where more pages are unforced.
use Rattle.std.proofs.Common.{◌≡◌, ℕ, zero, suc, ◌+◌, Bool, true, false, cond, List, [], ◌∷◌, map, filter, length, None, refl, sym, ◌∙◌, subst, arith}
use Rattle.std.specs.Prelude.{replicate, if◌then◌else◌}
use Rattle.std.specs.List.{AllByRecursion, AllZip, enumerate_from}
use Rattle.std.proofs.lemmas.Bool.{true≢false}
use Rattle.labelled_disk.specs.FilesOn.{files_on}
use Rattle.labelled_disk.specs.Sectors.{Sector}
use Rattle.flat_machine.specs.File.{File, Page, Cell, any_page}
use Rattle.flat_machine.specs.declared.space.FilePage.{FilePage}
use Rattle.flat_machine.specs.IsMachine.{IsMachine}
use Rattle.flat_machine.specs.Machine.{Machine, IsFile}
use Rattle.flat_machine.specs.Settled.{settled_file, is_unforced, FileAgrees, PageAgrees, CellAgrees, Agrees}
use Rattle.flat_machine.proofs.Lists.{all_in, in_all, in_filter}
use Rattle.session_words.specs.StandsFor.{RevealsSettled}

-- what agrees with a whole page agrees with any
whole_agrees : (p q : Page) → length q ≡ 512 → PageAgrees p q → PageAgrees p any_page
unfolding any_page
whole_agrees p q long agrees = with_none p q 512 long agrees
  where
    with_none : (cs ds : List Cell) (n : ℕ) → length ds ≡ n → AllZip CellAgrees cs ds → AllZip CellAgrees cs (replicate n None)
    with_none [] [] zero e all = tt
    with_none [] [] (suc n) e all = absurd (omega arith)
    with_none [] (d ∷ ds) n e all = absurd all
    with_none (c ∷ cs) [] n e all = absurd all
    with_none (c ∷ cs) (d ∷ ds) zero e all = absurd (omega arith)
    with_none (c ∷ cs) (d ∷ ds) (suc n) e all = (tt, with_none cs ds n (omega arith) all.1)

module _ (few many : ℕ → Bool) (less : (k : ℕ) → few k ≡ true → many k ≡ true) where
  pages_wider : (n : ℕ) (ps qs : List Page) → AllByRecursion (λ q. length q ≡ 512) qs → AllZip PageAgrees ps (map (λ e. if few e.0 then any_page else e.1) (enumerate_from n qs))
      → AllZip PageAgrees ps (map (λ e. if many e.0 then any_page else e.1) (enumerate_from n qs))
  pages_wider n [] [] whole all = tt
  pages_wider n [] (q ∷ qs) whole all = absurd all
  pages_wider n (p ∷ ps) [] whole all = absurd all
  pages_wider n (p ∷ ps) (q ∷ qs) whole all = (either (few n) refl (many n) refl all.0, pages_wider (n + 1) ps qs whole.1 all.1)
    where
      either : (a : Bool) → few n ≡ a → (b : Bool) → many n ≡ b → PageAgrees p (cond a any_page q) → PageAgrees p (cond b any_page q)
      either true ea true eb agrees = agrees
      either true ea false eb agrees = absurd (true≢false (sym (less n ea) ∙ eb))
      either false ea true eb agrees = whole_agrees p q whole.0 agrees
      either false ea false eb agrees = agrees

module _ (few many : List FilePage) (less : (id page : ℕ) → is_unforced few id page ≡ true → is_unforced many id page ≡ true) where
  files_wider : (fs gs : List File) → AllByRecursion IsFile gs → AllZip FileAgrees fs (map (settled_file few) gs) → AllZip FileAgrees fs (map (settled_file many) gs)
  files_wider [] [] whole all = tt
  files_wider [] (g ∷ gs) whole all = absurd all
  files_wider (f ∷ fs) [] whole all = absurd all
  files_wider (f ∷ fs) (g ∷ gs) whole all = (
    record {
      same_id = all.0.same_id;
      same_kind = all.0.same_kind;
      same_immutable = all.0.same_immutable;
      pages_agree = pages_wider (is_unforced few g.id) (is_unforced many g.id) (λ k is. less g.id k is) 0 f.pages g.pages whole.0.whole_pages all.0.pages_agree;
    },
    files_wider fs gs whole.1 all.1,
  )

-- what is revealed of a machine is revealed of one with the same files, of which more pages are unforced
pub reveals_wider : (m n : Machine) → IsMachine m → n.files ≡ m.files → ((id page : ℕ) → is_unforced n.unforced id page ≡ true → is_unforced m.unforced id page ≡ true) → (d : List Sector) → RevealsSettled d n → RevealsSettled d m
reveals_wider m n is same less d revealed = record {
  agrees = files_wider n.unforced m.unforced less (files_on d) (filter (λ f. f.permanent) m.files) whole
      (subst (λ (fs : List File). Agrees (files_on d) (map (settled_file n.unforced) (filter (λ f. f.permanent) fs))) same revealed.agrees);
  right = revealed.right;
}
  where
    whole : AllByRecursion IsFile (filter (λ f. f.permanent) m.files)
    whole = in_all IsFile (filter (λ f. f.permanent) m.files) (λ f i. all_in IsFile m.files is.whole_files f (in_filter (λ g. g.permanent) m.files f i).0)
