-- Files that agree.
use Rattle.std.proofs.Common.{◌≡◌, List, [], ◌∷◌, refl, sym, subst}
use Rattle.std.specs.List.{AllByRecursion, AllZip}
use Rattle.labelled_disk.specs.File.{File, Cell, Page}
use Rattle.flat_machine.specs.Settled.{FileAgrees, PageAgrees, CellAgrees}
use Rattle.pair_machine.specs.Exact.{IsByte, HasBytes}
use Rattle.pair_machine.specs.Laws.{AgreeingAreSame}

same_cell : (c d : Cell) → CellAgrees c d → IsByte d → c ≡ d
same_cell c d agrees is = subst (λ (x : Cell). CellAgrees c x → c ≡ x) (sym is.1) (λ h. h) agrees

same_page : (p q : Page) → PageAgrees p q → AllByRecursion IsByte q → p ≡ q
same_page [] [] agrees bytes = refl
same_page [] (d ∷ q) agrees bytes = absurd agrees
same_page (c ∷ p) [] agrees bytes = absurd agrees
same_page (c ∷ p) (d ∷ q) agrees bytes = λ i. same_cell c d agrees.0 bytes.0 i ∷ same_page p q agrees.1 bytes.1 i

same_pages : (ps qs : List Page) → AllZip PageAgrees ps qs → AllByRecursion (AllByRecursion IsByte) qs → ps ≡ qs
same_pages [] [] agrees bytes = refl
same_pages [] (q ∷ qs) agrees bytes = absurd agrees
same_pages (p ∷ ps) [] agrees bytes = absurd agrees
same_pages (p ∷ ps) (q ∷ qs) agrees bytes = λ i. same_page p q agrees.0 bytes.0 i ∷ same_pages ps qs agrees.1 bytes.1 i

same_file : (f g : File) → FileAgrees f g → HasBytes g → f.permanent ≡ g.permanent → f ≡ g
same_file f g a bytes perm = let pages = same_pages f.pages g.pages a.pages_agree bytes in
    λ i. record { id = a.same_id i; kind = a.same_kind i; permanent = perm i; immutable = a.same_immutable i; pages = pages i }

pub agreeing_are_same : AgreeingAreSame
agreeing_are_same [] [] agrees bytes perm = refl
agreeing_are_same [] (g ∷ gs) agrees bytes perm = absurd agrees
agreeing_are_same (f ∷ fs) [] agrees bytes perm = absurd agrees
agreeing_are_same (f ∷ fs) (g ∷ gs) agrees bytes perm =
    λ i. same_file f g agrees.0 bytes.0 perm.0 i ∷ agreeing_are_same fs gs agrees.1 bytes.1 perm.1 i
