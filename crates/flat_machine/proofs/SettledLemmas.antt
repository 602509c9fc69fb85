-- Files that stand for the machine's agree with its settled files.
use Rattle.std.proofs.Common.{◌≡◌, ℕ, zero, suc, ◌+◌, Bool, true, false, cond, List, [], ◌∷◌, map, filter, length, Option, refl, sym, ◌∙◌, ap, arith, Some, None}
use Rattle.std.specs.Prelude.{slice_get, replicate, option_map, option_and_then, ◌==◌, if◌then◌else◌}
use Rattle.std.specs.Bool.{then_some}
use Rattle.std.specs.List.{AllByRecursion, AllZip, enumerate_from}
use Rattle.std.proofs.lemmas.Bool.{true≢false, false≢true, eq-eqb}
use Rattle.labelled_disk.proofs.AscendingLemmas.{zip_by_look_up}
use Rattle.labelled_disk.specs.Ascending.{AreAscending}
use Rattle.flat_machine.specs.File.{File, Page, Cell, any_page, file_at}
use Rattle.flat_machine.specs.Space.{FilePage}
use Rattle.flat_machine.specs.Machine.{IsFile}
use Rattle.flat_machine.specs.Settled.{settled_file, is_unforced, FileAgrees, PageAgrees, CellAgrees, FileStandsFor}
use Rattle.flat_machine.specs.Laws.{SectorStateFilesAgree}
use Rattle.flat_machine.specs.SettledLaws.{SettledByIdentifier, SettledByPage}
use Rattle.flat_machine.proofs.Lists.{in_filter, filter_in, not_found, looked_up, look_up, look_up_none, one_key, ascending_filter}
use Rattle.flat_machine.proofs.FileLemmas.{look_up_changed}
use Rattle.flat_machine.proofs.PageLemmas.{any_at}

-- a whole page agrees with any
any_agrees : (p : Page) → length p ≡ 512 → PageAgrees p any_page
unfolding any_page
any_agrees p long = with_none p 512 long
  where
    with_none : (cs : List Cell) (n : ℕ) → length cs ≡ n → AllZip CellAgrees cs (replicate n None)
    with_none [] zero e = tt
    with_none [] (suc n) e = absurd (omega arith)
    with_none (c ∷ cs) zero e = absurd (omega arith)
    with_none (c ∷ cs) (suc n) e = (tt, with_none cs n (omega arith))

pages_by_page : (test : ℕ → Bool) (n : ℕ) (ps qs : List Page) → length ps ≡ length qs → AllByRecursion (λ p. length p ≡ 512) ps
    → ((k : ℕ) (p q : Page) → slice_get ps k ≡ Some p → slice_get qs k ≡ Some q → test (n + k) ≡ false → PageAgrees p q)
    → AllZip PageAgrees ps (map (λ e. if test e.0 then any_page else e.1) (enumerate_from n qs))
pages_by_page test n [] [] long whole each = tt
pages_by_page test n [] (q ∷ qs) long whole each = absurd (omega arith)
pages_by_page test n (p ∷ ps) [] long whole each = absurd (omega arith)
pages_by_page test n (p ∷ ps) (q ∷ qs) long whole each = (
  either (test n) refl,
  pages_by_page test (n + 1) ps qs (omega arith) whole.1
      (λ k a b at_a at_b no_test. let e : n + 1 + k ≡ n + suc k = omega arith in each (suc k) a b at_a at_b (ap test (sym e) ∙ no_test)),
)
  where
    either : (b : Bool) → test n ≡ b → PageAgrees p (cond b any_page q)
    either true e = any_agrees p whole.0
    either false e = let z : n + 0 ≡ n = omega arith in each 0 p q refl refl (ap test z ∙ e)

file_by_page : (unforced : List FilePage) (f g : File) → IsFile f → FileStandsFor unforced f g → FileAgrees f (settled_file unforced g)
file_by_page unforced f g is stands = record {
  same_id = stands.same_id;
  same_kind = stands.same_kind;
  same_immutable = stands.same_immutable;
  pages_agree = pages_by_page (is_unforced unforced g.id) 0 f.pages g.pages stands.same_size is.whole_pages
      (λ k p q a b free. let z : 0 + k ≡ k = omega arith in stands.pages_agree k p q a b (ap (λ (n : ℕ). is_unforced unforced g.id n) (sym z) ∙ free));
}

-- the permanent ones, one by one
permanent_agree : (unforced : List FilePage) (fs gs : List File) → AllByRecursion IsFile fs → AllZip (FileStandsFor unforced) fs gs
    → AllZip FileAgrees (filter (λ f. f.permanent) fs) (map (settled_file unforced) (filter (λ g. g.permanent) gs))
permanent_agree unforced [] [] whole all = tt
permanent_agree unforced [] (g ∷ gs) whole all = absurd all
permanent_agree unforced (f ∷ fs) [] whole all = absurd all
permanent_agree unforced (f ∷ fs) (g ∷ gs) whole all = either f.permanent g.permanent all.0.same_permanent (permanent_agree unforced fs gs whole.1 all.1)
  where
    either : (b c : Bool) → b ≡ c → AllZip FileAgrees (filter (λ f. f.permanent) fs) (map (settled_file unforced) (filter (λ g. g.permanent) gs))
        → AllZip FileAgrees (cond b (f ∷ filter (λ f. f.permanent) fs) (filter (λ f. f.permanent) fs))
        (map (settled_file unforced) (cond c (g ∷ filter (λ g. g.permanent) gs) (filter (λ g. g.permanent) gs)))
    either true true e more = (file_by_page unforced f g whole.0 all.0, more)
    either true false e more = absurd (true≢false e)
    either false true e more = absurd (false≢true e)
    either false false e more = more

pub sector_state_files_agree : SectorStateFilesAgree
sector_state_files_agree fs m rise whole is both =
    permanent_agree m.unforced fs m.files whole (zip_by_look_up (FileStandsFor m.unforced) (λ f g a. a.same_id) fs m.files rise is.ids_rise both)

-- The settled files by identifier and by page.

permanent_at : (fs : List File) (id : ℕ) → AreAscending fs → file_at (filter (λ f. f.permanent) fs) id ≡ option_and_then (λ f. then_some f.permanent f) (file_at fs id)
permanent_at fs id rise = either (file_at fs id) refl
  where
    none : file_at fs id ≡ None → file_at (filter (λ f. f.permanent) fs) id ≡ None
    none e = look_up_none (λ f. f.id) (filter (λ f. f.permanent) fs) id
        (λ x i q. true≢false (sym (eq-eqb x.id id q) ∙ not_found (λ f. f.id == id) fs e x (in_filter (λ f. f.permanent) fs x i).0))

    some : (f : File) → file_at fs id ≡ Some f → (b : Bool) → f.permanent ≡ b → file_at (filter (λ f. f.permanent) fs) id ≡ then_some b f
    some f e true p =
        let at = looked_up (λ g. g.id) fs id f e in
        look_up (λ g. g.id) (filter (λ g. g.permanent) fs) (ascending_filter (λ g. g.id) (λ g. g.permanent) fs rise) f (filter_in (λ g. g.permanent) fs f at.0 p) id at.1
    some f e false p =
        let at = looked_up (λ g. g.id) fs id f e in
        look_up_none (λ g. g.id) (filter (λ g. g.permanent) fs) id
        (λ x i q. let r = in_filter (λ g. g.permanent) fs x i in true≢false (sym r.1 ∙ ap (λ (g : File). g.permanent) (one_key (λ g. g.id) fs rise x f r.0 at.0 (q ∙ sym at.1)) ∙ p))

    either : (o : Option File) → file_at fs id ≡ o → file_at (filter (λ f. f.permanent) fs) id ≡ option_and_then (λ f. then_some f.permanent f) o
    either None e = none e
    either (Some f) e = some f e f.permanent refl

pub settled_by_identifier : SettledByIdentifier
settled_by_identifier m id h =
    look_up_changed (settled_file m.unforced) (λ f. refl) (filter (λ f. f.permanent) m.files) id
    ∙ ap (λ (o : Option File). option_map (settled_file m.unforced) o) (permanent_at m.files id h.ids_rise)
    ∙ either (file_at m.files id)
  where
    by : (f : File) (b : Bool) → option_map (settled_file m.unforced) (then_some b f) ≡ then_some b (settled_file m.unforced f)
    by f true = refl
    by f false = refl

    either : (o : Option File) → option_map (settled_file m.unforced) (option_and_then (λ f. then_some f.permanent f) o) ≡ option_and_then (λ f. then_some f.permanent (settled_file m.unforced f)) o
    either None = refl
    either (Some f) = by f f.permanent

pub settled_by_page : SettledByPage
settled_by_page unforced f page =
    let z : 0 + page ≡ page = omega arith in
    any_at (is_unforced unforced f.id) 0 f.pages page
    ∙ ap (λ (k : ℕ). if is_unforced unforced f.id k then option_map (λ (p : Page). any_page) (slice_get f.pages page) else slice_get f.pages page) z
