-- The machine that a disk starts.
use Rattle.std.proofs.Common.{◌≡◌, ℕ, ◌+◌, Bool, true, false, ◌&&◌, cond, List, [], ◌∷◌, map, filter, Some, None, refl, sym, ◌∙◌, ap, subst, arith, eqb}
use Rattle.std.specs.Prelude.{if◌then◌else◌}
use Rattle.std.specs.List.{AllByRecursion, AllZip, enumerate_from}
use Rattle.std.proofs.lemmas.Bool.{and_parts, false≢true}
use Rattle.labelled_disk.specs.Sectors.{Sector}
use Rattle.labelled_disk.specs.Layout.{data_sectors}
use Rattle.labelled_disk.specs.Label.{is_file, is_permanent, leader_page}
use Rattle.labelled_disk.specs.FilesOn.{leads, file_by, files_by, files_on, put_file}
use Rattle.flat_machine.specs.File.{File, Page, any_page, Cell}
use Rattle.flat_machine.specs.Settled.{settled, settled_file, Agrees, PageAgrees, CellAgrees}
use Rattle.flat_machine.specs.Start.{start}
use Rattle.flat_machine.proofs.FileLemmas.{each_put}
use Rattle.flat_machine.specs.Laws.{OpenedIsMachine, StartAgrees}

pub opened_is_machine : OpenedIsMachine
opened_is_machine serial counter capacity a b c d = record {
  serial_fits = (a, b);
  counter_fits = (c, d);
  ids_rise = tt;
  ids_given = tt;
  whole_files = tt;
  room = omega arith;
  has_root = refl;
  handles_rise = (tt, tt);
  whole_spaces = (record { handle_fits = omega arith; not_empty = omega arith; unit_fits = (omega arith, omega arith); inside_parent = (omega arith, omega arith); leads_to_root = (0, refl) }, tt);
  siblings_apart = ((λ n t. absurd (n refl), tt), tt);
  one_mapped_on_a_path = ((λ n t. absurd (n refl), tt), tt);
  whole_windows = (tt, tt);
  anonymous_alone = ((λ n. absurd (n refl), tt), tt);
  unforced_shown = tt;
  unforced_once = tt;
}

-- what holds of the file of each leader holds of all files
pub each_by_leaders : (P : File → Type 0) (with_temporary : Bool) (all ss : List Sector) → ((s : Sector) → leads with_temporary s ≡ true → P (file_by all s.0))
    → AllByRecursion P (files_by with_temporary all ss)
each_by_leaders P with_temporary all [] each = tt
each_by_leaders P with_temporary all (s ∷ ss) each = either (leads with_temporary s) refl (each_by_leaders P with_temporary all ss each)
  where
    either : (b : Bool) → leads with_temporary s ≡ b → AllByRecursion P (files_by with_temporary all ss)
        → AllByRecursion P (if b then put_file (file_by all s.0) (files_by with_temporary all ss) else files_by with_temporary all ss)
    either true e more = each_put P (file_by all s.0) (files_by with_temporary all ss) (each s e) more
    either false e more = more

permanent_leader : (s : Sector) → leads false s ≡ true → is_permanent s.0 ≡ true
permanent_leader s e = (and_parts (is_file s.0 && eqb s.0.page leader_page) (is_permanent s.0) e).1

files_permanent : (d : List Sector) → AllByRecursion (λ f. f.permanent ≡ true) (files_on d)
files_permanent d = each_by_leaders (λ f. f.permanent ≡ true) false (data_sectors d) (data_sectors d) permanent_leader

nothing_any : (n : ℕ) (ps : List Page) → map (λ e. if false then any_page else e.1) (enumerate_from n ps) ≡ ps
nothing_any n [] = refl
nothing_any n (p ∷ ps) = ap (λ (l : List Page). p ∷ l) (nothing_any (n + 1) ps)

settled_same : (fs : List File) → AllByRecursion (λ f. f.permanent ≡ true) fs → map (settled_file []) (filter (λ f. f.permanent) fs) ≡ fs
settled_same [] h = refl
settled_same (f ∷ fs) h = either f.permanent h.0 (settled_same fs h.1)
  where
    either : (b : Bool) → b ≡ true → map (settled_file []) (filter (λ f. f.permanent) fs) ≡ fs
        → map (settled_file []) (cond b (f ∷ filter (λ f. f.permanent) fs) (filter (λ f. f.permanent) fs)) ≡ f ∷ fs
    either false e r = absurd (false≢true e)
    either true e r =
        ap (λ (p : List Page). record f { pages = p } ∷ map (settled_file []) (filter (λ f. f.permanent) fs)) (nothing_any 0 f.pages) ∙ ap (λ (l : List File). f ∷ l) r

settled_start : (d : List Sector) → settled (start d) ≡ files_on d
settled_start d = settled_same (files_on d) (files_permanent d)

cells_agree : (cs : List Cell) → AllZip CellAgrees cs cs
cells_agree [] = tt
cells_agree (None ∷ cs) = (tt, cells_agree cs)
cells_agree (Some b ∷ cs) = (refl, cells_agree cs)

pages_agree : (ps : List Page) → AllZip PageAgrees ps ps
pages_agree [] = tt
pages_agree (p ∷ ps) = (cells_agree p, pages_agree ps)

pub agrees_self : (fs : List File) → Agrees fs fs
agrees_self [] = tt
agrees_self (f ∷ fs) = (record { same_id = refl; same_kind = refl; same_immutable = refl; pages_agree = pages_agree f.pages }, agrees_self fs)

pub start_agrees : StartAgrees
start_agrees d = (settled_start d, subst (λ (l : List File). Agrees (files_on d) l) (sym (settled_start d)) (agrees_self (files_on d)))
