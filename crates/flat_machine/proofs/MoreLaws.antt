-- What a machine shows, forces and reads.
use Rattle.std.proofs.Common.{◌≡◌, ℕ, zero, suc, ◌+◌, ◌-◌, ◌<◌, false, ◌&&◌, List, [], ◌∷◌, map, filter, Option, Some, None, refl, sym, ◌∙◌, ap, subst, arith}
use Rattle.std.specs.Prelude.{IsSomeAnd, IfSome, nat_le, nat_lt, option_map, option_and_then, if◌then◌else◌}
use Rattle.std.specs.List.{enumerate_from}
use Rattle.std.proofs.lemmas.Bool.{and_parts, leb-true, ltb-true}
use Rattle.std.proofs.lemmas.Option.{same_Some, none-some}
use Rattle.flat_machine.specs.Form.{IsTyped}
use Rattle.flat_machine.specs.File.{File, Page, size, file_at, any_page}
use Rattle.flat_machine.specs.Space.{Space, Window, FilePage, end, holds, is_mapped, mapped_at}
use Rattle.flat_machine.specs.IsMachine.{IsMachine}
use Rattle.flat_machine.specs.At.{page_through}
use Rattle.flat_machine.specs.After.{TraceLine, next_line}
use Rattle.flat_machine.specs.Settled.{settled_file}
use Rattle.flat_machine.specs.Laws.{ShownIsThere, ForcedIsSettled, AfterIsMachine}
use Rattle.flat_machine.proofs.Lists.{find_in}
use Rattle.flat_machine.proofs.FileLemmas.{window_file}
use Rattle.flat_machine.proofs.NextLemmas.{next_keeps_machine}
use Rattle.flat_machine.proofs.Keep.{window_at}

-- what a window shows is in its file
pub shown_is_there : ShownIsThere
shown_is_there m h page u is = either (mapped_at m.spaces page) refl is
  where
    through : (s : Space) → mapped_at m.spaces page ≡ Some s → (o : Option Window) → s.window ≡ o → option_map (λ w. page_through s w page) o ≡ Some u
        → IsSomeAnd (file_at m.files u.file) (λ f. u.page < size f)
    through s e None q t = absurd (none-some u t)
    through s e (Some w) q t =
        let found = find_in (λ r. is_mapped r && holds r page) m.spaces s e in
        let held = and_parts (nat_le s.first page) (nat_lt page (end s)) (and_parts (is_mapped s) (holds s page) found.1).1 in
        let low = leb-true s.first page held.0 in
        let high = ltb-true page (end s) held.1 in
        let f = window_file m.files s.pages w (window_at m.files m.spaces h.whole_windows s w found.0 q) in
        subst (λ (v : FilePage). IsSomeAnd (file_at m.files v.file) (λ g. v.page < size g)) (same_Some (page_through s w page) u t)
        (subst (λ (o : Option File). IsSomeAnd o (λ g. w.first + (page - s.first) < size g)) (sym f.1) (omega (arith, low, high, f.2)))

    either : (o : Option Space) → mapped_at m.spaces page ≡ o → option_and_then (λ s. option_map (λ w. page_through s w page) s.window) o ≡ Some u
        → IsSomeAnd (file_at m.files u.file) (λ f. u.page < size f)
    either None e t = absurd (none-some u t)
    either (Some s) e t = through s e s.window refl t

-- where nothing is unforced, the settled files are the permanent ones

no_page_any : (n : ℕ) (ps : List Page) → map (λ e. if false then any_page else e.1) (enumerate_from n ps) ≡ ps
no_page_any n [] = refl
no_page_any n (p ∷ ps) = ap (λ (l : List Page). p ∷ l) (no_page_any (n + 1) ps)

same_files : (fs : List File) → map (settled_file []) fs ≡ fs
same_files [] = refl
same_files (f ∷ fs) = λ t. record f { pages = no_page_any 0 f.pages t } ∷ same_files fs t

pub forced_is_settled : ForcedIsSettled
forced_is_settled m e = ap (λ (us : List FilePage). map (settled_file us) (filter (λ f. f.permanent) m.files)) e ∙ same_files (filter (λ f. f.permanent) m.files)

-- the machine after lines is one

pub after_is_machine : AfterIsMachine
after_is_machine m [] zero typed h = h
after_is_machine m [] (suc k) typed h = h
after_is_machine m (line ∷ lines) zero typed h = h
after_is_machine m (line ∷ lines) (suc k) typed h = after_is_machine (next_line m line) lines k typed.1 (step line typed.0)
  where
    step : (line : TraceLine) → IfSome line IsTyped → IsMachine (next_line m line)
    step None t = h
    step (Some call) t = next_keeps_machine m call t h
