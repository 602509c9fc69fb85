-- The last pages of files that windows show: what is shown is up to them, and calls that leave no window that shows another.
use Rattle.std.proofs.Common.{◌≡◌, ◌⊎◌, inl, inr, ℕ, ◌+◌, ◌-◌, ◌≤◌, ◌<◌, Bool, true, false, ◌&&◌, List, [], ◌∷◌, Option, Some, None, Result, Ok, Err, refl, sym, ◌∙◌, ap, subst, arith}
use Rattle.std.specs.Prelude.{◌==◌, IfOk, IfSome, OnOk, nat_le, nat_lt, option_and_then, option_map}
use Rattle.std.specs.Option.{option_map_or}
use Rattle.std.proofs.lemmas.Bool.{and_parts, eqb-true, eq-eqb, false≢true}
use Rattle.std.proofs.lemmas.Bool.Decides.{nat_tests}
use Rattle.std.proofs.lemmas.Option.{none-some, same_Some}
use Rattle.labelled_disk.specs.declared.disk.Disk.{Ghosts}
use Rattle.labelled_disk.specs.declared.evidence.Halt.{Halt}
use Rattle.flat_machine.specs.declared.call.Reply.{Reply}
use Rattle.flat_machine.specs.declared.call.Reply.TheVariants.{Done}
use Rattle.flat_machine.specs.declared.space.FilePage.{FilePage}
use Rattle.flat_machine.specs.declared.space.Space.{Space}
use Rattle.flat_machine.specs.declared.space.Window.{Window}
use Rattle.flat_machine.specs.At.{page_through, shown_at}
use Rattle.flat_machine.specs.Space.{has_window, holds, is_mapped, mapped_at}
use Rattle.flat_machine.proofs.Lists.{In, all_in, any_in, find_in, in_all, in_any, looked_up}
use Rattle.swapper_kernel.specs.Goes.{Pages}
use Rattle.space_tables.specs.declared.shown.Shown.{Shown}
use Rattle.space_tables.specs.Shows.{window_of}
use Rattle.fault_core.specs.declared.core_over.Core.{Core}
use Rattle.fault_core.specs.Lack.{shown_unit, shown_units}
use Rattle.space_calls.specs.Mapping.{IsLastFrom}
use Rattle.space_calls.specs.Ranges.{space_units}
use Rattle.space_calls.specs.Sees.{AreOn, IsShown, SeesFiles, SeesOn, StillOn, StillOnOr, last_shown}
use Rattle.space_calls.specs.Unmapping.{ShowsIn}

-- ---- More pages.

window_wider : (pages more : Pages) → ((id page : ℕ) → pages id page → more id page) → (s : Space) (o : Option Window) → IfSome o (λ w. pages w.file (last_shown s w)) → IfSome o (λ w. more w.file (last_shown s w))
window_wider pages more too s None on = tt
window_wider pages more too s (Some w) on = too w.file (last_shown s w) on

-- where the last pages that windows show are among these, they are among more of them
pub on_wider : (pages more : Pages) → ((id page : ℕ) → pages id page → more id page) → (ss : List Space) → AreOn pages ss → AreOn more ss
on_wider pages more too [] on = tt
on_wider pages more too (s ∷ ss) on = (window_wider pages more too s s.window on.0, on_wider pages more too ss on.1)

-- ---- What is shown.

-- with each page of a file, these have those below it
abbrev pub HaveLower : Pages → Type 0
HaveLower pages = (id page last : ℕ) → page ≤ last → pages id last → pages id page

module _ (pages : Pages) (ss : List Space) (on : AreOn pages ss) where
  -- the window of each space
  pub window_of_one : (s : Space) → In s ss → IfSome s.window (λ w. pages w.file (last_shown s w))
  window_of_one s there = all_in (λ t. IfSome t.window (λ w. pages w.file (last_shown t w))) ss on s there

-- what a window shows at a page of its space is at most the last that it shows
up_to_last : (page first count from : ℕ) → nat_le first page && nat_lt page (first + count) ≡ true → from + (page - first) ≤ from + (count - 1)
up_to_last page first count from inside =
    let both = and_parts (nat_le first page) (nat_lt page (first + count)) inside in
    let low = both.0 in
    let high = both.1 in
    let least : first ≤ page = grind (arith, nat_tests, low) in
    let below : page < first + count = grind (arith, nat_tests, high) in
    omega (arith, least, below)

module _ (pages : Pages) (lower : HaveLower pages) where
  through_on : (page : ℕ) (u : FilePage) (s : Space) → holds s page ≡ true → (o : Option Window) → IfSome o (λ w. pages w.file (last_shown s w)) → option_map (λ w. page_through s w page) o ≡ Some u → pages u.file u.page
  through_on page u s inside None on is = absurd (none-some u is)
  through_on page u s inside (Some w) on is =
      subst (λ (v : FilePage). pages v.file v.page) (same_Some (page_through s w page) u is) (lower w.file (w.first + (page - s.first)) (last_shown s w) (up_to_last page s.first s.pages w.first inside) on)

  module _ (ss : List Space) (on : AreOn pages ss) where
    -- a page that is shown is one of these
    pub shown_on : (page : ℕ) (u : FilePage) → shown_at ss page ≡ Some u → pages u.file u.page
    shown_on page u is = by (mapped_at ss page) refl is
      where
        by : (o : Option Space) → mapped_at ss page ≡ o → option_and_then (λ s. option_map (λ w. page_through s w page) s.window) o ≡ Some u → pages u.file u.page
        by None at is = absurd (none-some u is)
        by (Some s) at is =
            let found = find_in (λ t. is_mapped t && holds t page) ss s at in
            through_on page u s (and_parts (is_mapped s) (holds s page) found.1).1 s.window (window_of_one pages ss on s found.0) is

    -- so is each of what a swap unit shows
    unit_on : (asked id page : ℕ) → shown_unit ss asked id page → pages id page
    unit_on asked id page (x, at, (other, own, is)) = shown_on other (record { file = id; page = page }) is

    -- of the swap units of a reference
    pub units_on : (address count id page : ℕ) → shown_units ss address count id page → pages id page
    units_on address count id page (inl first) = unit_on _ id page first
    units_on address count id page (inr last) = unit_on _ id page last

    -- and of those of a space
    pub space_on : (space id page : ℕ) → space_units ss space id page → pages id page
    space_on space id page (s, (at, (asked, from, below, unit))) = unit_on asked id page unit

-- the last page that the window of a space shows
pub window_on_file : (pages : Pages) (ss : List Space) → AreOn pages ss → (space : ℕ) (shown : Shown) (shows : ShowsIn ss space shown) → pages shown.id (last_shown shows.0 (window_of shown))
window_on_file pages ss on space shown (s, at, has) =
    subst (λ (o : Option Window). IfSome o (λ w. pages w.file (last_shown s w))) has (window_of_one pages ss on s (looked_up (λ t. t.handle) ss space s at).0)

-- ---- Windows that are there.

-- the window of a space shows this page of a file as its last
abbrev shows_last : ℕ → ℕ → Space → Window → Bool
shows_last id page s w = w.file == id && last_shown s w == page

-- each window shows as its last a page that one does
pub shown_here : (ss : List Space) → AreOn (IsShown ss) ss
shown_here ss = in_all (λ s. IfSome s.window (λ w. IsShown ss w.file (last_shown s w))) ss (λ s there. by s there s.window refl)
  where
    by : (s : Space) → In s ss → (o : Option Window) → s.window ≡ o → IfSome o (λ w. IsShown ss w.file (last_shown s w))
    by s there None has = tt
    by s there (Some w) has =
        let same : shows_last w.file (last_shown s w) s w ≡ true = rw (eq-eqb w.file w.file refl, eq-eqb (last_shown s w) (last_shown s w) refl) refl in
        in_any (λ t. has_window (shows_last w.file (last_shown s w) t) t) ss s there (ap (λ (o : Option Window). option_map_or (shows_last w.file (last_shown s w) s) o false) has ∙ same)

-- or one of more
pub shown_or : (more : Pages) (ss : List Space) → AreOn (λ id page. IsShown ss id page ⊎ more id page) ss
shown_or more ss = on_wider (IsShown ss) (λ id page. IsShown ss id page ⊎ more id page) (λ id page one. inl one) ss (shown_here ss)

-- a page that a window shows as its last is one of those that all do
pub shown_files : (pages : Pages) (ss : List Space) → AreOn pages ss → (id page : ℕ) → IsShown ss id page → pages id page
shown_files pages ss on id page shown =
    let found = any_in (λ s. has_window (shows_last id page s) s) ss shown in
    by found.0 found.0.window (window_of_one pages ss on found.0 found.1) found.2
  where
    by : (s : Space) (o : Option Window) → IfSome o (λ w. pages w.file (last_shown s w)) → option_map_or (shows_last id page s) o false ≡ true → pages id page
    by s None one is = absurd (false≢true is)
    by s (Some w) one is =
        let both = and_parts (w.file == id) (last_shown s w == page) is in
        subst (λ (n : ℕ). pages n page) (eqb-true w.file id both.0) (subst (λ (n : ℕ). pages w.file n) (eqb-true (last_shown s w) page both.1) one)

-- the last page that a space shows from a page on is one alone
pub last_once : (ss : List Space) (space page a b : ℕ) → IsLastFrom ss space page a → IsLastFrom ss space page b → a ≡ b
last_once ss space page a b (s, at, is) (t, there, also) = is ∙ ap (λ (x : Space). page + (x.pages - 1)) (same_Some s t (sym at ∙ there)) ∙ sym also

-- ---- Calls.

module _ {D A : Type 0} {G : Ghosts D} where
  pub sees_any : (pages : Pages) (core : Core D A G) → SeesFiles pages core → SeesOn core
  sees_any pages core s = (s.0, s.1.0)

  -- last pages that are some that windows showed, all of which were among these, or that are among these anyway
  pub later_on : (pages more : Pages) (core : Core D A G) (ss : List Space) → AreOn pages ss → ((id page : ℕ) → more id page → pages id page) → SeesFiles (λ id page. IsShown ss id page ⊎ more id page) core → SeesFiles pages core
  later_on pages more core ss on too (now, (sees, are)) =
      (now, (sees, on_wider (λ id page. IsShown ss id page ⊎ more id page) pages (λ id page one. elim one [ inl was ↦ shown_files pages ss on id page was | inr new ↦ too id page new ]) now are))

  module _ (old new : Core D A G) where
    -- where the last pages that all windows showed were among these, they still are
    pub still_on : StillOn old new → (pages : Pages) → SeesFiles pages old → SeesFiles pages new
    still_on still pages (ss, (sees, on)) = let later = still ss sees in (later.0, (later.1.0, on_wider (IsShown ss) pages (shown_files pages ss on) later.0 later.1.1))

    pub for_files : {R : Type 0} (result : Result R Halt) → OnOk result (StillOn old new) → (pages : Pages) → SeesFiles pages old → OnOk result (SeesFiles pages new)
    for_files (Ok answer) still pages s = still_on still pages s
    for_files (Err e) still pages s = tt

    -- so it is where the last page that the space shows of this file is one of them, if the answer is that it is done
    pub map_for_files : (space id page : ℕ) (result : Result Reply Halt) → IfOk result (λ reply. StillOnOr (λ ss file last. (reply ≡ Done) × (file ≡ id) × IsLastFrom ss space page last) old new)
        → (pages : Pages) (seen : SeesFiles pages old) → IfOk result (λ reply. (reply ≡ Done → (last : ℕ) → IsLastFrom seen.0 space page last → pages id last) → SeesFiles pages new)
    map_for_files space id page (Ok reply) still pages (ss, (sees, on)) = λ is.
        later_on pages (λ file last. (reply ≡ Done) × (file ≡ id) × IsLastFrom ss space page last) new ss on (λ file last one. subst (λ (n : ℕ). pages n last) (sym one.1) (is one.0 last one.2)) (still ss sees)
    map_for_files space id page (Err e) still pages seen = tt

  -- and where the last page that the space shows of the file is one of them
  pub given_for_files : (core : Core D A G) (space id page : ℕ) (result : Result Reply Halt) (ss : List Space) → IfOk result (λ reply. (reply ≡ Done) × SeesFiles (λ file last. IsShown ss file last ⊎ ((file ≡ id) × IsLastFrom ss space page last)) core)
      → (pages : Pages) → AreOn pages ss → ((last : ℕ) → IsLastFrom ss space page last → pages id last) → OnOk result (SeesFiles pages core)
  given_for_files core space id page (Ok reply) ss given pages on is =
      later_on pages (λ file last. (file ≡ id) × IsLastFrom ss space page last) core ss on (λ file last one. subst (λ (n : ℕ). pages n last) (sym one.0) (is last one.1)) given.1
  given_for_files core space id page (Err e) ss given pages on is = tt
