-- What is stored is loaded.
use Rattle.std.proofs.Common.{◌≡◌, ◌≢◌, ◌⊎◌, inl, inr, ℕ, zero, suc, ◌+◌, ◌/◌, ◌%◌, ◌<◌, ◌≤◌, Bool, true, false, ◌&&◌, List, [], ◌∷◌, map, length, Option, Some, None, refl, sym, ◌∙◌, ap, subst, arith, get_or-set_same, get_or-set_other}
use Rattle.std.specs.Prelude.{slice_set, slice_index_or, option_map, option_and_then, is_none, ◌==◌, if◌then◌else◌, IsSomeAnd, find, fold, MatchOption}
use Rattle.std.specs.Option.{option_map_or}
use Rattle.std.specs.List.{AllByRecursion}
use Rattle.std.proofs.lemmas.Bool.{cases_eq, cases_lt, and_parts}
use Rattle.std.proofs.lemmas.List.{set_past}
use Rattle.flat_machine.specs.declared.call.Call.{Call}
use Rattle.flat_machine.specs.declared.call.Call.TheVariants.{Store, Load}
use Rattle.flat_machine.specs.declared.call.Refusal.{Refusal}
use Rattle.flat_machine.specs.declared.call.Refusal.TheVariants as why
use Rattle.flat_machine.specs.declared.call.Reply.TheVariants as reply
use Rattle.flat_machine.specs.File.{File, Page, Cell, byte, any, size, file_at}
use Rattle.flat_machine.specs.Space.{Space, Window, FilePage, mapped_at, is_mapped, holds}
use Rattle.flat_machine.specs.Machine.{Machine, IsFile}
use Rattle.flat_machine.specs.IsMachine.{IsMachine}
use Rattle.flat_machine.specs.At.{Spot, shown_at, cell_of, cell_at, cells_at, pages_of, page_through}
use Rattle.flat_machine.specs.Refusal.{refusal, first_of, no_map, read_only}
use Rattle.flat_machine.specs.Next.{next, change, change_file, with_byte, store_byte, store_bytes, mark_page}
use Rattle.flat_machine.specs.Allows.{Allows, Answers, AgreesWithCells}
use Rattle.flat_machine.specs.Laws.{IsOneOf}
use Rattle.flat_machine.specs.StoreLaws.{StoredIsShown, StoredIsLoaded}
use Rattle.flat_machine.proofs.Lists.{In, all_in, looked_up, find_in, not_found}
use Rattle.flat_machine.proofs.TestLemmas.{two_none, map_none}
use Rattle.flat_machine.proofs.FileLemmas.{look_up_changed, found_changed, one_id, changed_here}
use Rattle.flat_machine.proofs.KeepFiles.{stored_bytes}
use Rattle.flat_machine.proofs.UnitLemmas.{reference_touches}
use Rattle.flat_machine.proofs.MoreLaws.{shown_is_there}

-- One byte.

-- the cells of the other offsets stay
other_cell : (files : List File) (s t : Spot) (b : ℕ) → t.offset ≢ s.offset → cell_of (change_file s.file (with_byte s b) files) t ≡ cell_of files t
other_cell files s t b n =
    ap (λ (o : Option File). option_map_or (λ f. slice_index_or (slice_index_or f.pages t.page []) t.offset any) o any)
    (look_up_changed (λ f. if f.id == s.file then with_byte s b f else f) (one_id s.file (with_byte s b) (λ f. refl)) files t.file)
    ∙ either (file_at files t.file)
  where
    in_page : (pages : List Page) → (t.page ≡ s.page) ⊎ (t.page ≢ s.page) → (s.page < length pages) ⊎ (length pages ≤ s.page)
        → slice_index_or (slice_index_or (slice_set pages s.page (slice_set (slice_index_or pages s.page []) s.offset (byte b))) t.page []) t.offset any
        ≡ slice_index_or (slice_index_or pages t.page []) t.offset any
    in_page pages (inl e) (inl l) =
        ap (λ (p : Page). slice_index_or p t.offset any) (ap (λ (k : ℕ). slice_index_or (slice_set pages s.page (slice_set (slice_index_or pages s.page []) s.offset (byte b))) k []) e ∙ get_or-set_same pages s.page _ [] l)
        ∙ get_or-set_other (slice_index_or pages s.page []) s.offset t.offset (byte b) any n
        ∙ ap (λ (k : ℕ). slice_index_or (slice_index_or pages k []) t.offset any) (sym e)
    in_page pages (inl e) (inr l) = ap (λ (ps : List Page). slice_index_or (slice_index_or ps t.page []) t.offset any) (set_past pages s.page _ l)
    in_page pages (inr e) l = ap (λ (p : Page). slice_index_or p t.offset any) (get_or-set_other pages s.page t.page _ [] e)

    by : (f : File) (c : Bool) → slice_index_or (slice_index_or (if c then with_byte s b f else f).pages t.page []) t.offset any ≡ slice_index_or (slice_index_or f.pages t.page []) t.offset any
    by f true = in_page f.pages (cases_eq t.page s.page) (cases_lt s.page (length f.pages))
    by f false = refl

    either : (o : Option File) → option_map_or (λ f. slice_index_or (slice_index_or f.pages t.page []) t.offset any) (option_map (λ f. if f.id == s.file then with_byte s b f else f) o) any
        ≡ option_map_or (λ f. slice_index_or (slice_index_or f.pages t.page []) t.offset any) o any
    either None = refl
    either (Some f) = by f (f.id == s.file)

-- the cell of the place is the byte
stored_cell : (files : List File) (s : Spot) (b : ℕ) (f : File) → file_at files s.file ≡ Some f → s.page < size f → s.offset < length (slice_index_or f.pages s.page [])
    → cell_of (change_file s.file (with_byte s b) files) s ≡ byte b
stored_cell files s b f is l k =
    ap (λ (o : Option File). option_map_or (λ f. slice_index_or (slice_index_or f.pages s.page []) s.offset any) o any)
    (found_changed (λ f. if f.id == s.file then with_byte s b f else f) (one_id s.file (with_byte s b) (λ f. refl)) files s.file f is)
    ∙ ap (λ (g : File). slice_index_or (slice_index_or g.pages s.page []) s.offset any) (changed_here s.file (with_byte s b) f (looked_up (λ g. g.id) files s.file f is).1)
    ∙ ap (λ (p : Page). slice_index_or p s.offset any) (get_or-set_same f.pages s.page (slice_set (slice_index_or f.pages s.page []) s.offset (byte b)) [] l)
    ∙ get_or-set_same (slice_index_or f.pages s.page []) s.offset (byte b) any k

-- A row of bytes.

-- the cells of the offsets that no address has stay
module _ (ss : List Space) where
  left_by_one : (address b : ℕ) (files : List File) (t : Spot) → t.offset ≢ address % 512 → cell_of (store_byte ss address b files) t ≡ cell_of files t
  left_by_one address b files t n = either (shown_at ss (address / 512))
    where
      either : (o : Option FilePage)
          → cell_of (option_map_or (λ s. change_file s.file (with_byte s b) files) (option_map (λ u. record { file = u.file; page = u.page; offset = address % 512 }) o) files) t ≡ cell_of files t
      either None = refl
      either (Some u) = other_cell files (record { file = u.file; page = u.page; offset = address % 512 }) t b n

  pub left_by_all : (bytes : List ℕ) (address : ℕ) (files : List File) (t : Spot) → ((k : ℕ) → k < length bytes → t.offset ≢ (address + k) % 512)
      → cell_of (store_bytes ss address bytes files) t ≡ cell_of files t
  left_by_all [] address files t apart = refl
  left_by_all (b ∷ bs) address files t apart =
      let z : address + 0 ≡ address = omega arith in
      left_by_all bs (address + 1) (store_byte ss address b files) t
      (λ k l. let z : address + 1 + k ≡ address + suc k = omega arith in subst (λ (n : ℕ). t.offset ≢ n % 512) (sym z) (apart (suc k) (omega (arith, l))))
      ∙ left_by_one address b files t (subst (λ (n : ℕ). t.offset ≢ n % 512) z (apart 0 (omega arith)))

-- a page at an index
page_long : (ps : List Page) (k : ℕ) → AllByRecursion (λ p. length p ≡ 512) ps → k < length ps → length (slice_index_or ps k []) ≡ 512
page_long [] k all l = absurd (omega arith)
page_long (p ∷ ps) zero all l = all.0
page_long (p ∷ ps) (suc k) all l = page_long ps k all.1 (omega arith)

-- the cell of an address that is shown
at_shown : (m : Machine) → IsMachine m → (address b : ℕ) (u : FilePage) → shown_at m.spaces (address / 512) ≡ Some u
    → cell_of (store_byte m.spaces address b m.files) (record { file = u.file; page = u.page; offset = address % 512 }) ≡ byte b
at_shown m h address b u is =
    ap (λ (o : Option FilePage). cell_of (option_map_or (λ s. change_file s.file (with_byte s b) m.files) (option_map (λ v. record { file = v.file; page = v.page; offset = address % 512 }) o) m.files) (record { file = u.file; page = u.page; offset = address % 512 })) is
    ∙ either (file_at m.files u.file) refl (shown_is_there m h (address / 512) u is)
  where
    either : (o : Option File) → file_at m.files u.file ≡ o → IsSomeAnd o (λ f. u.page < size f)
        → cell_of (change_file u.file (with_byte (record { file = u.file; page = u.page; offset = address % 512 }) b) m.files) (record { file = u.file; page = u.page; offset = address % 512 }) ≡ byte b
    either None e there = absurd there
    either (Some f) e there =
        let at = looked_up (λ g. g.id) m.files u.file f e in
        let long = page_long f.pages u.page (all_in IsFile m.files h.whole_files f at.0).whole_pages there in
        stored_cell m.files (record { file = u.file; page = u.page; offset = address % 512 }) b f e there (omega (arith, long))

stored : (bytes : List ℕ) (address : ℕ) (m : Machine) (us : List FilePage) → AllByRecursion (λ b. b < 256) bytes → IsMachine m → length bytes ≤ 512
    → ((k : ℕ) → k < length bytes → (u : FilePage) × (shown_at m.spaces ((address + k) / 512) ≡ Some u))
    → cells_at (record m { files = store_bytes m.spaces address bytes m.files; unforced = us }) address (length bytes) ≡ map byte bytes
stored [] address m us fit h few shown = refl
stored (b ∷ bs) address m us fit h few shown =
    let rest : cells_at (record m { files = store_bytes m.spaces address (b ∷ bs) m.files; unforced = us }) (address + 1) (length bs) ≡ map byte bs =
    stored bs (address + 1) (record m { files = store_byte m.spaces address b m.files }) us fit.1 (stored_bytes m.spaces (b ∷ []) address m (fit.0, tt) h) (omega (arith, few))
    (λ k l. let y : address + 1 + k ≡ address + suc k = omega arith in let r = shown (suc k) (omega (arith, l)) in (r.0, ap (λ (n : ℕ). shown_at m.spaces (n / 512)) y ∙ r.1)) in
    λ i. here i ∷ rest i
  where
    z : address + 0 ≡ address
    z = omega arith

    first : (u : FilePage) × (shown_at m.spaces (address / 512) ≡ Some u)
    first = let r = shown 0 (omega arith) in (r.0, ap (λ (n : ℕ). shown_at m.spaces (n / 512)) (sym z) ∙ r.1)

    place : Spot
    place = record { file = first.0.file; page = first.0.page; offset = address % 512 }

    here : cell_at (record m { files = store_bytes m.spaces address (b ∷ bs) m.files; unforced = us }) address ≡ byte b
    here =
        ap (λ (o : Option FilePage). option_map_or (cell_of (store_bytes m.spaces address (b ∷ bs) m.files)) (option_map (λ v. record { file = v.file; page = v.page; offset = address % 512 }) o) any) first.1
        ∙ left_by_all m.spaces bs (address + 1) (store_byte m.spaces address b m.files) place (λ k l. omega (arith, l, few))
        ∙ at_shown m h address b first.0 first.1

-- A store that is not refused.

one_of : (ps : List ℕ) (page : ℕ) → IsOneOf ps page → In page ps
one_of [] page i = i
one_of (p ∷ ps) page (inl e) = inl e
one_of (p ∷ ps) page (inr i) = inr (one_of ps page i)

-- a mapped space shows its pages
pub mapped_shows : (ss : List Space) (page : ℕ) → is_none (mapped_at ss page) ≡ false → (u : FilePage) × (shown_at ss page ≡ Some u)
mapped_shows ss page e = either (mapped_at ss page) refl e
  where
    window : (s : Space) → (o : Option Window) → s.window ≡ o → is_mapped s ≡ true → (w : Window) × (s.window ≡ Some w)
    window s None q t = absurd (cc)
    window s (Some w) q t = (w, q)

    either : (o : Option Space) → mapped_at ss page ≡ o → is_none o ≡ false → (u : FilePage) × (shown_at ss page ≡ Some u)
    either None q t = absurd (cc)
    either (Some s) q t =
        let found = find_in (λ r. is_mapped r && holds r page) ss s q in
        let w = window s s.window refl (and_parts (is_mapped s) (holds s page) found.1).0 in
        (page_through s w.0 page, ap (λ (o : Option Space). option_and_then (λ s. option_map (λ w. page_through s w page) s.window) o) q ∙ ap (λ (o : Option Window). option_map (λ w. page_through s w page) o) w.1)

all_shown : (m : Machine) (address count : ℕ) → 1 ≤ count → count ≤ 512 → no_map m address count ≡ None
    → (k : ℕ) → k < count → (u : FilePage) × (shown_at m.spaces ((address + k) / 512) ≡ Some u)
all_shown m address count some few e k l =
    let touched = reference_touches address count some few in
    let i = one_of (pages_of address count) ((address + k) / 512) (touched.each k l) in
    mapped_shows m.spaces ((address + k) / 512)
    (not_found (λ p. is_none (mapped_at m.spaces p)) (pages_of address count) (map_none why.NoMap (find (λ p. is_none (mapped_at m.spaces p)) (pages_of address count)) e) ((address + k) / 512) i)

-- a call that is not refused changes the machine
pub unrefused : (m : Machine) (call : Call) → refusal m call ≡ None → next m call ≡ change m call
unrefused m call e = ap (λ (o : Option Refusal). if is_none o then change m call else m) e

pub stored_is_shown : StoredIsShown
stored_is_shown m address bytes h typed form e =
    let tests = two_none (no_map m address (length bytes)) (read_only m address (length bytes)) e in
    ap (λ (n : Machine). cells_at n address (length bytes)) (unrefused m (Store address bytes) e)
    ∙ stored bytes address m (fold (mark_page m.spaces) m.unforced (pages_of address (length bytes))) typed h (omega (arith, form.1)) (all_shown m address (length bytes) form.0 (omega (arith, form.1)) tests.0)

bytes_alone : (bytes given : List ℕ) → AgreesWithCells (map byte bytes) given → given ≡ bytes
bytes_alone [] [] all = refl
bytes_alone [] (g ∷ gs) all = absurd all
bytes_alone (b ∷ bs) [] all = absurd all
bytes_alone (b ∷ bs) (g ∷ gs) all = let rest = bytes_alone bs gs all.1 in λ i. all.0 i ∷ rest i

pub stored_is_loaded : StoredIsLoaded
stored_is_loaded m address bytes r h typed form e allowed = right (subst (λ (n : Machine). Allows n (Load address (length bytes)) r) (unrefused m (Store address bytes) e) allowed)
  where
    tests : (no_map m address (length bytes) ≡ None) × (read_only m address (length bytes) ≡ None)
    tests = two_none (no_map m address (length bytes)) (read_only m address (length bytes)) e

    shown : cells_at (change m (Store address bytes)) address (length bytes) ≡ map byte bytes
    shown = ap (λ (n : Machine). cells_at n address (length bytes)) (sym (unrefused m (Store address bytes) e)) ∙ stored_is_shown m address bytes h typed form e

    free : refusal (change m (Store address bytes)) (Load address (length bytes)) ≡ None
    free = ap (λ (o : Option Refusal). first_of (o ∷ [])) tests.0

    right : Allows (change m (Store address bytes)) (Load address (length bytes)) r → r ≡ reply.Bytes bytes
    right a =
        let answer = subst (λ (o : Option Refusal). MatchOption o (Answers (change m (Store address bytes)) (Load address (length bytes)) r) (λ word. r ≡ reply.Refused word)) free a in
        answer.1 ∙ ap (λ (bs : List ℕ). reply.Bytes bs) (bytes_alone bytes answer.0 (subst (λ (cells : List Cell). AgreesWithCells cells answer.0) shown answer.2))
