-- Storing, forcing and closing keep a machine.
use Rattle.std.proofs.Common.{◌≡◌, ℕ, ◌+◌, ◌-◌, ◌<◌, Bool, true, false, not, ◌&&◌, ◌||◌, List, [], ◌∷◌, ◌++◌, filter, length, fold, Option, Some, None, refl, sym, ◌∙◌, ap, subst, arith, eqb, inl, inr}
use Rattle.std.specs.Prelude.{IsTrue, is_none, nat_le, nat_lt, option_map, option_and_then, ◌==◌, if◌then◌else◌}
use Rattle.std.specs.Option.{option_map_or}
use Rattle.std.specs.List.{AllByRecursion, list_any}
use Rattle.std.proofs.lemmas.Bool.{eq-eqb, eqb-true, true≢false, false≢true, and_parts}
use Rattle.std.proofs.lemmas.Bool.Decides.{nat_tests}
use Rattle.flat_machine.specs.declared.call.Call.TheVariants.{Store, ForceOut, Close}
use Rattle.flat_machine.specs.declared.call.Refusal.TheVariants as why
use Rattle.flat_machine.specs.Space.{Space, Window, FilePage, root, holds, is_mapped, is_writable, shows, space_at, mapped_at}
use Rattle.flat_machine.specs.Machine.{Machine, is_shown_writable}
use Rattle.flat_machine.specs.IsMachine.{IsMachine, AreOnce}
use Rattle.flat_machine.specs.At.{page_through, shown_at, pages_of}
use Rattle.flat_machine.specs.Refusal.{refusal, no_map, read_only, is_read_only}
use Rattle.flat_machine.specs.Next.{next, change, is_same_page, mark, mark_page, store_bytes, is_shown_within, without_shown_within}
use Rattle.flat_machine.proofs.Lists.{In, in_any, find_in, not_found}
use Rattle.flat_machine.proofs.TestLemmas.{two_none, map_none, is_there}
use Rattle.flat_machine.proofs.FileLemmas.{fewer_files}
use Rattle.flat_machine.proofs.Cells.{every_append}
use Rattle.flat_machine.proofs.KeepFiles.{stored_bytes}
use Rattle.flat_machine.proofs.StartLemmas.{opened_is_machine}
use Rattle.flat_machine.specs.Start.{opened}
use Rattle.flat_machine.proofs.Keep.{Shown, join, files_of, spaces_of, refused_or, at_there, with_unforced, shown_filter, once_filter}

pub force_keeps : (space : ℕ) (m : Machine) → IsMachine m → IsMachine (next m (ForceOut space))
force_keeps space m h = refused_or m (ForceOut space) h (λ e. at_there m (space_at m.spaces space) (λ s. record m { unforced = without_shown_within m.spaces s m.unforced }) h
    (λ s is. with_unforced m (without_shown_within m.spaces s m.unforced) (shown_filter m.spaces (λ u. not (is_shown_within m.spaces s u)) m.unforced h.unforced_shown)
    (once_filter (λ u. not (is_shown_within m.spaces s u)) m.unforced h.unforced_once) h))

-- the window of a space shows what stands at its pages
through_shown : (s : Space) (w : Window) (page : ℕ) → s.window ≡ Some w → w.writable ≡ true → holds s page ≡ true
    → is_writable s && shows w.file (w.first + (page - s.first)) s ≡ true
through_shown s w page has mode held =
    subst (λ (o : Option Window). is_writable (record s { window = o }) && shows w.file (w.first + (page - s.first)) (record s { window = o }) ≡ true) (sym has)
    (let e : eqb w.file w.file ≡ true = eq-eqb w.file w.file refl in rw (mode, e) (range s.first page s.pages w.first held))
  where
    range : (a p n f : ℕ) → nat_le a p && nat_lt p (a + n) ≡ true → nat_le f (f + (p - a)) && nat_lt (f + (p - a)) (f + n) ≡ true
    range a p n f h = grind (arith, nat_tests)

-- a page at which a writable window stands
abbrev IsStored : List Space → ℕ → Type 0
IsStored ss page = (s : Space) × (mapped_at ss page ≡ Some s) × (is_writable s ≡ true)

marked : (ss : List Space) (us : List FilePage) (page : ℕ) → IsStored ss page → Shown ss us → Shown ss (mark_page ss us page)
marked ss us page at shown = either at.0.window refl
  where
    found : (is_mapped at.0 && holds at.0 page) ≡ true
    found = (find_in (λ s. is_mapped s && holds s page) ss at.0 at.1).1

    add : (u : FilePage) (b : Bool) → is_shown_writable ss u ≡ true → Shown ss (if b then us else us ++ u ∷ [])
    add u true t = shown
    add u false t = every_append (λ v. IsTrue (is_shown_writable ss v)) us (u ∷ []) shown (t, tt)

    either : (o : Option Window) → at.0.window ≡ o → Shown ss (mark_page ss us page)
    either None e = absurd (false≢true (sym (ap (λ (o : Option Window). option_map_or (λ w. w.writable) o false) e) ∙ at.2))
    either (Some w) e =
        let here : shown_at ss page ≡ Some (page_through at.0 w page) =
        ap (λ (o : Option Space). option_and_then (λ s. option_map (λ v. page_through s v page) s.window) o) at.1
        ∙ ap (λ (o : Option Window). option_map (λ v. page_through at.0 v page) o) e in
        let mode : w.writable ≡ true = sym (ap (λ (o : Option Window). option_map_or (λ v. v.writable) o false) e) ∙ at.2 in
        let held = (and_parts (is_mapped at.0) (holds at.0 page) found).1 in
        subst (λ (o : Option FilePage). Shown ss (option_map_or (λ u. mark u us) o us)) (sym here)
        (add (page_through at.0 w page) (list_any (is_same_page (page_through at.0 w page)) us)
        (in_any (λ s. is_writable s && shows w.file (w.first + (page - at.0.first)) s) ss at.0 (find_in (λ s. is_mapped s && holds s page) ss at.0 at.1).0 (through_shown at.0 w page e mode held)))

all_marked : (ss : List Space) (pages : List ℕ) (us : List FilePage) → ((p : ℕ) → In p pages → IsStored ss p) → Shown ss us → Shown ss (fold (mark_page ss) us pages)
all_marked ss [] us f shown = shown
all_marked ss (p ∷ ps) us f shown = all_marked ss ps (mark_page ss us p) (λ q i. f q (inr i)) (marked ss us p (f p (inl refl)) shown)

-- none of a list, and not the one after it
last_not : (v u : FilePage) (ws : List FilePage) → list_any (is_same_page v) ws ≡ false → is_same_page v u ≡ false → list_any (is_same_page v) (ws ++ u ∷ []) ≡ false
last_not v u [] a b = rw b refl
last_not v u (w ∷ ws) a b = either (is_same_page v w) a (last_not v u ws)
  where
    either : (c : Bool) → c || list_any (is_same_page v) ws ≡ false → (list_any (is_same_page v) ws ≡ false → is_same_page v u ≡ false → list_any (is_same_page v) (ws ++ u ∷ []) ≡ false) → c || list_any (is_same_page v) (ws ++ u ∷ []) ≡ false
    either true e more = absurd (true≢false e)
    either false e more = more e b

-- a page is added where it is not there
added_once : (u : FilePage) (us : List FilePage) → list_any (is_same_page u) us ≡ false → AreOnce us → AreOnce (us ++ u ∷ [])
added_once u [] e h = (refl, tt)
added_once u (v ∷ vs) e h =
    let parts = neither (is_same_page u v) (list_any (is_same_page u) vs) e in
    (last_not v u vs h.0 (other u v parts.0), added_once u vs parts.1 h.1)
  where
    neither : (a b : Bool) → a || b ≡ false → (a ≡ false) × (b ≡ false)
    neither true b e = absurd (true≢false e)
    neither false b e = (refl, e)

    other : (u v : FilePage) → is_same_page u v ≡ false → is_same_page v u ≡ false
    other u v e = either (is_same_page v u) refl
      where
        same : is_same_page v u ≡ true → is_same_page u v ≡ true
        same t =
            let p = and_parts (v.file == u.file) (v.page == u.page) t in
            both (u.file == v.file) (u.page == v.page) (eq-eqb u.file v.file (sym (eqb-true v.file u.file p.0))) (eq-eqb u.page v.page (sym (eqb-true v.page u.page p.1)))
          where
            both : (a b : Bool) → a ≡ true → b ≡ true → a && b ≡ true
            both true b x y = y
            both false b x y = absurd (true≢false (sym x))

        either : (b : Bool) → is_same_page v u ≡ b → is_same_page v u ≡ false
        either true t = absurd (true≢false (sym (same t) ∙ e))
        either false t = t

marked_once : (ss : List Space) (us : List FilePage) (page : ℕ) → AreOnce us → AreOnce (mark_page ss us page)
marked_once ss us page h = either (shown_at ss page)
  where
    add : (u : FilePage) (b : Bool) → list_any (is_same_page u) us ≡ b → AreOnce (if b then us else us ++ u ∷ [])
    add u true e = h
    add u false e = added_once u us e h

    either : (o : Option FilePage) → AreOnce (option_map_or (λ u. mark u us) o us)
    either None = h
    either (Some u) = add u (list_any (is_same_page u) us) refl

all_once : (ss : List Space) (pages : List ℕ) (us : List FilePage) → AreOnce us → AreOnce (fold (mark_page ss) us pages)
all_once ss [] us h = h
all_once ss (p ∷ ps) us h = all_once ss ps (mark_page ss us p) (marked_once ss us p h)

pub store_keeps : (address : ℕ) (bytes : List ℕ) (m : Machine) → AllByRecursion (λ b. b < 256) bytes → IsMachine m → IsMachine (next m (Store address bytes))
store_keeps address bytes m fit h = refused_or m (Store address bytes) h kept
  where
    writable : (s : Space) (o : Option Space) → o ≡ Some s → option_map_or (λ t. not (is_writable t)) o false ≡ false → is_writable s ≡ true
    writable s o e f = either (is_writable s) (ap (λ (p : Option Space). option_map_or (λ t. not (is_writable t)) p false) (sym e) ∙ f)
      where
        either : (b : Bool) → not b ≡ false → b ≡ true
        either true q = refl
        either false q = absurd (true≢false q)

    kept : refusal m (Store address bytes) ≡ None → IsMachine (change m (Store address bytes))
    kept e =
        let pages = pages_of address (length bytes) in
        let tests = two_none (no_map m address (length bytes)) (read_only m address (length bytes)) e in
        let mapped = not_found (λ p. is_none (mapped_at m.spaces p)) pages (map_none why.NoMap _ tests.0) in
        let open_ = not_found (is_read_only m.spaces) pages (map_none why.ReadOnly _ tests.1) in
        with_unforced (record m { files = store_bytes m.spaces address bytes m.files }) (fold (mark_page m.spaces) m.unforced pages)
        (all_marked m.spaces pages m.unforced (λ p i. let s = is_there (mapped_at m.spaces p) (mapped p i) in (s.0, s.1, writable s.0 (mapped_at m.spaces p) s.1 (open_ p i))) h.unforced_shown)
        (all_once m.spaces pages m.unforced h.unforced_once)
        (stored_bytes m.spaces bytes address m fit h)

pub close_keeps : (m : Machine) → IsMachine m → IsMachine (next m Close)
close_keeps m h =
    join (record m { files = filter (λ f. f.permanent) m.files; spaces = root ∷ []; unforced = [] }) h.serial_fits h.counter_fits
    (fewer_files m.serial m.counter m.capacity (λ f. f.permanent) m.files (files_of m h))
    (spaces_of (opened 1 1 0) (opened_is_machine 1 1 0 (omega arith) (omega arith) (omega arith) (omega arith))) ((λ n. absurd (n refl), tt), tt) (tt, tt) tt tt
