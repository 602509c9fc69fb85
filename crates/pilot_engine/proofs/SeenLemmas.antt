-- What windows show of the files of a machine.
use Rattle.std.proofs.Common.{◌≡◌, inl, inr, ℕ, ◌+◌, ◌≤◌, Bool, true, false, ◌&&◌, List, Option, Some, None, refl, sym, ◌∙◌, ap, arith, eqb}
use Rattle.std.specs.Prelude.{find, nat_le, nat_lt, option_map, ◌==◌}
use Rattle.std.specs.Option.{option_map_or}
use Rattle.std.proofs.lemmas.Bool.{and_parts, ne_eqb, eq-eqb, eqb-true, true≢false, cases_eq}
use Rattle.std.proofs.lemmas.Bool.Decides.{nat_tests}
use Rattle.std.proofs.lemmas.Option.{same_Some, none-some}
use Rattle.labelled_disk.specs.File.{File, size, file_at}
use Rattle.flat_machine.specs.declared.call.Refusal.TheVariants as why
use Rattle.flat_machine.specs.declared.space.Space.{Space}
use Rattle.flat_machine.specs.declared.space.Window.{Window}
use Rattle.flat_machine.specs.IsMachine.{IsMachine}
use Rattle.labelled_disk.proofs.AscendingLemmas.{at_id, each_at}
use Rattle.flat_machine.specs.Machine.{Machine, IsFileId, is_anonymous, shares_anonymous}
use Rattle.flat_machine.specs.Refusal.{refusal, file_mapped, lowest_handle}
use Rattle.flat_machine.specs.declared.call.Call.TheVariants as call
use Rattle.flat_machine.specs.Space.{has_window, shows}
use Rattle.flat_machine.proofs.FileLemmas.{window_file}
use Rattle.flat_machine.proofs.Keep.{window_at}
use Rattle.flat_machine.proofs.Lists.{In, any_not, find_in, in_any, look_up}
use Rattle.flat_machine.proofs.SpaceLemmas.{two_at}
use Rattle.flat_machine.proofs.TestLemmas.{not_shown, window_test}
use Rattle.session_words.specs.FrameLaws.{is_shown}
use Rattle.space_tables.specs.declared.shown.Shown.{Shown}
use Rattle.space_tables.specs.Shows as tables
use Rattle.space_tables.specs.Shows.{IsFirstWith, window_of}
use Rattle.pilot_engine.specs.Seen.{IsSeenBy}
use Rattle.pilot_engine.proofs.RefusalLemmas.{delete_mapped, immutable_mapped}

-- a test of a window fails where there is none
fails_window : (test : Window → Bool) (s : Space) → ((w : Window) → s.window ≡ Some w → test w ≡ false) → has_window test s ≡ false
fails_window test s fails = by s.window refl
  where
    by : (o : Option Window) → s.window ≡ o → has_window test s ≡ false
    by None is = ap (λ (o : Option Window). option_map_or test o false) is
    by (Some w) is = window_test test s w is ∙ fails w is

passes_window : (test : Window → Bool) (s : Space) → has_window test s ≡ true → (w : Window) × (s.window ≡ Some w) × (test w ≡ true)
passes_window test s passes = by s.window refl
  where
    by : (o : Option Window) → s.window ≡ o → (w : Window) × (s.window ≡ Some w) × (test w ≡ true)
    by None is = absurd (true≢false (sym passes ∙ ap (λ (o : Option Window). option_map_or test o false) is))
    by (Some w) is = (w, is, sym (window_test test s w is) ∙ passes)

and_first : (a b c : Bool) → a ≡ false → a && b && c ≡ false
and_first true b c is = absurd (true≢false is)
and_first false b c is = refl

and_last : (a b c : Bool) → c ≡ false → a && b && c ≡ false
and_last true true c is = is
and_last true false c is = refl
and_last false b c is = refl

some_lowest : (test : Space → Bool) (ss : List Space) (handle : ℕ) → option_map why.FileMapped (lowest_handle test ss) ≡ Some (why.FileMapped handle) → (s : Space) × (find test ss ≡ Some s)
some_lowest test ss handle is = by (find test ss) refl is
  where
    by : (o : Option Space) → find test ss ≡ o → option_map why.FileMapped (option_map (λ (s : Space). s.handle) o) ≡ Some (why.FileMapped handle) → (s : Space) × (find test ss ≡ Some s)
    by None e is = absurd (none-some (why.FileMapped handle) is)
    by (Some s) e is = (s, e)

module _ (m : Machine) (id : ℕ) (unseen : file_mapped m id (λ w. true) ≡ None) where
  -- where no window shows the file, none shows a page of it
  pub unseen_pages : (page : ℕ) → is_shown m.spaces id page ≡ false
  unseen_pages page = any_not (shows id page) m.spaces (λ s i. fails_window (λ w. w.file == id && nat_le w.first page && nat_lt page (w.first + s.pages)) s
      (λ w is. and_first (w.file == id) (nat_le w.first page) (nat_lt page (w.first + s.pages)) (ne_eqb w.file id (not_shown m id unseen s w i is))))

  -- nor is it anonymous
  pub unseen_named : is_anonymous m.spaces id ≡ false
  unseen_named = any_not (has_window (λ w. w.anonymous && w.file == id)) m.spaces (λ s i. fails_window (λ w. w.anonymous && w.file == id) s
      (λ w is. last w.anonymous (w.file == id) (ne_eqb w.file id (not_shown m id unseen s w i is))))
    where
      last : (a b : Bool) → b ≡ false → a && b ≡ false
      last true b is = is
      last false b is = refl

module _ (m : Machine) (h : IsMachine m) where
  -- windows show files that are there
  pub missing_pages : (id page : ℕ) → file_at m.files id ≡ None → is_shown m.spaces id page ≡ false
  missing_pages id page none = any_not (shows id page) m.spaces (λ s i. fails_window (λ w. w.file == id && nat_le w.first page && nat_lt page (w.first + s.pages)) s
      (λ w is.
      let f = window_file m.files s.pages w (window_at m.files m.spaces h.whole_windows s w i is) in
      and_first (w.file == id) (nat_le w.first page) (nat_lt page (w.first + s.pages)) (ne_eqb w.file id (λ e. none-some f.0 (sym none ∙ ap (file_at m.files) (sym e) ∙ f.1)))))

  -- and pages that they have
  pub pages_past : (id page : ℕ) → ((f : File) → file_at m.files id ≡ Some f → size f ≤ page) → is_shown m.spaces id page ≡ false
  pages_past id page short = any_not (shows id page) m.spaces (λ s i. fails_window (λ w. w.file == id && nat_le w.first page && nat_lt page (w.first + s.pages)) s
      (λ w is.
      let f = window_file m.files s.pages w (window_at m.files m.spaces h.whole_windows s w i is) in
      elim (cases_eq w.file id) [
        | inl e ↦
            let less = short f.0 (ap (file_at m.files) (sym e) ∙ f.1) in
            let most = f.2 in
            and_last (w.file == id) (nat_le w.first page) (nat_lt page (w.first + s.pages)) (let a : nat_lt page (w.first + s.pages) ≡ false = grind (arith, nat_tests) in a)
        | inr n ↦ and_first (w.file == id) (nat_le w.first page) (nat_lt page (w.first + s.pages)) (ne_eqb w.file id n)
      ]))

  -- a free label names no file
  pub nobody : file_at m.files 0 ≡ None
  nobody = either (file_at m.files 0) refl
    where
      either : (o : Option File) → file_at m.files 0 ≡ o → o ≡ None
      either None is = refl
      either (Some f) is =
          let high = (each_at (λ g. IsFileId m.serial m.counter g.id) m.files h.ids_given 0 f is).above_reserved in
          let same = at_id m.files 0 f is in
          absurd (omega (arith, high, same))

  -- What the first window that shows a file says of it.
  module _ (id handle : ℕ) (shown : Shown) (first : IsFirstWith (tables.shows id false) m.spaces (Some (handle, shown))) where
    of_file : shown.id ≡ id
    of_file =
        let at = find_in (tables.shows id false) m.spaces first.0 first.1 in
        eqb-true shown.id id (and_parts (eqb shown.id id) true (sym (window_test (λ w. w.file == id && true) first.0 (window_of shown) first.3) ∙ at.1)).0

    pub hidden_by : shown.anonymous ≡ true → is_anonymous m.spaces id ≡ true
    hidden_by anonymous =
        let at = find_in (tables.shows id false) m.spaces first.0 first.1 in
        in_any (has_window (λ w. w.anonymous && w.file == id)) m.spaces first.0 at.0
        (window_test (λ w. w.anonymous && w.file == id) first.0 (window_of shown) first.3 ∙ let e : eqb shown.id id ≡ true = eq-eqb shown.id id of_file in rw (anonymous, e) refl)

    pub seen_by : shown.anonymous ≡ false → IsSeenBy m id (Some handle)
    seen_by other = record {
      named = any_not (has_window (λ w. w.anonymous && w.file == id)) m.spaces (λ t i. either t i (has_window (λ w. w.anonymous && w.file == id) t) refl);
      mapped = ap (λ (o : Option Space). option_map why.FileMapped (option_map (λ (s : Space). s.handle) o)) first.1 ∙ ap (λ (n : ℕ). Some (why.FileMapped n)) first.2;
    }
      where
        at : In first.0 m.spaces × (tables.shows id false first.0 ≡ true)
        at = find_in (tables.shows id false) m.spaces first.0 first.1

        -- another anonymous window would show the file that this one shows
        either : (t : Space) → In t m.spaces → (b : Bool) → has_window (λ w. w.anonymous && w.file == id) t ≡ b → b ≡ false
        either t i false is = refl
        either t i true is =
            let w = passes_window (λ w. w.anonymous && w.file == id) t is in
            let parts = and_parts w.0.anonymous (eqb w.0.file id) w.2 in
            elim (cases_eq t.handle first.0.handle) [
              | inl same ↦
                  let one : t ≡ first.0 = same_Some t first.0 (sym (look_up (λ (s : Space). s.handle) m.spaces h.handles_rise t i first.0.handle same) ∙ look_up (λ (s : Space). s.handle) m.spaces h.handles_rise first.0 at.0 first.0.handle refl) in
                  let window : w.0 ≡ window_of shown = same_Some w.0 (window_of shown) (sym w.1 ∙ ap (λ (s : Space). s.window) one ∙ first.3) in
                  absurd (true≢false (sym parts.0 ∙ ap (λ (v : Window). v.anonymous) window ∙ other))
              | inr apart ↦
                  let alone : shares_anonymous t first.0 ≡ false = two_at _ m.spaces h.anonymous_alone t first.0 i at.0 apart in
                  let shares : shares_anonymous t first.0 ≡ true = window_test (λ v. v.anonymous && has_window (λ u. u.file == v.file) first.0) t w.0 w.1
                  ∙ let e : eqb shown.id w.0.file ≡ true = eq-eqb shown.id w.0.file (of_file ∙ sym (eqb-true w.0.file id parts.1)) in
                  let there : has_window (λ u. u.file == w.0.file) first.0 ≡ true = window_test (λ u. u.file == w.0.file) first.0 (window_of shown) first.3 ∙ e in
                  rw (parts.0, there) refl
                  in
                  absurd (true≢false (sym shares ∙ alone))
            ]

  -- no window shows it
  pub seen_by_none : (id : ℕ) → IsFirstWith (tables.shows id false) m.spaces None → IsSeenBy m id None
  seen_by_none id none = record { named = unseen_named m id unmapped; mapped = unmapped }
    where
      unmapped : file_mapped m id (λ w. true) ≡ None
      unmapped = ap (λ (o : Option Space). option_map why.FileMapped (option_map (λ (s : Space). s.handle) o)) none

  -- a file that a space shows isn't deleted
  pub delete_seen : (id handle : ℕ) → IsSeenBy m id (Some handle) → refusal m (call.Delete id) ≡ Some (why.FileMapped handle)
  delete_seen id handle seen = let f = seen_file id handle seen in delete_mapped m id f.0 f.1 seen.named (why.FileMapped handle) seen.mapped
    where
      -- there is such a file
      seen_file : (id handle : ℕ) → IsSeenBy m id (Some handle) → (f : File) × (file_at m.files id ≡ Some f)
      seen_file id handle seen =
          let first = some_lowest (has_window (λ w. w.file == id && true)) m.spaces handle seen.mapped in
          let at = find_in (has_window (λ w. w.file == id && true)) m.spaces first.0 first.1 in
          let w = passes_window (λ w. w.file == id && true) first.0 at.1 in
          let f = window_file m.files first.0.pages w.0 (window_at m.files m.spaces h.whole_windows first.0 w.0 at.0 w.1) in
          (f.0, ap (file_at m.files) (sym (eqb-true w.0.file id (and_parts (eqb w.0.file id) true w.2).0)) ∙ f.1)

-- Writable windows.

pub written_by : (m : Machine) (id handle : ℕ) (shown : Shown) → IsFirstWith (tables.shows id true) m.spaces (Some (handle, shown)) → file_mapped m id (λ w. w.writable) ≡ Some (why.FileMapped handle)
written_by m id handle shown first =
    ap (λ (o : Option Space). option_map why.FileMapped (option_map (λ (s : Space). s.handle) o)) first.1 ∙ ap (λ (n : ℕ). Some (why.FileMapped n)) first.2

pub written_by_none : (m : Machine) (id : ℕ) → IsFirstWith (tables.shows id true) m.spaces None → file_mapped m id (λ w. w.writable) ≡ None
written_by_none m id none = ap (λ (o : Option Space). option_map why.FileMapped (option_map (λ (s : Space). s.handle) o)) none

-- a file that a writable window shows doesn't become immutable
pub immutable_seen : (m : Machine) → IsMachine m → (id handle : ℕ) (shown : Shown) → is_anonymous m.spaces id ≡ false → IsFirstWith (tables.shows id true) m.spaces (Some (handle, shown)) → refusal m (call.MakeImmutable id) ≡ Some (why.FileMapped handle)
immutable_seen m h id handle shown named first =
    let at = find_in (tables.shows id true) m.spaces first.0 first.1 in
    let test : eqb shown.id id && shown.writable ≡ true = sym (window_test (λ w. w.file == id && w.writable) first.0 (window_of shown) first.3) ∙ at.1 in
    let f = window_file m.files first.0.pages (window_of shown) (window_at m.files m.spaces h.whole_windows first.0 (window_of shown) at.0 first.3) in
    immutable_mapped m id f.0 (ap (file_at m.files) (sym (eqb-true shown.id id (and_parts (eqb shown.id id) shown.writable test).0)) ∙ f.1) named (why.FileMapped handle) (written_by m id handle shown first)
