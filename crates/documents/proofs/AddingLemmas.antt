-- One file more in a machine, and calls on it.
use Rattle.std.proofs.Common.{◌≡◌, ◌≢◌, ◌∙◌, ◌⊎◌, inl, inr, ℕ, ◌+◌, ◌*◌, Bool, true, false, not, ◌&&◌, ◌||◌, cond, List, [], ◌∷◌, filter, refl, sym, ap, subst, Option, Some, None, eqb}
use Rattle.std.specs.Prelude.{find, nat_le, nat_lt, is_none, option_map, option_and_then, ◌==◌, if◌then◌else◌, IsSomeAnd, IfSome}
use Rattle.std.specs.Option.{option_map_or}
use Rattle.std.specs.Bool.{then_some}
use Rattle.std.specs.List.{list_any, AllByRecursion}
use Rattle.std.proofs.lemmas.Bool.{eqb-true, eqb-false, eq-eqb, ne_eqb, true≢false, false≢true, and_parts}
use Rattle.std.proofs.lemmas.Option.{none-some}
use Rattle.labelled_disk.proofs.AscendingLemmas.{at_put}
use Rattle.flat_machine.specs.declared.call.Call.TheVariants.{Create, Delete, SetSize, MakePermanent}
use Rattle.flat_machine.specs.declared.call.Refusal.{Refusal}
use Rattle.flat_machine.specs.declared.call.Refusal.TheVariants as why
use Rattle.flat_machine.specs.declared.space.Space.{Space}
use Rattle.flat_machine.specs.declared.space.Window.{Window}
use Rattle.flat_machine.specs.declared.space.FilePage.{FilePage}
use Rattle.flat_machine.specs.File.{File, file_at, put_file}
use Rattle.flat_machine.specs.Space.{has_window, is_writable, shows}
use Rattle.flat_machine.specs.Machine.{Machine, IsWindow, is_anonymous, nameable}
use Rattle.flat_machine.specs.IsMachine.{IsMachine}
use Rattle.flat_machine.specs.Refusal.{refusal, first_of, file_mapped, lowest_handle, no_file}
use Rattle.flat_machine.specs.Next.{next, new_id, without_file, change_file, resized}
use Rattle.flat_machine.proofs.Lists.{In, all_in, any_in, any_not, find_in, not_any}
use Rattle.flat_machine.proofs.FileLemmas.{window_file}
use Rattle.flat_machine.proofs.Keep.{window_at}
use Rattle.flat_machine.proofs.KeepNew.{none_new}
use Rattle.flat_machine.proofs.StoreLemmas.{unrefused}
use Rattle.documents.specs.Pieces.{adding, after_store, forced, grown, marked, written}
use Rattle.documents.specs.Stands.{IsFresh}
use Rattle.documents.proofs.FileRows.{change_put, without_put}

-- The next identifier is fresh.

no_window : (m : Machine) → IsMachine m → (s : Space) → In s m.spaces → (o : Option Window) → s.window ≡ o → option_map_or (λ w. w.file == new_id m) o false ≡ false
no_window m h s i None is = refl
no_window m h s i (Some w) is = ne_eqb w.file (new_id m) (λ e.
    let there = window_file m.files s.pages w (window_at m.files m.spaces h.whole_windows s w i is) in
    none-some there.0 (sym (none_new m h) ∙ ap (λ (n : ℕ). file_at m.files n) (sym e) ∙ there.1))

nothing_shown : (m : Machine) → IsMachine m → (s : Space) → In s m.spaces → has_window (λ w. w.file == new_id m) s ≡ false
nothing_shown m h s i = no_window m h s i s.window refl

weaker : (test : Window → Bool) (more : Window → Bool) → ((w : Window) → test w ≡ false → more w ≡ false) → (s : Space) → has_window test s ≡ false → has_window more s ≡ false
weaker test more k s none = either s.window none
  where
    either : (o : Option Window) → option_map_or test o false ≡ false → option_map_or more o false ≡ false
    either None e = refl
    either (Some w) e = k w e

left_of : (a b : Bool) → a ≡ false → a && b ≡ false
left_of false b e = refl
left_of true b e = absurd (true≢false e)

right_of : (a b : Bool) → b ≡ false → a && b ≡ false
right_of false b e = refl
right_of true b e = e

pub fresh : (m : Machine) → IsMachine m → IsFresh m (new_id m)
fresh m h = record {
  none = none_new m h;
  unseen = ap (λ (o : Option Space). option_map why.FileMapped (option_map (λ s. s.handle) o)) (nowhere (find (has_window (λ w. w.file == new_id m && true)) m.spaces) refl);
  not_anonymous = any_not (has_window (λ w. w.anonymous && w.file == new_id m)) m.spaces (λ s i.
      weaker (λ w. w.file == new_id m) (λ w. w.anonymous && w.file == new_id m) (λ w e. right_of w.anonymous (w.file == new_id m) e) s (nothing_shown m h s i));
  nothing_unforced = any_not (λ u. u.file == new_id m) m.unforced (λ u i. ne_eqb u.file (new_id m) (unforced u i));
}
  where
    nowhere : (o : Option Space) → find (has_window (λ w. w.file == new_id m && true)) m.spaces ≡ o → find (has_window (λ w. w.file == new_id m && true)) m.spaces ≡ None
    nowhere None e = e
    nowhere (Some s) e =
        let found = find_in (has_window (λ w. w.file == new_id m && true)) m.spaces s e in
        absurd (true≢false (sym found.1 ∙ weaker (λ w. w.file == new_id m) (λ w. w.file == new_id m && true) (λ w e. left_of (w.file == new_id m) true e) s (nothing_shown m h s found.0)))

    shown_file : (s : Space) (u : FilePage) (o : Option Window)
        → option_map_or (λ w. w.file == u.file && nat_le w.first u.page && nat_lt u.page (w.first + s.pages)) o false ≡ true
        → option_map_or (λ w. w.file == new_id m) o false ≡ false → u.file ≢ new_id m
    shown_file s u None t f e = false≢true t
    shown_file s u (Some w) t f e =
        let parts = and_parts (w.file == u.file && nat_le w.first u.page) (nat_lt u.page (w.first + s.pages)) t in
        let inner = and_parts (w.file == u.file) (nat_le w.first u.page) parts.0 in
        eqb-false w.file (new_id m) f (eqb-true w.file u.file inner.0 ∙ e)

    unforced : (u : FilePage) → In u m.unforced → u.file ≢ new_id m
    unforced u i =
        let r = any_in (λ s. is_writable s && shows u.file u.page s) m.spaces (all_in _ m.unforced h.unforced_shown u i) in
        shown_file r.0 u r.0.window (and_parts (is_writable r.0) (shows u.file u.page r.0) r.2).1 (nothing_shown m h r.0 r.1)

-- Of a fresh identifier nothing is unforced.
forced_none : (id page pages : ℕ) (us : List FilePage) → list_any (λ u. u.file == id) us ≡ false → forced id page pages us ≡ us
forced_none id page pages [] none = refl
forced_none id page pages (u ∷ us) none = either (u.file == id) refl none (forced_none id page pages us)
  where
    either : (b : Bool) → u.file == id ≡ b → b || list_any (λ v. v.file == id) us ≡ false → (list_any (λ v. v.file == id) us ≡ false → forced id page pages us ≡ us)
        → forced id page pages (u ∷ us) ≡ u ∷ us
    either true e q f = absurd (true≢false q)
    either false e q f =
        let other : id == u.file ≡ false = ne_eqb id u.file (λ s. eqb-false u.file id e (sym s)) in
        ap (λ (b : Bool). cond (not (b && nat_le page u.page && nat_lt u.page (page + pages))) (u ∷ forced id page pages us) (forced id page pages us)) other
        ∙ ap (λ (rest : List FilePage). u ∷ rest) (f q)

module _ (m : Machine) (f : File) (id : ℕ) (is_fresh : IsFresh m id) (named : f.id ≡ id) where
  -- bytes are stored into it
  pub stored_adding : (page pages : ℕ) (bytes : List ℕ) → after_store id page pages bytes (adding f m) ≡ adding (written (512 * page) bytes f) m
  stored_adding page pages bytes =
      let files = change_put f id named (written (512 * page) bytes) (λ x. refl) m.files is_fresh.none in
      let left = forced_none id page pages m.unforced is_fresh.nothing_unforced in
      λ i. record m { files = files i; counter = m.counter + 1; unforced = left i }

  -- it gets another size
  pub sized_adding : (pages : ℕ) → refusal (adding f m) (SetSize id pages) ≡ None → next (adding f m) (SetSize id pages) ≡ adding (record f { pages = grown pages f.pages }) m
  sized_adding pages free =
      unrefused (adding f m) (SetSize id pages) free
      ∙ ap (λ (fs : List File). record (adding f m) { files = fs }) (change_put f id named (resized pages) (λ x. refl) m.files is_fresh.none)

  -- it is marked
  pub marked_adding : refusal (adding f m) (MakePermanent id) ≡ None → next (adding f m) (MakePermanent id) ≡ adding (marked f) m
  marked_adding free =
      unrefused (adding f m) (MakePermanent id) free
      ∙ ap (λ (fs : List File). record (adding f m) { files = fs }) (change_put f id named (λ x. record x { permanent = true }) (λ x. refl) m.files is_fresh.none)

  -- it is looked up
  pub at_adding : file_at (put_file f m.files) id ≡ Some f
  at_adding = at_put f m.files id ∙ ap (λ (b : Bool). cond b (Some f) (file_at m.files id)) (eq-eqb f.id id named)

  -- it goes
  pub delete_free : refusal (adding f m) (Delete id) ≡ None
  delete_free =
      ap (λ (b : Bool). first_of (then_some (is_none (if b then None else file_at (put_file f m.files) id)) why.File ∷ file_mapped (adding f m) id (λ w. true) ∷ [])) is_fresh.not_anonymous
      ∙ ap (λ (o : Option File). first_of (then_some (is_none o) why.File ∷ file_mapped (adding f m) id (λ w. true) ∷ [])) at_adding
      ∙ ap (λ (o : Option Refusal). first_of (None ∷ o ∷ [])) is_fresh.unseen

  pub deleted_adding : next (adding f m) (Delete id) ≡ record m { counter = m.counter + 1 }
  deleted_adding =
      unrefused (adding f m) (Delete id) delete_free
      ∙ ap (λ (fs : List File). record (adding f m) { files = fs }) (without_put f id named m.files is_fresh.none)
