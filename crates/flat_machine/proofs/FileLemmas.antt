-- What holds of a machine's files, and edits that keep it.
use Rattle.std.proofs.Common.{◌≡◌, ◌≢◌, ℕ, ◌+◌, ◌≤◌, Bool, true, false, cond, List, [], ◌∷◌, map, filter, Option, Some, None, refl, sym, ◌∙◌, ap, subst, arith, eqb}
use Rattle.std.specs.Prelude.{IfSome, IsSomeAnd, IsTrue, IsFalse, option_map, nat_lt, ◌==◌, if◌then◌else◌}
use Rattle.std.specs.List.{AllByRecursion}
use Rattle.std.specs.Option.{option_map_or}
use Rattle.std.proofs.lemmas.Bool.{eq-eqb, ne_eqb}
use Rattle.std.proofs.lemmas.List.Sums.{sum_by-cons}
use Rattle.labelled_disk.specs.Ascending.{AreAscending}
use Rattle.labelled_disk.proofs.AscendingLemmas.{at_put, ascending_put}
use Rattle.labelled_disk.proofs.WriteLemmas.{room_changed}
use Rattle.flat_machine.specs.File.{File, size, file_at, room_of, total_room, put_file}
use Rattle.flat_machine.specs.Space.{Window}
use Rattle.flat_machine.specs.Machine.{IsFile, IsFileId, IsWindow}
use Rattle.flat_machine.specs.Next.{change_file}
use Rattle.flat_machine.proofs.Lists.{In, all_in, in_all, in_filter, in_map, looked_up, ascending_filter, ascending_map}

-- what holds of every machine, of its files alone
pub record AreFiles (serial counter capacity : ℕ) (fs : List File) : Type 0 where
  pub rise : AreAscending fs
  pub given : AllByRecursion (λ f. IsFileId serial counter f.id) fs
  pub whole : AllByRecursion IsFile fs
  pub room : total_room fs ≤ capacity

-- some files are taken out

room_filter : (p : File → Bool) (fs : List File) → total_room (filter p fs) ≤ total_room fs
room_filter p [] = omega arith
room_filter p (f ∷ fs) = either (p f) (room_filter p fs)
  where
    either : (b : Bool) → total_room (filter p fs) ≤ total_room fs → total_room (cond b (f ∷ filter p fs) (filter p fs)) ≤ total_room (f ∷ fs)
    either true h = omega (arith, h, sum_by-cons room_of f (filter p fs), sum_by-cons room_of f fs)
    either false h = omega (arith, h, sum_by-cons room_of f fs)

module _ (serial counter capacity : ℕ) where
  pub fewer_files : (p : File → Bool) (fs : List File) → AreFiles serial counter capacity fs → AreFiles serial counter capacity (filter p fs)
  fewer_files p fs h = record {
    rise = ascending_filter (λ f. f.id) p fs h.rise;
    given = in_all _ (filter p fs) (λ f i. all_in _ fs h.given f (in_filter p fs f i).0);
    whole = in_all _ (filter p fs) (λ f i. all_in _ fs h.whole f (in_filter p fs f i).0);
    room = omega (arith, room_filter p fs, h.room);
  }

  -- each file is changed, and keeps its identifier
  pub changed_files : (g : File → File) → ((f : File) → (g f).id ≡ f.id) → (fs : List File) → ((f : File) → In f fs → IsFile f → IsFile (g f))
      → total_room (map g fs) ≤ capacity → AreFiles serial counter capacity fs → AreFiles serial counter capacity (map g fs)
  changed_files g ids fs kept room h = record {
    rise = ascending_map (λ f. f.id) g ids fs h.rise;
    given = in_all _ (map g fs) (λ y i. let r = in_map g fs y i in
        subst (λ (f : File). IsFileId serial counter f.id) r.2 (subst (λ (n : ℕ). IsFileId serial counter n) (sym (ids r.0)) (all_in _ fs h.given r.0 r.1)));
    whole = in_all _ (map g fs) (λ y i. let r = in_map g fs y i in subst IsFile r.2 (kept r.0 r.1 (all_in _ fs h.whole r.0 r.1)));
    room = room;
  }

-- what is looked up among changed files
pub look_up_changed : (g : File → File) → ((f : File) → (g f).id ≡ f.id) → (fs : List File) (id : ℕ) → file_at (map g fs) id ≡ option_map g (file_at fs id)
look_up_changed g ids [] id = refl
look_up_changed g ids (f ∷ fs) id = ap (λ (n : ℕ). cond (n == id) (Some (g f)) (file_at (map g fs) id)) (ids f) ∙ found (f.id == id) (look_up_changed g ids fs id)
  where
    found : (b : Bool) → file_at (map g fs) id ≡ option_map g (file_at fs id)
        → cond b (Some (g f)) (file_at (map g fs) id) ≡ option_map g (cond b (Some f) (file_at fs id))
    found true e = refl
    found false e = e

pub found_changed : (g : File → File) → ((f : File) → (g f).id ≡ f.id) → (fs : List File) (id : ℕ) (f : File) → file_at fs id ≡ Some f → file_at (map g fs) id ≡ Some (g f)
found_changed g ids fs id f e = look_up_changed g ids fs id ∙ ap (λ (o : Option File). option_map g o) e

-- a change that keeps each size keeps the room
pub same_room : (g : File → File) → ((f : File) → size (g f) ≡ size f) → (fs : List File) → total_room (map g fs) ≡ total_room fs
same_room g k [] = refl
same_room g k (f ∷ fs) = omega (arith, same_room g k fs, k f, sum_by-cons room_of f fs, sum_by-cons room_of (g f) (map g fs))

-- one file is changed

pub one_id : (id : ℕ) (c : File → File) → ((f : File) → (c f).id ≡ f.id) → (f : File) → (if f.id == id then c f else f).id ≡ f.id
one_id id c ids f = either (f.id == id)
  where
    either : (b : Bool) → (if b then c f else f).id ≡ f.id
    either true = ids f
    either false = refl

pub changed_here : (id : ℕ) (c : File → File) (f : File) → f.id ≡ id → (if f.id == id then c f else f) ≡ c f
changed_here id c f e = let t : eqb f.id id ≡ true = eq-eqb f.id id e in ap (λ (b : Bool). if b then c f else f) t

pub unchanged : (id : ℕ) (c : File → File) (f : File) → f.id ≢ id → (if f.id == id then c f else f) ≡ f
unchanged id c f n = let t : eqb f.id id ≡ false = ne_eqb f.id id n in ap (λ (b : Bool). if b then c f else f) t

-- the room is that of before, but for the one file
pub room_of_one : (id : ℕ) (c : File → File) → ((f : File) → (c f).id ≡ f.id) → (fs : List File) (f : File) → AreAscending fs → file_at fs id ≡ Some f
    → total_room (change_file id c fs) + size f ≡ total_room fs + size (c f)
room_of_one id c ids fs f rise is =
    let g : File → File = λ x. if x.id == id then c x else x in
    let found = look_up_changed g (one_id id c ids) fs in
    let same = room_changed false 0 0 fs (map g fs) id rise (ascending_map (λ x. x.id) g (one_id id c ids) fs rise) (λ j n. found j ∙ stays j n (file_at fs j) refl) in
    let old : option_map_or room_of (file_at fs id) 0 ≡ room_of f = ap (λ (o : Option File). option_map_or room_of o 0) is in
    let now : option_map_or room_of (file_at (map g fs) id) 0 ≡ room_of (c f) =
    ap (λ (o : Option File). option_map_or room_of o 0) (found_changed g (one_id id c ids) fs id f is)
    ∙ ap room_of (changed_here id c f (looked_up (λ x. x.id) fs id f is).1) in
    omega (arith, same, old, now)
  where
    stays : (j : ℕ) → j ≢ id → (o : Option File) → file_at fs j ≡ o → option_map (λ x. if x.id == id then c x else x) (file_at fs j) ≡ file_at fs j
    stays j n None e = ap (λ (o : Option File). option_map (λ x. if x.id == id then c x else x) o) e ∙ sym e
    stays j n (Some x) e =
        let at = (looked_up (λ y. y.id) fs j x e).1 in
        ap (λ (o : Option File). option_map (λ x. if x.id == id then c x else x) o) e
        ∙ ap Some (unchanged id c x (λ q. n (sym at ∙ q))) ∙ sym e

-- a file is put in

pub each_put : (P : File → Type 0) (f : File) (fs : List File) → P f → AllByRecursion P fs → AllByRecursion P (put_file f fs)
each_put P f [] p h = (p, tt)
each_put P f (g ∷ gs) p h = either (nat_lt f.id g.id) (eqb f.id g.id) (each_put P f gs p h.1)
  where
    either : (b c : Bool) → AllByRecursion P (put_file f gs) → AllByRecursion P (if b then f ∷ g ∷ gs else (if c then f ∷ gs else g ∷ put_file f gs))
    either true c more = (p, h)
    either false true more = (p, h.1)
    either false false more = (h.0, more)

pub room_put : (f : File) (fs : List File) → AreAscending fs → file_at fs f.id ≡ None → total_room (put_file f fs) ≡ total_room fs + room_of f
room_put f fs rise none =
    let same = room_changed false 0 0 fs (put_file f fs) f.id rise (ascending_put f fs rise) (λ j n. at_put f fs j ∙ past j n) in
    let old : option_map_or room_of (file_at fs f.id) 0 ≡ 0 = ap (λ (o : Option File). option_map_or room_of o 0) none in
    let now : option_map_or room_of (file_at (put_file f fs) f.id) 0 ≡ room_of f = ap (λ (o : Option File). option_map_or room_of o 0) (put_here f fs) in
    omega (arith, same, old, now)
  where
    past : (j : ℕ) → j ≢ f.id → cond (eqb f.id j) (Some f) (file_at fs j) ≡ file_at fs j
    past j n = let t : eqb f.id j ≡ false = ne_eqb f.id j (λ q. n (sym q)) in ap (λ (b : Bool). cond b (Some f) (file_at fs j)) t

    put_here : (f : File) (fs : List File) → file_at (put_file f fs) f.id ≡ Some f
    put_here f fs = at_put f fs f.id ∙ ap (λ (b : Bool). cond b (Some f) (file_at fs f.id)) (eq-eqb f.id f.id refl)

-- Windows.

-- the file that a window shows has become this one, and the window is still one on it
pub record Follows (w : Window) (f g : File) : Type 0 where
  pub size : size f ≤ size g
  pub immutable : IsTrue w.writable → IsFalse f.immutable → IsFalse g.immutable
  pub permanent : IsTrue w.anonymous → IsFalse f.permanent → IsFalse g.permanent

pub window_file : (fs : List File) (pages : ℕ) (w : Window) → IsWindow fs pages w → (f : File) × (file_at fs w.file ≡ Some f) × (w.first + pages ≤ size f)
window_file fs pages w h = either (file_at fs w.file) refl
  where
    either : (o : Option File) → file_at fs w.file ≡ o → (f : File) × (file_at fs w.file ≡ Some f) × (w.first + pages ≤ size f)
    either None e = absurd (subst (λ (o : Option File). IsSomeAnd o (λ f. w.first + pages ≤ size f)) e h.inside_file)
    either (Some f) e = (f, e, subst (λ (o : Option File). IsSomeAnd o (λ f. w.first + pages ≤ size f)) e h.inside_file)

pub window_kept : (fs gs : List File) (pages : ℕ) (w : Window) → IsWindow fs pages w
    → ((f : File) → file_at fs w.file ≡ Some f → (g : File) × (file_at gs w.file ≡ Some g) × Follows w f g) → IsWindow gs pages w
window_kept fs gs pages w h follow =
    let at = window_file fs pages w h in
    let to = follow at.0 at.1 in
    let mutable = λ (t : IsTrue w.writable). subst (λ (o : Option File). IfSome o (λ f. IsFalse f.immutable)) at.1 (h.writable_mutable t) in
    let temporary = λ (t : IsTrue w.anonymous). subst (λ (o : Option File). IfSome o (λ f. IsFalse f.permanent)) at.1 (h.anonymous_temporary t) in
    record {
      inside_file = subst (λ (o : Option File). IsSomeAnd o (λ f. w.first + pages ≤ size f)) (sym to.1) (omega (arith, at.2, to.2.size));
      writable_mutable = λ t. subst (λ (o : Option File). IfSome o (λ f. IsFalse f.immutable)) (sym to.1) (to.2.immutable t (mutable t));
      anonymous_temporary = λ t. subst (λ (o : Option File). IfSome o (λ f. IsFalse f.permanent)) (sym to.1) (to.2.permanent t (temporary t));
    }
