-- The settled files of a machine without their bytes, and what calls change of them.
use Rattle.std.proofs.Common.{◌≡◌, ◌≢◌, ℕ, suc, ◌+◌, Bool, true, false, not, cond, List, [], ◌∷◌, map, filter, length, Option, Some, None, refl, sym, ◌∙◌, ap, subst, eqb}
use Rattle.std.specs.Prelude.{option_map, is_none, IsFalse, IfSome, ◌==◌, if◌then◌else◌}
use Rattle.std.specs.List.{enumerate_from}
use Rattle.std.specs.Option.{option_map_or}
use Rattle.std.proofs.lemmas.Bool.{eqb-true, eq-eqb, ne_eqb}
use Rattle.std.proofs.lemmas.Option.{none-some, same_Some}
use Rattle.labelled_disk.specs.Ascending.{AreAscending}
use Rattle.labelled_disk.specs.File.{File, Page, any_page, file_at, size}
use Rattle.labelled_disk.specs.FilesOn.{put_file}
use Rattle.labelled_disk.proofs.AscendingLemmas.{ascending_put, at_put}
use Rattle.label_laws.specs.AllPermanent.{if_permanent}
use Rattle.label_laws.specs.Shape.{BareFile, bare_file}
use Rattle.label_laws.proofs.PermanentLemmas.{at_permanents}
use Rattle.flat_machine.specs.declared.call.Call.{Call}
use Rattle.flat_machine.specs.declared.call.Call.TheVariants as call
use Rattle.flat_machine.specs.IsMachine.{IsMachine}
use Rattle.flat_machine.specs.Machine.{Machine}
use Rattle.flat_machine.specs.Next.{change, change_file, mapped_anonymous, new_file, next, unmapped, with_new_file, without_anonymous, without_file}
use Rattle.flat_machine.specs.Refusal.{refusal}
use Rattle.flat_machine.specs.Settled.{is_unforced, settled_file}
use Rattle.flat_machine.specs.declared.space.FilePage.{FilePage}
use Rattle.flat_machine.specs.declared.space.Space.{Space}
use Rattle.flat_machine.specs.declared.space.Window.{Window}
use Rattle.flat_machine.specs.Space.{space_at}
use Rattle.flat_machine.proofs.FileLemmas.{changed_here, look_up_changed, one_id, unchanged}
use Rattle.flat_machine.proofs.Keep.{window_at}
use Rattle.flat_machine.proofs.KeepNew.{none_new}
use Rattle.flat_machine.proofs.Lists.{In, ascending_filter, ascending_map, find_in, looked_up}
use Rattle.session_words.proofs.FilesLemmas.{at_without}
use Rattle.pilot_top.specs.OnePlace.{settled_shape}

any_long : (test : ℕ → Bool) (n : ℕ) (ps : List Page) → length (map (λ e. if test e.0 then any_page else e.1) (enumerate_from n ps)) ≡ length ps
any_long test n [] = refl
any_long test n (p ∷ ps) = ap suc (any_long test (n + 1) ps)

same_shape : (u : List FilePage) (f : File) → bare_file (settled_file u f) ≡ bare_file f
same_shape u f = ap (λ (n : ℕ). record (bare_file f) { pages = n }) (any_long (is_unforced u f.id) 0 f.pages)

-- the shape is that of the permanent file
shape_by : (m : Machine) (id : ℕ) → settled_shape m id ≡ option_map bare_file (file_at (filter (λ f. f.permanent) m.files) id)
shape_by m id =
    ap (λ (o : Option File). option_map bare_file o) (look_up_changed (settled_file m.unforced) (λ f. refl) (filter (λ f. f.permanent) m.files) id)
    ∙ bare (file_at (filter (λ f. f.permanent) m.files) id)
  where
    bare : (o : Option File) → option_map bare_file (option_map (settled_file m.unforced) o) ≡ option_map bare_file o
    bare None = refl
    bare (Some f) = ap (λ (b : BareFile). Some b) (same_shape m.unforced f)

abbrev pub permanent_shape : Option File → Option BareFile
permanent_shape o = option_map bare_file (if_permanent o)

pub shape_at : (m : Machine) → AreAscending m.files → (id : ℕ) → settled_shape m id ≡ permanent_shape (file_at m.files id)
shape_at m rise id = shape_by m id ∙ ap (λ (o : Option File). option_map bare_file o) (at_permanents m.files rise id)

-- the machines have the same settled files, but for bytes
abbrev pub KeepsShapes : Machine → Machine → Type 0
KeepsShapes m n = (id : ℕ) → settled_shape n id ≡ settled_shape m id

pub same_files : (m n : Machine) → n.files ≡ m.files → KeepsShapes m n
same_files m n same id = shape_by n id ∙ ap (λ (fs : List File). option_map bare_file (file_at (filter (λ f. f.permanent) fs) id)) same ∙ sym (shape_by m id)

-- a call that is refused changes nothing
by_next : (m : Machine) (c : Call) → KeepsShapes m (change m c) → KeepsShapes m (next m c)
by_next m c keeps = either (is_none (refusal m c))
  where
    either : (b : Bool) → KeepsShapes m (if b then change m c else m)
    either true = keeps
    either false = λ id. refl

-- A temporary file more.

with_new : (m n : Machine) (f : File) → AreAscending m.files → f.permanent ≡ false → file_at m.files f.id ≡ None → n.files ≡ put_file f m.files → KeepsShapes m n
with_new m n f rise temporary none is id =
    shape_at n (subst AreAscending (sym is) (ascending_put f m.files rise)) id ∙ ap (λ (fs : List File). permanent_shape (file_at fs id)) is ∙ ap permanent_shape (at_put f m.files id)
    ∙ either (eqb f.id id) refl ∙ sym (shape_at m rise id)
  where
    either : (b : Bool) → eqb f.id id ≡ b → permanent_shape (cond b (Some f) (file_at m.files id)) ≡ permanent_shape (file_at m.files id)
    either true e =
        ap (λ (b : Bool). option_map bare_file (if b then Some f else None)) temporary
        ∙ ap permanent_shape (sym none ∙ ap (λ (k : ℕ). file_at m.files k) (eqb-true f.id id e))
    either false e = refl

pub next_create : (m : Machine) (pages kind : ℕ) → IsMachine m → KeepsShapes m (next m (call.Create pages kind))
next_create m pages kind h = by_next m (call.Create pages kind) (with_new m (with_new_file m pages kind) (new_file m pages kind) h.ids_rise refl (none_new m h) refl)

pub next_map_anonymous : (m : Machine) (space : ℕ) → IsMachine m → KeepsShapes m (next m (call.MapAnonymous space))
next_map_anonymous m space h = by_next m (call.MapAnonymous space) (by (space_at m.spaces space))
  where
    by : (o : Option Space) → KeepsShapes m (option_map_or (mapped_anonymous m) o m)
    by None = λ id. refl
    by (Some s) = with_new m (mapped_anonymous m s) (new_file m s.pages 0) h.ids_rise refl (none_new m h) refl

-- One fewer.

rises_without : (m : Machine) (id : ℕ) → AreAscending m.files → AreAscending (without_file id m.files)
rises_without m id rise = ascending_filter (λ f. f.id) (λ f. not (f.id == id)) m.files rise

without : (m n : Machine) (id : ℕ) → AreAscending m.files → n.files ≡ without_file id m.files → (j : ℕ) → settled_shape n j ≡ permanent_shape (if j == id then None else file_at m.files j)
without m n id rise is j =
    shape_at n (subst AreAscending (sym is) (rises_without m id rise)) j ∙ ap (λ (fs : List File). permanent_shape (file_at fs j)) is ∙ ap permanent_shape (at_without id m.files j)

without_temporary : (m n : Machine) (id : ℕ) → AreAscending m.files → n.files ≡ without_file id m.files → IfSome (file_at m.files id) (λ f. IsFalse f.permanent) → KeepsShapes m n
without_temporary m n id rise is temporary j = without m n id rise is j ∙ either (j == id) refl ∙ sym (shape_at m rise j)
  where
    none : (o : Option File) → IfSome o (λ f. IsFalse f.permanent) → ◌≡◌ {A = Option BareFile} None (permanent_shape o)
    none None t = refl
    none (Some f) t = ap (λ (b : Bool). option_map bare_file (if b then Some f else None)) (sym t)

    either : (b : Bool) → (j == id) ≡ b → permanent_shape (if b then None else file_at m.files j) ≡ permanent_shape (file_at m.files j)
    either true e = none (file_at m.files id) temporary ∙ ap (λ (k : ℕ). permanent_shape (file_at m.files k)) (sym (eqb-true j id e))
    either false e = refl

pub next_unmap : (m : Machine) (space : ℕ) → IsMachine m → KeepsShapes m (next m (call.Unmap space))
next_unmap m space h = by_next m (call.Unmap space) (by (space_at m.spaces space) refl)
  where
    by_window : (s : Space) → In s m.spaces → (o : Option Window) → s.window ≡ o → KeepsShapes m (unmapped m s)
    by_window s here None is = same_files m (unmapped m s) (ap (λ (o : Option Window). option_map_or (λ w. without_anonymous w m.files) o m.files) is)
    by_window s here (Some w) is = by_mark w.anonymous refl
      where
        by_mark : (b : Bool) → w.anonymous ≡ b → KeepsShapes m (unmapped m s)
        by_mark false e =
            same_files m (unmapped m s)
            (ap (λ (o : Option Window). option_map_or (λ w. without_anonymous w m.files) o m.files) is ∙ ap (λ (b : Bool). if b then without_file w.file m.files else m.files) e)
        by_mark true e =
            without_temporary m (unmapped m s) w.file h.ids_rise
            (ap (λ (o : Option Window). option_map_or (λ w. without_anonymous w m.files) o m.files) is ∙ ap (λ (b : Bool). if b then without_file w.file m.files else m.files) e)
            ((window_at m.files m.spaces h.whole_windows s w here is).anonymous_temporary e)

    by : (o : Option Space) → space_at m.spaces space ≡ o → KeepsShapes m (option_map_or (unmapped m) o m)
    by None is = λ id. refl
    by (Some s) is = by_window s (find_in (λ s. s.handle == space) m.spaces s is).0 s.window refl

-- One file alone appears, goes, or gets a mark, with the size that it has.

abbrev pub ChangesMarks : ℕ → Machine → Machine → Type 0
ChangesMarks id m n = ((other : ℕ) → other ≢ id → settled_shape n other ≡ settled_shape m other)
    × ((b c : BareFile) → settled_shape m id ≡ Some b → settled_shape n id ≡ Some c → c.pages ≡ b.pages)

pub no_marks : (id : ℕ) (m n : Machine) → KeepsShapes m n → ChangesMarks id m n
no_marks id m n keeps = (λ other off. keeps other, λ b c is now. ap (λ (x : BareFile). x.pages) (same_Some c b (sym now ∙ keeps id ∙ is)))

by_next_marks : (m : Machine) (c : Call) (id : ℕ) → ChangesMarks id m (change m c) → ChangesMarks id m (next m c)
by_next_marks m c id changes = either (is_none (refusal m c))
  where
    either : (b : Bool) → ChangesMarks id m (if b then change m c else m)
    either true = changes
    either false = no_marks id m m (λ other. refl)

pub next_delete : (m : Machine) (id : ℕ) → IsMachine m → ChangesMarks id m (next m (call.Delete id))
next_delete m id h = by_next_marks m (call.Delete id) id (
  λ other off. gone other ∙ ap (λ (b : Bool). permanent_shape (if b then None else file_at m.files other)) (ne_eqb other id off) ∙ sym (shape_at m h.ids_rise other),
  λ b c is now. absurd (none-some c (sym (gone id ∙ ap (λ (b : Bool). permanent_shape (if b then None else file_at m.files id)) (eq-eqb id id refl)) ∙ now)),
)
  where
    gone : (j : ℕ) → settled_shape (record m { files = without_file id m.files }) j ≡ permanent_shape (if j == id then None else file_at m.files j)
    gone = without m (record m { files = without_file id m.files }) id h.ids_rise refl

-- One file is changed.

shape_pages : (f : File) (b : BareFile) → permanent_shape (Some f) ≡ Some b → b.pages ≡ size f
shape_pages f b is = either f.permanent is
  where
    either : (x : Bool) → option_map bare_file (if x then Some f else None) ≡ Some b → b.pages ≡ size f
    either true is = ap (λ (c : BareFile). c.pages) (sym (same_Some (bare_file f) b is))
    either false is = absurd (none-some b is)

module _ (m : Machine) (h : IsMachine m) (id : ℕ) (c : File → File) (ids : (f : File) → (c f).id ≡ f.id) where
  abbrev pub changed : Machine
  changed = record m { files = change_file id c m.files }

  pub changed_shape : (j : ℕ) → settled_shape changed j ≡ permanent_shape (option_map (λ f. if f.id == id then c f else f) (file_at m.files j))
  changed_shape j =
      shape_at changed (ascending_map (λ f. f.id) (λ f. if f.id == id then c f else f) (one_id id c ids) m.files h.ids_rise) j
      ∙ ap permanent_shape (look_up_changed (λ f. if f.id == id then c f else f) (one_id id c ids) m.files j)

  pub others_unchanged : (other : ℕ) → other ≢ id → settled_shape changed other ≡ settled_shape m other
  others_unchanged other off = changed_shape other ∙ by (file_at m.files other) refl ∙ sym (shape_at m h.ids_rise other)
    where
      by : (o : Option File) → file_at m.files other ≡ o → permanent_shape (option_map (λ f. if f.id == id then c f else f) o) ≡ permanent_shape o
      by None is = refl
      by (Some f) is = ap (λ (g : File). permanent_shape (Some g)) (unchanged id c f (λ same. off (sym (looked_up (λ x. x.id) m.files other f is).1 ∙ same)))

  -- the file itself
  pub itself_changed : (o : Option File) → file_at m.files id ≡ o → settled_shape changed id ≡ permanent_shape (option_map c o)
  itself_changed None is = changed_shape id ∙ ap (λ (o : Option File). permanent_shape (option_map (λ f. if f.id == id then c f else f) o)) is
  itself_changed (Some f) is =
      changed_shape id ∙ ap (λ (o : Option File). permanent_shape (option_map (λ f. if f.id == id then c f else f) o)) is
      ∙ ap (λ (g : File). permanent_shape (Some g)) (changed_here id c f (looked_up (λ x. x.id) m.files id f is).1)

  -- it keeps its size
  pub marked_alone : ((f : File) → size (c f) ≡ size f) → ChangesMarks id m changed
  marked_alone sizes = (others_unchanged, λ b d is now. by (file_at m.files id) refl b d is now)
    where
      by : (o : Option File) → file_at m.files id ≡ o → (b d : BareFile) → settled_shape m id ≡ Some b → settled_shape changed id ≡ Some d → d.pages ≡ b.pages
      by None none b d is now = absurd (none-some b (sym (shape_at m h.ids_rise id ∙ ap permanent_shape none) ∙ is))
      by (Some f) found b d is now =
          shape_pages (c f) d (sym (itself_changed (Some f) found) ∙ now) ∙ sizes f ∙ sym (shape_pages f b (sym (shape_at m h.ids_rise id ∙ ap permanent_shape found) ∙ is))

pub next_permanent : (m : Machine) (id : ℕ) → IsMachine m → ChangesMarks id m (next m (call.MakePermanent id))
next_permanent m id h = by_next_marks m (call.MakePermanent id) id (marked_alone m h id (λ f. record f { permanent = true }) (λ f. refl) (λ f. refl))

pub next_immutable : (m : Machine) (id : ℕ) → IsMachine m → ChangesMarks id m (next m (call.MakeImmutable id))
next_immutable m id h = by_next_marks m (call.MakeImmutable id) id (marked_alone m h id (λ f. record f { immutable = true }) (λ f. refl) (λ f. refl))
