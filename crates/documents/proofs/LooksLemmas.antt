-- Calls that a stop does not see: they keep the permanent files, and make no page of theirs unforced.
use Rattle.std.proofs.Common.{◌≡◌, ◌≢◌, ◌∙◌, ◌⊎◌, inl, inr, ℕ, zero, suc, Bool, true, false, not, ◌&&◌, cond, refl, sym, ap, subst, List, [], ◌∷◌, filter, Option, Some, None}
use Rattle.std.specs.Prelude.{nat_lt, is_none, ◌==◌, if◌then◌else◌, IfSome, IsFalse}
use Rattle.std.specs.Option.{option_map_or}
use Rattle.std.specs.List.{list_any}
use Rattle.std.proofs.lemmas.Bool.{and_parts, cases_eq, eq-eqb, eqb-true, ne_eqb, true≢false, false≢true}
use Rattle.std.proofs.lemmas.Map.Views.{any-filter_same}
use Rattle.std.proofs.lemmas.Option.{none-some}
use Rattle.labelled_disk.specs.Sectors.{Sector}
use Rattle.labelled_disk.specs.FilesOn.{files_on}
use Rattle.labelled_disk.specs.Runs.{lengthened, shortened}
use Rattle.flat_machine.specs.declared.call.Call.{Call}
use Rattle.flat_machine.specs.declared.call.Call.TheVariants.{Attributes, Create, Delete, Map, MakeSpace, RemoveSpace, SetSize, Unmap}
use Rattle.flat_machine.specs.declared.call.Refusal.{Refusal}
use Rattle.flat_machine.specs.declared.space.FilePage.{FilePage}
use Rattle.flat_machine.specs.declared.space.Space.{Space}
use Rattle.flat_machine.specs.declared.space.Window.{Window}
use Rattle.flat_machine.specs.File.{File, file_at, size}
use Rattle.flat_machine.specs.IsMachine.{IsMachine}
use Rattle.flat_machine.specs.Machine.{IsWindow, Machine}
use Rattle.flat_machine.specs.Next.{change, change_file, is_same_page, new_file, new_id, next, resized, unmapped, without_anonymous, without_file, without_window_of}
use Rattle.flat_machine.specs.Refusal.{refusal}
use Rattle.flat_machine.specs.Settled.{Agrees, is_unforced, settled}
use Rattle.flat_machine.specs.Space.{shows, space_at}
use Rattle.flat_machine.proofs.FileLemmas.{window_file}
use Rattle.flat_machine.proofs.Keep.{window_at}
use Rattle.flat_machine.proofs.KeepNew.{none_new}
use Rattle.flat_machine.proofs.Lists.{In, any_in, in_any, in_filter, look_up, looked_up}
use Rattle.documents.specs.Beside.{IsBeside}
use Rattle.session_words.specs.StandsFor.{RevealsSettled}
use Rattle.running_words.specs.Stages.{stage, towards}
use Rattle.documents.specs.Stops.{LooksLike}
use Rattle.documents.proofs.BesideLemmas.{kept, kept_changed, kept_none, kept_put, settled_beside}
use Rattle.pilot_engine.proofs.SettledWider.{reveals_wider}

-- Unforced pages, but for some.

-- those of other files are as they were
pub others : (p : FilePage → Bool) (id : ℕ) → ((u : FilePage) → u.file ≢ id → p u ≡ true) → (us : List FilePage) (g page : ℕ) → g ≢ id
    → is_unforced (filter p us) g page ≡ is_unforced us g page
others p id passes us g page other =
    any-filter_same (is_same_page (record { file = g; page = page })) p true
    (λ u same. passes u (λ e. other (eqb-true g u.file (and_parts (g == u.file) (page == u.page) same).0 ∙ e))) us

-- there are no more
pub fewer : (p : FilePage → Bool) (us : List FilePage) (g page : ℕ) → is_unforced (filter p us) g page ≡ true → is_unforced us g page ≡ true
fewer p us g page is =
    let r = any_in (is_same_page (record { file = g; page = page })) (filter p us) is in
    in_any (is_same_page (record { file = g; page = page })) us r.0 (in_filter p us r.0 r.1).0 r.2

-- What a stop leaves of it.

pub looks_itself : (m : Machine) (id : ℕ) → IsMachine m → file_at m.files id ≡ None → LooksLike m id m
looks_itself m id h none = record { whole = h; none = none; files = refl; unforced = λ g page other is. is }

-- all pages but those of a file
abbrev but : ℕ → FilePage → Bool
but id u = not (u.file == id)

pub looks_reveals : (m : Machine) (id : ℕ) (n : Machine) → LooksLike m id n → (d : List Sector) → RevealsSettled d n → RevealsSettled d m
looks_reveals m id n like d revealed =
    let us = filter (but id) n.unforced in
    let o : Machine = record m { unforced = us } in
    let beside : IsBeside o id n = record {
      files = like.files;
      unforced = λ g page other. sym (others (but id) id (λ u apart. ap not (ne_eqb u.file id apart)) n.unforced g page other);
    } in
    reveals_wider m o like.whole refl (λ g page is. less g page (cases_eq g id) is) d (record {
      agrees = subst (λ (fs : List File). Agrees (files_on d) fs) (settled_beside o n id like.none beside) revealed.agrees;
      right = revealed.right;
    })
  where
    less : (g page : ℕ) → (g ≡ id) ⊎ (g ≢ id) → is_unforced (filter (but id) n.unforced) g page ≡ true → is_unforced m.unforced g page ≡ true
    less g page (inl same) is =
        let none = any-filter_same (is_same_page (record { file = g; page = page })) (but id) false
        (λ u here. ap not (eq-eqb u.file id (sym (eqb-true g u.file (and_parts (g == u.file) (page == u.page) here).0) ∙ same))) n.unforced in
        absurd (true≢false (sym is ∙ none))
    less g page (inr other) is =
        like.unforced g page other
        (sym (others (but id) id (λ u apart. ap not (ne_eqb u.file id apart)) n.unforced g page other) ∙ is)

-- Calls.

-- after each step of the call the machine still looks like m
abbrev pub Keeps : Machine → ℕ → Call → Type 0
Keeps m id call = (n : Machine) → IsMachine n → LooksLike m id n → LooksLike m id (next n call) × ((k : ℕ) → LooksLike m id (stage n call k))

refused_or : (m : Machine) (id : ℕ) (n : Machine) (call : Call) → LooksLike m id n → LooksLike m id (change n call) → LooksLike m id (next n call)
refused_or m id n call here there = either (refusal n call)
  where
    either : (o : Option Refusal) → LooksLike m id (if is_none o then change n call else n)
    either None = there
    either (Some word) = here

pub same_looks : (m : Machine) (id : ℕ) (n o : Machine) → o.files ≡ n.files → o.unforced ≡ n.unforced → LooksLike m id n → LooksLike m id o
same_looks m id n o files unforced like = record {
  whole = like.whole;
  none = like.none;
  files = ap (λ (fs : List File). kept fs) files ∙ like.files;
  unforced = λ g page other is. like.unforced g page other (ap (λ (us : List FilePage). is_unforced us g page) (sym unforced) ∙ is);
}

pub keeps_attributes : (m : Machine) (id file : ℕ) → Keeps m id (Attributes file)
keeps_attributes m id file n h like =
    let after = refused_or m id n (Attributes file) like like in
    (after, steps after)
  where
    steps : LooksLike m id (next n (Attributes file)) → (k : ℕ) → LooksLike m id (stage n (Attributes file) k)
    steps after zero = like
    steps after (suc k) = after

pub keeps_make_space : (m : Machine) (id parent pages : ℕ) (first : Option ℕ) → Keeps m id (MakeSpace parent pages first)
keeps_make_space m id parent pages first n h like =
    let after = refused_or m id n (MakeSpace parent pages first) like (same_looks m id n (change n (MakeSpace parent pages first)) refl refl like) in
    (after, steps after)
  where
    steps : LooksLike m id (next n (MakeSpace parent pages first)) → (k : ℕ) → LooksLike m id (stage n (MakeSpace parent pages first) k)
    steps after zero = like
    steps after (suc k) = after

pub keeps_remove_space : (m : Machine) (id space : ℕ) → Keeps m id (RemoveSpace space)
keeps_remove_space m id space n h like =
    let after = refused_or m id n (RemoveSpace space) like (same_looks m id n (change n (RemoveSpace space)) refl refl like) in
    (after, steps after)
  where
    steps : LooksLike m id (next n (RemoveSpace space)) → (k : ℕ) → LooksLike m id (stage n (RemoveSpace space) k)
    steps after zero = like
    steps after (suc k) = after

pub keeps_map : (m : Machine) (id space file page : ℕ) (writable : Bool) → Keeps m id (Map space file page writable)
keeps_map m id space file page writable n h like =
    let after = refused_or m id n (Map space file page writable) like (same_looks m id n (change n (Map space file page writable)) refl refl like) in
    (after, steps after)
  where
    steps : LooksLike m id (next n (Map space file page writable)) → (k : ℕ) → LooksLike m id (stage n (Map space file page writable) k)
    steps after zero = like
    steps after (suc k) = after

-- a new file is temporary
pub keeps_create : (m : Machine) (id pages kind : ℕ) → Keeps m id (Create pages kind)
keeps_create m id pages kind n h like =
    let after = refused_or m id n (Create pages kind) like (record {
      whole = like.whole;
      none = like.none;
      files = kept_put (new_file n pages kind) (new_id n) refl refl n.files (none_new n h) ∙ like.files;
      unforced = like.unforced;
    }) in
    (after, steps after)
  where
    steps : LooksLike m id (next n (Create pages kind)) → (k : ℕ) → LooksLike m id (stage n (Create pages kind) k)
    steps after zero = like
    steps after (suc k) = after

-- no permanent file has the identifier
unkept : (m : Machine) (id : ℕ) (n : Machine) → LooksLike m id n → file_at (kept n.files) id ≡ None
unkept m id n like = ap (λ (fs : List File). file_at fs id) like.files ∙ kept_none m.files id like.none

pub changed_looks : (m : Machine) (id : ℕ) (n : Machine) (c : File → File) → ((f : File) → (c f).permanent ≡ f.permanent) → LooksLike m id n → LooksLike m id (record n { files = change_file id c n.files })
changed_looks m id n c keeps like = record {
  whole = like.whole;
  none = like.none;
  files = kept_changed id c keeps n.files (unkept m id n like) ∙ like.files;
  unforced = like.unforced;
}

abbrev is_permanent : File → Bool
is_permanent f = f.permanent

pub keeps_size : (m : Machine) (id pages : ℕ) → Keeps m id (SetSize id pages)
keeps_size m id pages n h like = (refused_or m id n (SetSize id pages) like (changed_looks m id n (resized pages) (λ f. refl) like), steps)
  where
    either_way : (f g h : File) (b : Bool) → g.permanent ≡ f.permanent → h.permanent ≡ f.permanent → is_permanent (if b then g else h) ≡ f.permanent
    either_way f g h true p q = p
    either_way f g h false p q = q

    same : (k : ℕ) (f : File) → (towards pages k f).permanent ≡ f.permanent
    same k f = either_way f (shortened k f) (lengthened k f) (nat_lt pages (size f)) refl refl

    steps : (k : ℕ) → LooksLike m id (stage n (SetSize id pages) k)
    steps zero = like
    steps (suc k) = either (refusal n (SetSize id pages))
      where
        either : (o : Option Refusal) → LooksLike m id (if is_none o then record n { files = change_file id (towards pages (suc k)) n.files } else n)
        either None = changed_looks m id n (towards pages (suc k)) (same (suc k)) like
        either (Some word) = like

-- A temporary file goes.

pub kept_without : (id : ℕ) (fs : List File) → ((f : File) → In f fs → f.id ≡ id → f.permanent ≡ false) → kept (without_file id fs) ≡ kept fs
kept_without id [] temporary = refl
kept_without id (x ∷ xs) temporary = either (x.id == id) refl x.permanent refl (kept_without id xs (λ f i e. temporary f (inr i) e))
  where
    either : (b : Bool) → x.id == id ≡ b → (p : Bool) → x.permanent ≡ p → kept (without_file id xs) ≡ kept xs
        → kept (cond (not b) (x ∷ without_file id xs) (without_file id xs)) ≡ cond p (x ∷ kept xs) (kept xs)
    either true e true p more = absurd (true≢false (sym p ∙ temporary x (inl refl) (eqb-true x.id id e)))
    either true e false p more = more
    either false e true p more = ap (λ (b : Bool). cond b (x ∷ kept (without_file id xs)) (kept (without_file id xs))) p ∙ ap (λ (rest : List File). x ∷ rest) more
    either false e false p more = ap (λ (b : Bool). cond b (x ∷ kept (without_file id xs)) (kept (without_file id xs))) p ∙ more

-- one that is not found among the permanent ones is temporary
temporary_by : (id : ℕ) (fs : List File) → file_at (kept fs) id ≡ None → (f : File) → In f fs → f.id ≡ id → f.permanent ≡ false
temporary_by id [] none f i e = absurd i
temporary_by id (x ∷ xs) none f i e = either x.permanent refl none i (λ n j. temporary_by id xs n f j e)
  where
    past : (b : Bool) → x.id == id ≡ b → cond b (Some x) (file_at (kept xs) id) ≡ None → file_at (kept xs) id ≡ None
    past true q n = absurd (none-some x (sym n))
    past false q n = n

    either : (p : Bool) → x.permanent ≡ p → file_at (cond p (x ∷ kept xs) (kept xs)) id ≡ None → (x ≡ f) ⊎ In f xs → (file_at (kept xs) id ≡ None → In f xs → f.permanent ≡ false) → f.permanent ≡ false
    either true p n (inl q) more =
        let here : x.id == id ≡ true = eq-eqb x.id id (ap (λ (y : File). y.id) q ∙ e) in
        absurd (none-some x (sym n ∙ ap (λ (b : Bool). cond b (Some x) (file_at (kept xs) id)) here))
    either true p n (inr j) more = more (past (x.id == id) refl n) j
    either false p n (inl q) more = ap (λ (y : File). y.permanent) (sym q) ∙ p
    either false p n (inr j) more = more n j

pub keeps_delete : (m : Machine) (id : ℕ) → Keeps m id (Delete id)
keeps_delete m id n h like =
    let after = refused_or m id n (Delete id) like (record {
      whole = like.whole;
      none = like.none;
      files = kept_without id n.files (temporary_by id n.files (unkept m id n like)) ∙ like.files;
      unforced = like.unforced;
    }) in
    (after, steps after)
  where
    steps : LooksLike m id (next n (Delete id)) → (k : ℕ) → LooksLike m id (stage n (Delete id) k)
    steps after zero = like
    steps after (suc k) = after

-- A window goes.

keeps_window : (m : Machine) (id : ℕ) (n : Machine) (s : Space) → IsMachine n → In s n.spaces → LooksLike m id n → (o : Option Window) → s.window ≡ o
    → LooksLike m id (record n { files = option_map_or (λ w. without_anonymous w n.files) o n.files; unforced = without_window_of s n.unforced })
keeps_window m id n s h i like None is = record {
  whole = like.whole;
  none = like.none;
  files = like.files;
  unforced = λ g page other here. like.unforced g page other (fewer (λ u. not (shows u.file u.page s)) n.unforced g page here);
}
keeps_window m id n s h i like (Some w) is = record {
  whole = like.whole;
  none = like.none;
  files = files w.anonymous refl ∙ like.files;
  unforced = λ g page other here. like.unforced g page other (fewer (λ u. not (shows u.file u.page s)) n.unforced g page here);
}
  where
    its : IsWindow n.files s.pages w
    its = window_at n.files n.spaces h.whole_windows s w i is

    temporary : w.anonymous ≡ true → (f : File) → In f n.files → f.id ≡ w.file → f.permanent ≡ false
    temporary anonymous f j e =
        let there : file_at n.files w.file ≡ Some f = look_up (λ x. x.id) n.files h.ids_rise f j w.file e in
        let of_it = its.anonymous_temporary anonymous in
        subst (λ (o : Option File). IfSome o (λ x. IsFalse x.permanent)) there of_it

    files : (b : Bool) → w.anonymous ≡ b → kept (if b then without_file w.file n.files else n.files) ≡ kept n.files
    files true e = kept_without w.file n.files (temporary e)
    files false e = refl

pub keeps_unmap : (m : Machine) (id space : ℕ) → Keeps m id (Unmap space)
keeps_unmap m id space n h like =
    let after = refused_or m id n (Unmap space) like (there (space_at n.spaces space) refl) in
    (after, steps after)
  where
    there : (o : Option Space) → space_at n.spaces space ≡ o → LooksLike m id (option_map_or (unmapped n) o n)
    there None is = like
    there (Some s) is =
        same_looks m id (record n { files = option_map_or (λ w. without_anonymous w n.files) s.window n.files; unforced = without_window_of s n.unforced }) (unmapped n s) refl refl
        (keeps_window m id n s h (looked_up (λ x. x.handle) n.spaces space s is).0 like s.window refl)

    steps : LooksLike m id (next n (Unmap space)) → (k : ℕ) → LooksLike m id (stage n (Unmap space) k)
    steps after zero = like
    steps after (suc k) = after
