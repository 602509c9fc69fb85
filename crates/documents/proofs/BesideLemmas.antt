-- A temporary file, and what a stop leaves.
use Rattle.std.proofs.Common.{◌≡◌, ◌≢◌, ◌∙◌, ℕ, Bool, true, false, cond, refl, sym, ap, subst, List, [], ◌∷◌, map, filter, Option, Some, None}
use Rattle.std.specs.Prelude.{find, nat_lt, ◌==◌, ◌&&◌, ◌||◌, ◌++◌, if◌then◌else◌}
use Rattle.std.specs.List.{list_any}
use Rattle.std.proofs.lemmas.Bool.{eqb-false, ne_eqb, true≢false}
use Rattle.std.proofs.lemmas.Option.{none-some}
use Rattle.flat_machine.specs.declared.space.FilePage.{FilePage}
use Rattle.flat_machine.specs.File.{File, file_at, put_file}
use Rattle.flat_machine.specs.Machine.{Machine}
use Rattle.flat_machine.specs.Next.{change_file, is_same_page, mark, with_any}
use Rattle.flat_machine.specs.Settled.{is_unforced, settled, settled_file}
use Rattle.documents.specs.Beside.{IsBeside, SettledBeside}

abbrev pub kept : List File → List File
kept fs = filter (λ f. f.permanent) fs

-- a file of which the same pages are unforced
same_file : (us vs : List FilePage) (f : File) → ((page : ℕ) → is_unforced us f.id page ≡ is_unforced vs f.id page) → settled_file us f ≡ settled_file vs f
same_file us vs f same =
    let tests : is_unforced us f.id ≡ is_unforced vs f.id = λ i page. same page i in
    ap (λ (test : ℕ → Bool). record f { pages = with_any test f.pages }) tests

same_files : (us vs : List FilePage) (id : ℕ) → ((g page : ℕ) → g ≢ id → is_unforced us g page ≡ is_unforced vs g page) → (fs : List File) → file_at fs id ≡ None
    → map (settled_file us) (kept fs) ≡ map (settled_file vs) (kept fs)
same_files us vs id same [] none = refl
same_files us vs id same (x ∷ xs) none = either (x.id == id) refl none x.permanent (same_files us vs id same xs)
  where
    either : (b : Bool) → x.id == id ≡ b → cond b (Some x) (file_at xs id) ≡ None → (p : Bool) → (file_at xs id ≡ None → map (settled_file us) (kept xs) ≡ map (settled_file vs) (kept xs))
        → map (settled_file us) (cond p (x ∷ kept xs) (kept xs)) ≡ map (settled_file vs) (cond p (x ∷ kept xs) (kept xs))
    either true e q p more = absurd (none-some x (sym q))
    either false e q false more = more q
    either false e q true more =
        let first = same_file us vs x (λ page. same x.id page (eqb-false x.id id e)) in
        let rest = more q in
        λ i. first i ∷ rest i

pub settled_beside : SettledBeside
settled_beside m n id none is =
    ap (λ (fs : List File). map (settled_file n.unforced) fs) is.files ∙ same_files n.unforced m.unforced id is.unforced m.files none

-- no permanent file has the identifier
pub kept_none : (fs : List File) (id : ℕ) → file_at fs id ≡ None → file_at (kept fs) id ≡ None
kept_none [] id none = refl
kept_none (x ∷ xs) id none = either (x.id == id) refl none x.permanent (kept_none xs id)
  where
    either : (b : Bool) → x.id == id ≡ b → cond b (Some x) (file_at xs id) ≡ None → (p : Bool) → (file_at xs id ≡ None → file_at (kept xs) id ≡ None)
        → file_at (cond p (x ∷ kept xs) (kept xs)) id ≡ None
    either true e q p more = absurd (none-some x (sym q))
    either false e q false more = more q
    either false e q true more = ap (λ (b : Bool). cond b (Some x) (file_at (kept xs) id)) e ∙ more q

-- a change of a file that is none of them
pub kept_changed : (id : ℕ) (c : File → File) → ((f : File) → (c f).permanent ≡ f.permanent) → (fs : List File) → file_at (kept fs) id ≡ None → kept (change_file id c fs) ≡ kept fs
kept_changed id c keeps [] none = refl
kept_changed id c keeps (x ∷ xs) none = either (x.id == id) refl x.permanent refl none (kept_changed id c keeps xs)
  where
    either : (b : Bool) → x.id == id ≡ b → (p : Bool) → x.permanent ≡ p → file_at (cond p (x ∷ kept xs) (kept xs)) id ≡ None
        → (file_at (kept xs) id ≡ None → kept (change_file id c xs) ≡ kept xs)
        → cond ((if b then c x else x).permanent) ((if b then c x else x) ∷ kept (change_file id c xs)) (kept (change_file id c xs)) ≡ cond p (x ∷ kept xs) (kept xs)
    either true e true p q more = absurd (none-some x (sym (sym (ap (λ (b : Bool). cond b (Some x) (file_at (kept xs) id)) e) ∙ q)))
    either true e false p q more = ap (λ (b : Bool). cond b (c x ∷ kept (change_file id c xs)) (kept (change_file id c xs))) (keeps x ∙ p) ∙ more q
    either false e true p q more =
        ap (λ (b : Bool). cond b (x ∷ kept (change_file id c xs)) (kept (change_file id c xs))) p
        ∙ ap (λ (rest : List File). x ∷ rest) (more (sym (ap (λ (b : Bool). cond b (Some x) (file_at (kept xs) id)) e) ∙ q))
    either false e false p q more = ap (λ (b : Bool). cond b (x ∷ kept (change_file id c xs)) (kept (change_file id c xs))) p ∙ more q

-- one temporary file more
pub kept_put : (f : File) (id : ℕ) → f.id ≡ id → f.permanent ≡ false → (fs : List File) → file_at fs id ≡ None → kept (put_file f fs) ≡ kept fs
kept_put f id named temporary [] none = ap (λ (b : Bool). cond b (f ∷ []) []) temporary
kept_put f id named temporary (x ∷ xs) none = either (x.id == id) refl none (nat_lt f.id x.id) (kept_put f id named temporary xs)
  where
    apart : x.id == id ≡ false → f.id == x.id ≡ false
    apart e = ne_eqb f.id x.id (λ q. eqb-false x.id id e (sym q ∙ named))

    either : (c : Bool) → x.id == id ≡ c → cond c (Some x) (file_at xs id) ≡ None → (b : Bool) → (file_at xs id ≡ None → kept (put_file f xs) ≡ kept xs)
        → kept (if b then f ∷ x ∷ xs else (if f.id == x.id then f ∷ xs else x ∷ put_file f xs)) ≡ cond x.permanent (x ∷ kept xs) (kept xs)
    either true e q b more = absurd (none-some x (sym q))
    either false e q true more = ap (λ (b : Bool). cond b (f ∷ cond x.permanent (x ∷ kept xs) (kept xs)) (cond x.permanent (x ∷ kept xs) (kept xs))) temporary
    either false e q false more =
        ap (λ (d : Bool). kept (if d then f ∷ xs else x ∷ put_file f xs)) (apart e)
        ∙ ap (λ (rest : List File). cond x.permanent (x ∷ rest) rest) (more q)

-- Unforced pages of one file.

any_last : (p : FilePage → Bool) (u : FilePage) → p u ≡ false → (us : List FilePage) → list_any p (us ++ u ∷ []) ≡ list_any p us
any_last p u e [] = ap (λ (b : Bool). b || false) e
any_last p u e (v ∷ vs) = ap (λ (b : Bool). p v || b) (any_last p u e vs)

pub marked_elsewhere : (u : FilePage) (us : List FilePage) (g page : ℕ) → g ≢ u.file → is_unforced (mark u us) g page ≡ is_unforced us g page
marked_elsewhere u us g page other = either (list_any (is_same_page u) us)
  where
    none : is_same_page (record { file = g; page = page }) u ≡ false
    none = ap (λ (b : Bool). b && page == u.page) (ne_eqb g u.file other)

    either : (b : Bool) → is_unforced (if b then us else us ++ u ∷ []) g page ≡ is_unforced us g page
    either true = refl
    either false = any_last (is_same_page (record { file = g; page = page })) u none us
