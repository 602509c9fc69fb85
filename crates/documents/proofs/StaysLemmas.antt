-- What was put outlasts a stop, and the end of its volume.
use Rattle.std.proofs.Common.{◌≡◌, ◌∙◌, ℕ, ◌+◌, Bool, true, false, ◌&&◌, ◌||◌, cond, refl, sym, ap, subst, List, [], ◌∷◌, map, filter, Option, Some}
use Rattle.std.specs.Prelude.{option_and_then, ◌==◌, if◌then◌else◌}
use Rattle.std.specs.List.{enumerate_from, list_any}
use Rattle.std.specs.Bool.{then_some}
use Rattle.std.proofs.lemmas.Bool.{eqb-false, ne_eqb, true≢false}
use Rattle.std.proofs.lemmas.Option.{none-some, same_Some}
use Rattle.flat_machine.specs.declared.space.FilePage.{FilePage}
use Rattle.flat_machine.specs.File.{File, Page, any_page, file_at, put_file}
use Rattle.flat_machine.specs.Next.{new_id}
use Rattle.flat_machine.specs.Settled.{is_unforced, settled_file}
use Rattle.flat_machine.proofs.SettledLemmas.{settled_by_identifier}
use Rattle.documents.specs.Laws.{WhatIsPutStays}
use Rattle.documents.specs.Pieces.{adding}
use Rattle.documents.proofs.AddingLemmas.{at_adding, fresh}

-- pages of which none is any
pub none_any : (test : ℕ → Bool) (n : ℕ) (ps : List Page) → ((k : ℕ) → test k ≡ false) → map (λ e. if test e.0 then any_page else e.1) (enumerate_from n ps) ≡ ps
none_any test n [] fails = refl
none_any test n (p ∷ ps) fails =
    let rest = none_any test (n + 1) ps fails in
    let first : (if test n then any_page else p) ≡ p = ap (λ (b : Bool). if b then any_page else p) (fails n) in
    λ i. first i ∷ rest i

-- of a file without unforced pages no page is unforced
pub loose_none : (us : List FilePage) (id page : ℕ) → list_any (λ u. u.file == id) us ≡ false → is_unforced us id page ≡ false
loose_none [] id page none = refl
loose_none (u ∷ us) id page none = either (u.file == id) refl none (loose_none us id page)
  where
    either : (b : Bool) → u.file == id ≡ b → b || list_any (λ v. v.file == id) us ≡ false → (list_any (λ v. v.file == id) us ≡ false → is_unforced us id page ≡ false)
        → is_unforced (u ∷ us) id page ≡ false
    either true e q f = absurd (true≢false q)
    either false e q f =
        let other : id == u.file ≡ false = ne_eqb id u.file (λ s. eqb-false u.file id e (sym s)) in
        ap (λ (b : Bool). (b && page == u.page) || is_unforced us id page) other ∙ f q

-- a permanent file is found among the permanent ones
kept_at : (fs : List File) (id : ℕ) (f : File) → file_at fs id ≡ Some f → f.permanent ≡ true → file_at (filter (λ g. g.permanent) fs) id ≡ Some f
kept_at [] id f is p = absurd (none-some f is)
kept_at (g ∷ gs) id f is p = either (g.id == id) refl is (g.permanent) refl (kept_at gs id f)
  where
    either : (b : Bool) → g.id == id ≡ b → cond b (Some g) (file_at gs id) ≡ Some f → (c : Bool) → g.permanent ≡ c
        → (file_at gs id ≡ Some f → f.permanent ≡ true → file_at (filter (λ x. x.permanent) gs) id ≡ Some f)
        → file_at (cond c (g ∷ filter (λ x. x.permanent) gs) (filter (λ x. x.permanent) gs)) id ≡ Some f
    either true e q true c more = ap (λ (b : Bool). cond b (Some g) (file_at (filter (λ x. x.permanent) gs) id)) e ∙ q
    either true e q false c more = absurd (true≢false (sym p ∙ ap (λ (x : File). x.permanent) (sym (same_Some g f q)) ∙ c))
    either false e q true c more = ap (λ (b : Bool). cond b (Some g) (file_at (filter (λ x. x.permanent) gs) id)) e ∙ more q p
    either false e q false c more = more q p

pub what_is_put_stays : WhatIsPutStays
what_is_put_stays m f h after new permanent =
    let free = subst (λ (id : ℕ). list_any (λ u. u.file == id) m.unforced ≡ false) (sym new) (fresh m h).nothing_unforced in
    let there : file_at (put_file f m.files) f.id ≡ Some f = ap (λ (id : ℕ). file_at (put_file f m.files) id) new ∙ at_adding m f (new_id m) (fresh m h) new in
    let whole : settled_file m.unforced f ≡ f = ap (λ (ps : List Page). record f { pages = ps }) (none_any (is_unforced m.unforced f.id) 0 f.pages (λ k. loose_none m.unforced f.id k free)) in (
      settled_by_identifier (adding f m) f.id after
          ∙ ap (λ (o : Option File). option_and_then (λ g. then_some g.permanent (settled_file m.unforced g)) o) there
          ∙ ap (λ (b : Bool). then_some b (settled_file m.unforced f)) permanent
          ∙ ap Some whole,
      kept_at (put_file f m.files) f.id f there permanent,
    )
