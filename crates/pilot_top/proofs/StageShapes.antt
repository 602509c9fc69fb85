-- The settled files, without their bytes, of the machines that a call leads over.
use Rattle.std.proofs.Common.{◌≡◌, ℕ, zero, suc, ◌≤◌, Bool, true, false, Option, Some, None, refl, sym, ◌∙◌, ap, subst, arith}
use Rattle.std.specs.Prelude.{is_none, nat_lt, option_map, if◌then◌else◌}
use Rattle.std.proofs.lemmas.Option.{none-some, same_Some}
use Rattle.labelled_disk.specs.File.{File, file_at, size}
use Rattle.labelled_disk.specs.Runs.{lengthened, shortened}
use Rattle.label_laws.specs.Shape.{BareFile, bare_file}
use Rattle.flat_machine.specs.declared.call.Call.{Call}
use Rattle.flat_machine.specs.declared.call.Call.TheVariants as call
use Rattle.flat_machine.specs.IsMachine.{IsMachine}
use Rattle.flat_machine.specs.Machine.{Machine}
use Rattle.flat_machine.specs.Next.{change_file, next}
use Rattle.flat_machine.specs.Refusal.{refusal}
use Rattle.running_words.specs.Stages.{stage, towards}
use Rattle.pilot_top.specs.OnePlace.{settled_shape}
use Rattle.pilot_top.proofs.CallApartLemmas.{Resizes}
use Rattle.pilot_top.proofs.SettledShapes.{ChangesMarks, KeepsShapes, itself_changed, no_marks, others_unchanged, permanent_shape, shape_at}

-- Of a call that is whole or absent.
module _ (m : Machine) (c : Call) (whole : (i : ℕ) → stage m c (suc i) ≡ next m c) where
  stage_shape : KeepsShapes m (next m c) → (i id : ℕ) → settled_shape (stage m c i) id ≡ settled_shape m id
  stage_shape keeps zero id = refl
  stage_shape keeps (suc i) id = ap (λ (n : Machine). settled_shape n id) (whole i) ∙ keeps id

  pub stages_keep : KeepsShapes m (next m c) → (i j : ℕ) → KeepsShapes (stage m c i) (stage m c j)
  stages_keep keeps i j id = stage_shape keeps j id ∙ sym (stage_shape keeps i id)

  pub stages_mark : (id : ℕ) → ChangesMarks id m (next m c) → (i j : ℕ) → i ≤ j → ChangesMarks id (stage m c i) (stage m c j)
  stages_mark id marks zero zero by = no_marks id m m (λ other. refl)
  stages_mark id marks zero (suc j) by = subst (ChangesMarks id m) (sym (whole j)) marks
  stages_mark id marks (suc i) zero by = absurd (omega (arith, by))
  stages_mark id marks (suc i) (suc j) by = no_marks id (stage m c (suc i)) (stage m c (suc j)) (λ other. ap (λ (n : Machine). settled_shape n other) (whole j ∙ sym (whole i)))

-- Of one that gives a file another size.

no_resize : (id : ℕ) (m : Machine) → Resizes id m m
no_resize id m = record { others = λ other off. refl; none = λ is. is; some = λ b is. (b.pages, is) }

changed_resizes : (m : Machine) → IsMachine m → (id : ℕ) (c : File → File) → ((f : File) → (c f).id ≡ f.id) → ((f : File) → c f ≡ record f { pages = (c f).pages }) → Resizes id m (record m { files = change_file id c m.files })
changed_resizes m h id c ids like = record {
  others = others_unchanged m h id c ids;
  none = λ is. none_by (file_at m.files id) refl (sym (shape_at m h.ids_rise id) ∙ is);
  some = λ b is. some_by (file_at m.files id) refl b (sym (shape_at m h.ids_rise id) ∙ is);
}
  where
    none_mark : (f g : File) (x : Bool) → option_map bare_file (if x then Some f else None) ≡ None → option_map bare_file (if x then Some g else None) ≡ None
    none_mark f g true is = absurd (none-some (bare_file f) (sym is))
    none_mark f g false is = refl

    some_mark : (f : File) (b : BareFile) (x : Bool) → option_map bare_file (if x then Some f else None) ≡ Some b
        → (pages : ℕ) × (option_map bare_file (if x then Some (record f { pages = (c f).pages }) else None) ≡ Some (record b { pages = pages }))
    some_mark f b true is = (size (c f), ap (λ (e : BareFile). Some (record e { pages = size (c f) })) (same_Some (bare_file f) b is))
    some_mark f b false is = absurd (none-some b is)

    like_shape : (f : File) → file_at m.files id ≡ Some f → settled_shape (record m { files = change_file id c m.files }) id ≡ permanent_shape (Some (record f { pages = (c f).pages }))
    like_shape f found = itself_changed m h id c ids (Some f) found ∙ ap (λ (g : File). permanent_shape (Some g)) (like f)

    none_by : (o : Option File) → file_at m.files id ≡ o → permanent_shape (file_at m.files id) ≡ None → settled_shape (record m { files = change_file id c m.files }) id ≡ None
    none_by None found is = itself_changed m h id c ids None found
    none_by (Some f) found is = like_shape f found ∙ none_mark f (record f { pages = (c f).pages }) f.permanent (sym (ap permanent_shape found) ∙ is)

    some_by : (o : Option File) → file_at m.files id ≡ o → (b : BareFile) → permanent_shape (file_at m.files id) ≡ Some b
        → (pages : ℕ) × (settled_shape (record m { files = change_file id c m.files }) id ≡ Some (record b { pages = pages }))
    some_by None found b is = absurd (none-some b (sym (ap permanent_shape found) ∙ is))
    some_by (Some f) found b is =
        let marked = some_mark f b f.permanent (sym (ap permanent_shape found) ∙ is) in
        (marked.0, like_shape f found ∙ marked.1)

towards_like : (pages k : ℕ) (f : File) → towards pages k f ≡ record f { pages = (towards pages k f).pages }
towards_like pages k f = either (nat_lt pages (size f))
  where
    either : (b : Bool) → (if b then shortened k f else lengthened k f) ≡ record f { pages = (if b then shortened k f else lengthened k f).pages }
    either true = refl
    either false = refl

pub stage_resizes : (m : Machine) → IsMachine m → (id pages i : ℕ) → Resizes id m (stage m (call.SetSize id pages) i)
stage_resizes m h id pages zero = no_resize id m
stage_resizes m h id pages (suc i) = either (is_none (refusal m (call.SetSize id pages)))
  where
    either : (b : Bool) → Resizes id m (if b then record m { files = change_file id (towards pages (suc i)) m.files } else m)
    either true = changed_resizes m h id (towards pages (suc i)) (λ f. ap (λ (g : File). g.id) (towards_like pages (suc i) f)) (towards_like pages (suc i))
    either false = no_resize id m
