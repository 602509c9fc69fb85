-- Writes of a file that does not count, mixed with writes of page bytes.
use Rattle.std.proofs.Common.{◌≡◌, ℕ, zero, suc, Bool, List, [], ◌∷◌, Option, Some, None, refl, sym, ◌∙◌, ap}
use Rattle.std.specs.Prelude.{option_map}
use Rattle.std.proofs.lemmas.Option.{none-some}
use Rattle.labelled_disk.specs.declared.disk.DiskWrite.{DiskWrite}
use Rattle.labelled_disk.specs.declared.disk.DiskWrite.TheVariants.{Whole, LabelOnly, Page}
use Rattle.labelled_disk.specs.Sectors.{Sector}
use Rattle.labelled_disk.specs.CrashState.{written}
use Rattle.labelled_disk.specs.File.{File, file_at}
use Rattle.labelled_disk.specs.FilesOn.{disk_file}
use Rattle.labelled_disk.specs.Right.{FilesRight}
use Rattle.labelled_disk.specs.WriteLaws.{Kept}
use Rattle.labelled_disk.proofs.WriteLemmas as laws
use Rattle.label_laws.specs.MixedVolumes.{ShapesKept}
use Rattle.label_laws.specs.Quiet.{IsQuiet, QuietAppended, QuietCrashStates}
use Rattle.label_laws.specs.Shape.{bare_file}
use Rattle.label_laws.proofs.MixedLemmas.{labels_page}
use Rattle.label_laws.proofs.ShapeLemmas.{labels_give_shape}
use Rattle.label_laws.proofs.UnseenLemmas.{unseen_one}

pub quiet_append : (with_temporary : Bool) (id : ℕ) → QuietAppended with_temporary id
quiet_append with_temporary id d [] next one more = more
quiet_append with_temporary id d (write ∷ first) next one more = (one.0, quiet_append with_temporary id (written write d) first next one.1 more)

module _ (with_temporary : Bool) (id serial counter : ℕ) where
  from_kept : (d e : List Sector) → Kept with_temporary serial counter d e → ShapesKept with_temporary serial counter d e
  from_kept d e kept = record {
    shapes = λ other. ap (λ (o : Option File). option_map bare_file o)
        (sym (laws.look_up with_temporary serial counter e other) ∙ ap (λ (l : List File). file_at l other) kept.files ∙ laws.look_up with_temporary serial counter d other);
    right = kept.right;
  }

  no_shape : (o : Option File) → option_map bare_file o ≡ None → o ≡ None
  no_shape None e = refl
  no_shape (Some f) e = absurd (none-some (bare_file f) (sym e))

  quiet_one : (d : List Sector) (one : DiskWrite) → FilesRight with_temporary serial counter d → disk_file with_temporary d id ≡ None → IsQuiet with_temporary id d one → ShapesKept with_temporary serial counter d (written one d)
  quiet_one d (Whole sector label page) right none is = from_kept d (written (Whole sector label page) d) (unseen_one with_temporary id serial counter d (Whole sector label page) right none is)
  quiet_one d (LabelOnly sector label) right none is = from_kept d (written (LabelOnly sector label) d) (unseen_one with_temporary id serial counter d (LabelOnly sector label) right none is)
  quiet_one d (Page sector wanted page) right none is =
      let alike = labels_give_shape with_temporary d (written (Page sector wanted page) d) (labels_page d sector wanted page) in
      record { shapes = alike.shapes; right = alike.right serial counter right }

  pub quiet_crash_states : QuietCrashStates with_temporary id serial counter
  quiet_crash_states d writes right none are zero = record { shapes = λ other. refl; right = right }
  quiet_crash_states d [] right none are (suc k) = record { shapes = λ other. refl; right = right }
  quiet_crash_states d (one ∷ writes) right none are (suc k) =
      let first = quiet_one d one right none are.0 in
      let still : disk_file with_temporary (written one d) id ≡ None = no_shape (disk_file with_temporary (written one d) id) (first.shapes id ∙ ap (λ (o : Option File). option_map bare_file o) none) in
      let rest = quiet_crash_states (written one d) writes first.right still are.1 k in
      record { shapes = λ other. rest.shapes other ∙ first.shapes other; right = rest.right }
