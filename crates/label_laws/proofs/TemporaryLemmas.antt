-- A temporary file's orders, as the permanent files see them.
use Rattle.std.proofs.Common.{◌≡◌, inl, inr, ℕ, zero, suc, Bool, true, false, List, replicate, Option, Some, None, refl, sym, ◌∙◌, ap, subst}
use Rattle.std.specs.Prelude.{slice_get, option_map}
use Rattle.std.proofs.lemmas.Bool.{cases_eq}
use Rattle.labelled_disk.specs.declared.disk.DiskWrite.{DiskWrite}
use Rattle.labelled_disk.specs.Sectors.{Sector}
use Rattle.labelled_disk.specs.CrashState.{crash_state}
use Rattle.labelled_disk.specs.Layout.{data_sectors}
use Rattle.labelled_disk.specs.File.{File, zero_page}
use Rattle.labelled_disk.specs.FilesOn.{is_of, leads_file, disk_file}
use Rattle.labelled_disk.specs.Right.{FilesRight}
use Rattle.labelled_disk.specs.Runs.{lengthened, shortened}
use Rattle.labelled_disk.proofs.Finds.{find_none}
use Rattle.labelled_disk.proofs.SectorWrites as w
use Rattle.label_laws.specs.AllPermanent.{if_permanent}
use Rattle.label_laws.specs.MixedVolumes.{ShapeChanged, ShapesKept, label_count}
use Rattle.label_laws.specs.Shape.{SameShape, bare_file}
use Rattle.label_laws.specs.TemporaryRuns.{TemporaryRunLaws}
use Rattle.label_laws.proofs.MixedRunLemmas.{mixed_runs}
use Rattle.label_laws.proofs.PermanentLemmas.{one, shape_changed_seen}

-- a file that is temporary is none of the permanent ones
not_permanent : (f : File) → f.permanent ≡ false → if_permanent (Some f) ≡ None
not_permanent f temporary = rw temporary refl

nowhere_none : (with_temporary : Bool) (d : List Sector) (id : ℕ) → ((j : ℕ) (u : Sector) → slice_get (data_sectors d) j ≡ Some u → is_of id u ≡ false) → disk_file with_temporary d id ≡ None
nowhere_none with_temporary d id nowhere =
    w.file_none with_temporary (data_sectors d) id
    (ap (λ (o : Option Sector). option_map (λ (u : Sector). u.0) o) (find_none (leads_file with_temporary id) (data_sectors d) (λ j u here. w.not_of-not_leader with_temporary id u (nowhere j u here))))

module _ (serial counter : ℕ) (d : List Sector) (right : FilesRight true serial counter d) where
  hidden : (id : ℕ) (f : File) → disk_file true d id ≡ Some f → f.permanent ≡ false → disk_file false d id ≡ None
  hidden id f file temporary = one serial counter d right id ∙ ap if_permanent file ∙ not_permanent f temporary

  -- what happens to a file that is none of the permanent ones, before and after
  kept_by : (e : List Sector) (id : ℕ) (now : Option File) → disk_file false d id ≡ if_permanent now → ShapeChanged true serial counter d e id now → ShapesKept false serial counter d e
  kept_by e id now same change =
      let seen : ShapeChanged false serial counter d e id (if_permanent now) = shape_changed_seen serial counter d e id now right change in
      let own : SameShape false d e id = seen.file ∙ ap (λ (o : Option File). option_map bare_file o) (sym same) in
      record {
        shapes = λ other. elim (cases_eq other id) [ inl is ↦ subst (λ (n : ℕ). SameShape false d e n) (sym is) own | inr apart ↦ seen.others other apart ];
        right = seen.right;
      }

  before_or_after : (writes : List DiskWrite) (k id : ℕ) → disk_file false d id ≡ None
      → ((j : ℕ) → label_count writes k ≡ suc j → (now : Option File) × (if_permanent now ≡ None) × ShapeChanged true serial counter d (crash_state d writes k) id now)
      → ShapesKept false serial counter d (crash_state d writes k)
  before_or_after writes k id none after = either (label_count writes k) refl
    where
      either : (n : ℕ) → label_count writes k ≡ n → ShapesKept false serial counter d (crash_state d writes k)
      either zero count = kept_by (crash_state d writes k) id (disk_file true d id) (one serial counter d right id) ((mixed_runs true serial counter).before d writes k id right count)
      either (suc j) count = let made = after j count in kept_by (crash_state d writes k) id made.0 (none ∙ sym made.1) made.2

pub temporary_runs : (serial counter : ℕ) → TemporaryRunLaws serial counter
temporary_runs serial counter =
    let runs = mixed_runs true serial counter in
    record {
      growth = λ d writes k id kind f is order right file temporary unused room.
          kept_by serial counter d right (crash_state d writes k) id (Some (lengthened (label_count writes k) f))
          (hidden serial counter d right id f file temporary ∙ sym (not_permanent (lengthened (label_count writes k) f) temporary))
          (runs.growth d writes k id kind f is order right file unused room);
      shrinking = λ d writes k id f is order right file temporary pages.
          kept_by serial counter d right (crash_state d writes k) id (Some (shortened (label_count writes k) f))
          (hidden serial counter d right id f file temporary ∙ sym (not_permanent (shortened (label_count writes k) f) temporary))
          (runs.shrinking d writes k id f is order right file pages);
      creation = λ d writes k id kind leader is order right leads nowhere given unused room.
          before_or_after serial counter d right writes k id (nowhere_none false d id nowhere)
          (λ j count. (
            Some (record { id = id; kind = kind; permanent = false; immutable = false; pages = replicate j zero_page }),
            refl,
            runs.creation d writes k j id kind leader is order right leads nowhere given unused room count,
          ));
      deletion = λ d writes k id leader f is order right file temporary led pages.
          before_or_after serial counter d right writes k id (hidden serial counter d right id f file temporary)
          (λ j count. (None, refl, runs.deletion d writes k j id leader f is order right file led pages count));
    }
