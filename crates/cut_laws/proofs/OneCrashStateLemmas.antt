-- The files of a cut are those of one crash state: where none changed, or one got another size.
use Rattle.std.proofs.Common.{◌≡◌, ◌≢◌, inl, inr, ℕ, ◌≤◌, Bool, List, length, Option, Some, None, refl, sym, ◌∙◌, ap, subst, arith}
use Rattle.std.specs.Prelude.{slice_get, option_map}
use Rattle.std.proofs.lemmas.Bool.{cases_eq}
use Rattle.std.proofs.lemmas.Option.{none-some}
use Rattle.labelled_disk.specs.declared.disk.DiskWrite.{DiskWrite}
use Rattle.labelled_disk.specs.CrashState.{crash_state}
use Rattle.labelled_disk.specs.File.{File, Page as Cells, size}
use Rattle.labelled_disk.specs.FilesOn.{disk_file}
use Rattle.labelled_disk.specs.Sectors.{Sector}
use Rattle.labelled_disk.proofs.SectorWrites as w
use Rattle.label_laws.specs.Shape.{SameShape, bare_file}
use Rattle.cut_laws.specs.Cut.{AtSome, IsCutSince}
use Rattle.cut_laws.specs.OneCrashState.{AreFilesWhole, FilesOfOneCrashState, HasUnitOf, IsPageThroughout, IsResizedAlone, IsSteady}
use Rattle.cut_laws.specs.SizeLaws.{IsWholeThroughout}
use Rattle.cut_laws.proofs.CommonLemmas.{common_stays, file_of_shape}
use Rattle.cut_laws.proofs.CrashStateLemmas.{get_some}
use Rattle.cut_laws.proofs.ResizedLemmas.{pages_there, resized_shape}
use Rattle.cut_laws.proofs.StayLemmas.{none_appears}
use Rattle.cut_laws.proofs.ThereLemmas.{IsThere}

-- a crash state has its own files
pub of_crash_state : (all : Bool) (d : List Sector) (writes : List DiskWrite) (e : List Sector) (j : ℕ) → j ≤ length writes → e ≡ crash_state d writes j → FilesOfOneCrashState all d writes 0 (length writes) e
of_crash_state all d writes e j few is = record {
  shapes = (j, omega arith, few, λ id. ap (λ (x : List Sector). option_map bare_file (disk_file all x id)) is);
  pages = λ id p g file below.
      let then_file : disk_file all (crash_state d writes j) id ≡ Some g = ap (λ (x : List Sector). disk_file all x id) (sym is) ∙ file in
      let cells = get_some g.pages p (below j g (omega arith) few then_file) in
      (cells.0, cells.1, λ u. (j, omega arith, few, (g, then_file, cells.0, cells.1, refl)));
}

module _ (all : Bool) (d : List Sector) (writes : List DiskWrite) (e : List Sector) (cut : IsCutSince d writes e) (whole : (j : ℕ) → j ≤ length writes → AreFilesWhole all (crash_state d writes j)) where
  pub whole_there : (id : ℕ) → IsThere all id d writes → IsWholeThroughout d writes id
  whole_there id there j few = let f = there j few in whole j few id f.0 f.1

  -- a file that is steady
  pub steady_there : (id : ℕ) (f : File) → IsSteady all id d writes → disk_file all d id ≡ Some f → IsThere all id d writes
  steady_there id f steady file j few =
      let g = file_of_shape all (crash_state d writes j) id (bare_file f) (steady j few ∙ ap (λ (o : Option File). option_map bare_file o) file) in (g.0, g.1)

  pub steady_shape : (id : ℕ) → IsSteady all id d writes → SameShape all d e id
  steady_shape id steady = either (disk_file all d id) refl
    where
      no_file : (o : Option File) → option_map bare_file o ≡ None → o ≡ None
      no_file None none = refl
      no_file (Some f) none = absurd (none-some (bare_file f) (sym none))

      either : (o : Option File) → disk_file all d id ≡ o → SameShape all d e id
      either None none =
          let nowhere : disk_file all e id ≡ None =
          none_appears all d writes e id cut (λ j few. no_file (disk_file all (crash_state d writes j) id) (steady j few ∙ ap (λ (o : Option File). option_map bare_file o) none)) in
          ap (λ (o : Option File). option_map bare_file o) (nowhere ∙ sym none)
      either (Some f) file = (common_stays all d writes e id f cut (whole_there id (steady_there id f steady file)) file steady).0

  pub steady_pages : (id p : ℕ) (g : File) → IsSteady all id d writes → disk_file all e id ≡ Some g → IsPageThroughout all id p d writes 0 (length writes)
      → (cells : Cells) × (slice_get g.pages p ≡ Some cells) × ((u : ℕ) → AtSome 0 (length writes) (λ j. HasUnitOf all id p u cells (crash_state d writes j)))
  steady_pages id p g steady file below =
      let f = file_of_shape all d id (bare_file g) (sym (steady_shape id steady) ∙ ap (λ (o : Option File). option_map bare_file o) file) in
      pages_there all d writes e id cut (whole_there id (steady_there id f.0 steady f.1)) (steady_there id f.0 steady f.1) p g file below

  -- where all are
  pub steady_files : ((id : ℕ) → IsSteady all id d writes) → FilesOfOneCrashState all d writes 0 (length writes) e
  steady_files each = record {
    shapes = (0, omega arith, omega arith, λ id. steady_shape id (each id));
    pages = λ id p g file below. steady_pages id p g (each id) file below;
  }

  -- where one gets another size
  module _ (id : ℕ) (resized : IsResizedAlone all id d writes) where
    there : IsThere all id d writes
    there j few = let f = resized.1 j few in (f.0, f.1)

    pub resized_files : ((other : ℕ) → other ≢ id → IsSteady all other d writes) → FilesOfOneCrashState all d writes 0 (length writes) e
    resized_files others =
        let some = resized_shape all d writes e id cut (whole_there id there) resized in
        record {
          shapes = (
            some.0,
            omega arith,
            some.2,
            λ other. elim (cases_eq other id) [
              | inl same ↦ subst (SameShape all (crash_state d writes some.0) e) (sym same) some.3
              | inr off ↦ steady_shape other (others other off) ∙ sym (others other off some.0 some.2)
            ],
          );
          pages = λ other p g file below. elim (cases_eq other id) [
            | inl same ↦
                let own = pages_there all d writes e id cut (whole_there id there) there p g (ap (disk_file all e) (sym same) ∙ file) (λ j f low few there. below j f low few (ap (disk_file all (crash_state d writes j)) same ∙ there)) in
                (own.0, own.1, λ u. subst (λ (n : ℕ). AtSome 0 (length writes) (λ j. HasUnitOf all n p u own.0 (crash_state d writes j))) (sym same) (own.2 u))
            | inr off ↦ steady_pages other p g (others other off) file below
          ];
        }
