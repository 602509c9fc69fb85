-- The files of an old volume.
use Rattle.std.proofs.Common.{◌≡◌, ℕ, zero, suc, Bool, true, false, ◌&&◌, cond, List, [], ◌∷◌, map, Option, Some, None, refl, sym, ◌∙◌, ap, eqb}
use Rattle.std.specs.Prelude.{find, option_map, if◌then◌else◌}
use Rattle.labelled_disk.specs.declared.label.Label.{Label}
use Rattle.labelled_disk.specs.Label.{is_permanent, is_immutable, leader_page}
use Rattle.labelled_disk.specs.Sectors.{Sector}
use Rattle.labelled_disk.specs.Layout.{data_sectors}
use Rattle.labelled_disk.specs.File.{File, byte, file_at}
use Rattle.labelled_disk.specs.FilesOn.{page_at, pages_from, put_file, files_on, file_among, file_by}
use Rattle.labelled_disk.specs.Ascending.{AreAscending}
use Rattle.labelled_disk.proofs.AscendingLemmas.{at_put, ascending_put, same_by_look_up}
use Rattle.labelled_disk.proofs.Pages.{pages_same}
use Rattle.labelled_disk.proofs.WriteLemmas as laws
use Rattle.old_files.specs.OldFiles.{heads, heads_file, head_among, old_page_at, old_file_by, old_file_among, old_files_by, files_old, old_file}
use Rattle.old_files.specs.Laws.{OldFilesAreThose, HaveLeaders, LeadersMakeFiles, as_leader}

-- The list of files, and the file of each identifier.

ascending_old : (all rest : List Sector) → AreAscending (old_files_by all rest)
ascending_old all [] = tt
ascending_old all (s ∷ rest) = either (heads s) (ascending_old all rest)
  where
    either : (b : Bool) → AreAscending (old_files_by all rest) → AreAscending (if b then put_file (old_file_by all s.0) (old_files_by all rest) else old_files_by all rest)
    either true h = ascending_put (old_file_by all s.0) (old_files_by all rest) h
    either false h = h

look_up_old : (all rest : List Sector) (id : ℕ) → file_at (old_files_by all rest) id ≡ option_map (λ t. old_file_by all t.0) (find (heads_file id) rest)
look_up_old all [] id = refl
look_up_old all (s ∷ rest) id = either (heads s) (look_up_old all rest id)
  where
    found : (c : Bool) (o : Option Sector) → cond c (Some (old_file_by all s.0)) (option_map (λ t. old_file_by all t.0) o) ≡ option_map (λ t. old_file_by all t.0) (cond c (Some s) o)
    found true o = refl
    found false o = refl

    either : (b : Bool) → file_at (old_files_by all rest) id ≡ option_map (λ t. old_file_by all t.0) (find (heads_file id) rest)
        → file_at (if b then put_file (old_file_by all s.0) (old_files_by all rest) else old_files_by all rest) id ≡ option_map (λ t. old_file_by all t.0) (cond (b && eqb s.0.id id) (Some s) (find (heads_file id) rest))
    either true h =
        at_put (old_file_by all s.0) (old_files_by all rest) id
        ∙ ap (λ (o : Option File). cond (eqb s.0.id id) (Some (old_file_by all s.0)) o) h
        ∙ found (eqb s.0.id id) (find (heads_file id) rest)
    either false h = h

twice : (xs : List Sector) (o : Option Sector) → option_map (λ t. old_file_by xs t.0) o ≡ option_map (old_file_by xs) (option_map (λ t. t.0) o)
twice xs None = refl
twice xs (Some t) = refl

look_up : (d : List Sector) (id : ℕ) → file_at (files_old d) id ≡ old_file d id
look_up d id = look_up_old (data_sectors d) (data_sectors d) id ∙ twice (data_sectors d) (find (heads_file id) (data_sectors d))

pub old_files_are_those : (d : List Sector) → OldFilesAreThose d
old_files_are_those d = record { rise = ascending_old (data_sectors d) (data_sectors d); each = look_up d }

pub same_old_files : (d e : List Sector) → ((id : ℕ) → old_file e id ≡ old_file d id) → files_old e ≡ files_old d
same_old_files d e same = same_by_look_up (files_old e) (files_old d) (ascending_old (data_sectors e) (data_sectors e)) (ascending_old (data_sectors d) (data_sectors d)) (λ id. look_up e id ∙ same id ∙ sym (look_up d id))

-- Where the old files have leaders.

module _ (xs : List Sector) (have : HaveLeaders xs) where
  same_page : (id k : ℕ) → page_at xs id k ≡ old_page_at xs id k
  same_page id zero = ap (λ (o : Option Sector). option_map (λ s. map byte s.1) o) (have.first_pages id)
  same_page id (suc k) = refl

  same_file : (s : Sector) → file_by xs (as_leader s.0) ≡ old_file_by xs s.0
  same_file s =
      let same : pages_from (page_at xs s.0.id) 0 leader_page ≡ pages_from (old_page_at xs s.0.id) 0 leader_page =
      pages_same (old_page_at xs s.0.id) (page_at xs s.0.id) 0 leader_page (λ j l m. same_page s.0.id j) in
      λ i. record { id = s.0.id; kind = s.0.kind; permanent = is_permanent s.0; immutable = is_immutable s.0; pages = same i }

  pub same_among : (id : ℕ) → file_among false xs id ≡ old_file_among xs id
  same_among id = ap (λ (o : Option Label). option_map (file_by xs) o) (have.leaders id) ∙ each (head_among xs id)
    where
      each : (o : Option Sector) → option_map (file_by xs) (option_map (λ s. as_leader s.0) o) ≡ option_map (old_file_by xs) (option_map (λ s. s.0) o)
      each None = refl
      each (Some s) = ap (λ (f : File). Some f) (same_file s)

pub leaders_make_files : LeadersMakeFiles
leaders_make_files d have =
    same_by_look_up (files_on d) (files_old d) (laws.files_on_rise false 0 0 d) (ascending_old (data_sectors d) (data_sectors d))
    (λ id. laws.look_up false 0 0 d id ∙ same_among (data_sectors d) have id ∙ sym (look_up d id))
