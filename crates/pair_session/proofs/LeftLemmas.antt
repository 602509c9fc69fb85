-- What the disk of a volume in use has, without the frames over it.
use Rattle.std.proofs.Common.{◌≡◌, inl, inr, ℕ, ◌<◌, ◌≤◌, Bool, true, false, List, [], Option, Some, None, length, refl, sym, ◌∙◌, ap, subst, arith}
use Rattle.std.specs.Prelude.{slice_get, option_map, nat_lt, nat_le, ◌==◌, IsTrue, IsSomeAnd}
use Rattle.std.specs.Option.{option_map_or}
use Rattle.std.proofs.lemmas.Bool.{and_parts, true≢false}
use Rattle.std.proofs.lemmas.Option.{none-some, same_Some}
use Rattle.labelled_disk.specs.File.{File}
use Rattle.labelled_disk.specs.FilesOn.{disk_file, files_on, is_page}
use Rattle.labelled_disk.specs.Label.{is_file, names}
use Rattle.labelled_disk.specs.Root.{counter_of, root_page, serial_of, short_at}
use Rattle.labelled_disk.specs.Sectors.{Sector}
use Rattle.labelled_disk.specs.State.{DiskState}
use Rattle.labelled_disk.proofs.AscendingLemmas.{same_by_look_up}
use Rattle.labelled_disk.proofs.SectorWrites as w
use Rattle.labelled_disk.proofs.WriteLemmas as laws
use Rattle.frame_pool.specs.Frames.{Slots}
use Rattle.label_laws.specs.Shape as shapes
use Rattle.label_laws.proofs.PageLemmas.{pages_by_sectors}
use Rattle.label_laws.proofs.ShapeLemmas.{labels_give_shape, same_by_pages}
use Rattle.swapper_kernel.specs.Differs.{Differs}
use Rattle.swapper_kernel.specs.DiffersLaws.{names_id, same_place}
use Rattle.filer_kernel.specs.View.{View}
use Rattle.session_words.specs.FrameLaws.{HasFrames}
use Rattle.session_words.specs.Parts.{DirtyAreLoose, HasRoot, is_loose, is_loose_at}
use Rattle.session_words.proofs.FoundLemmas.{above_reserved, file_id_of}
use Rattle.session_words.proofs.LooseLemmas.{firm_root, merged_differs}
use Rattle.session_words.proofs.StopLemmas.{loose_right}
use Rattle.file_manager.specs.declared.volume.Volume.{Volume}
use Rattle.volume_root.specs.declared.root.Root.{Root}
use Rattle.pair_machine.specs.Pair.{Pair}
use Rattle.volume_pair.specs.CrashStates.{HasFilesInUse}
use Rattle.volume_pair.specs.Ends.{HasClosed}
use Rattle.volume_pair.specs.Kept.{IsRootOf}
use Rattle.volume_pair.specs.Pairs.{IsPaired}
use Rattle.pair_session.specs.Second.{IsClosedWith, IsLeftWith}

-- where pages of the volume's own alone may differ, the files are the same
files_same : (d e : List Sector) → Differs (is_loose_at []) d e → files_on e ≡ files_on d
files_same d e differs =
    same_by_look_up (files_on e) (files_on d) (laws.files_on_rise false 0 0 e) (laws.files_on_rise false 0 0 d)
    (λ id. laws.look_up false 0 0 e id ∙ either id (disk_file false e id) refl (disk_file false d id) refl ((labels_give_shape false d e differs.labels).shapes id) ∙ sym (laws.look_up false 0 0 d id))
  where
    firm : (id p i : ℕ) (s : Sector) → is_page id p s ≡ true → is_loose_at [] i s.0 ≡ false
    firm id p i s is =
        let file = (and_parts (is_file s.0) (s.0.id == id) (w.page_of false id p s is)).0 in
        let above = above_reserved s.0.id (file_id_of s.0 file) in
        let a : nat_lt s.0.id 4 ≡ false = grind arith in
        let b : nat_le 16 s.0.id ≡ true = grind arith in
        rw (a, b) refl

    either : (id : ℕ) (o : Option File) → disk_file false e id ≡ o → (q : Option File) → disk_file false d id ≡ q → option_map shapes.bare_file o ≡ option_map shapes.bare_file q → o ≡ q
    either id None a None b same = refl
    either id None a (Some f) b same = absurd (none-some (shapes.bare_file f) same)
    either id (Some g) a None b same = absurd (none-some (shapes.bare_file g) (sym same))
    either id (Some g) a (Some f) b same =
        ap (λ (x : File). Some x)
        (same_by_pages f g (same_Some (shapes.bare_file g) (shapes.bare_file f) same)
        (λ p low. sym (ap (λ (o : Option File). option_map_or (λ (x : File). slice_get x.pages p) o None) a)
        ∙ pages_by_sectors false d e id p differs.labels (λ i s there is. differs.pages i s there.here (firm id p i s is))
        ∙ ap (λ (o : Option File). option_map_or (λ (x : File). slice_get x.pages p) o None) b))

-- the dirty frames of a side are of the volume's own pages
own_dirty : (slots : Slots) → HasFrames slots [] → DirtyAreLoose slots []
own_dirty slots frames id page dirty =
    elim (frames.known id page (record { slot = dirty.slot; frame = dirty.frame; has = dirty.has; same_id = dirty.same_id; same_page = dirty.same_page })) [
      | inl (some, few) ↦ let low : nat_lt id 4 ≡ true = grind (arith, few) in rw low refl
      | inr shown ↦ absurd (true≢false (sym shown))
    ]

-- the root of a pair's volume has the numbers of the sectors that it had
module _ (d : List Sector) (root : Root) (is : IsRootOf d root) where
  pub of_serial : root.serial ≡ serial_of d
  of_serial = ap (λ (r : Root). r.serial) is

  pub of_counter : root.counter ≡ counter_of d
  of_counter = ap (λ (r : Root). r.counter) is

  -- a volume that a pair closed
  pub closed_with : (p : Pair) (disk : DiskState) → HasClosed p root disk → IsClosedWith d p.to disk
  closed_with p disk h = record {
    sectors = h.sectors;
    revealed = h.revealed;
    sound = h.sound;
    files_are = h.files;
    same_serial = h.same_serial ∙ of_serial;
    same_counter = h.same_counter ∙ of_counter;
    synced = h.synced;
  }

-- what the second disk reveals of a pair's volume
pub left_files : (from to : View) (volume : Volume) (p : Pair) → IsPaired from to volume p → (e : List Sector) → to.disk.contents ≡ Some e → HasFilesInUse p.to volume.root.serial volume.root.counter e
left_files from to volume p h e revealed =
    let stands = h.to_is.stands in
    let right = h.to_is.can_open.right in
    let same : stands.sectors ≡ e = same_Some stands.sectors e (sym stands.revealed ∙ revealed) in
    let differs : Differs (is_loose_at []) h.second e = subst (λ (x : List Sector). Differs (is_loose_at []) h.second x) same (merged_differs [] stands.sectors to.slots h.second stands.merged (own_dirty to.slots h.to_is.frames)) in
    let place : slice_get e 0 ≡ slice_get h.second 0 = same_place (is_loose_at []) h.second e differs 0 (λ s here. firm_root [] s.0.id s.0.page
    (names_id s.0 (record { id = 4; page = 0 }) (subst (λ (o : Option Sector). IsSomeAnd o (λ t. IsTrue (names t.0 (record { id = 4; page = 0 })))) here right.has_root.label))) in
    let root = subst (λ (o : Option Sector). HasRoot (length h.second) o volume.root.serial volume.root.counter p.capacity) (sym place) h.root in (
      record {
        files_are = files_same h.second e differs ∙ h.to_is.files_are;
        right = loose_right [] h.second e differs right;
        same_serial = root.has_serial;
        same_counter = root.has_counter;
      },
      root.open_flag,
    )

-- a volume that a pair leaves as it stands
pub left_with : (d : List Sector) (from to : View) (volume : Volume) (p : Pair) → IsRootOf d volume.root → IsPaired from to volume p → IsLeftWith d p.to to.disk
left_with d from to volume p is h =
    let stands = h.to_is.stands in
    let files = left_files from to volume p h stands.sectors stands.revealed in
    record {
      sectors = stands.sectors;
      revealed = stands.revealed;
      right = files.0.right;
      files_are = files.0.files_are;
      same_serial = files.0.same_serial ∙ of_serial d volume.root is;
      same_counter = files.0.same_counter ∙ of_counter d volume.root is;
      open_flag = files.1;
    }
