-- What is written for a disk is its conversion.
use Rattle.std.proofs.Common.{◌≡◌, inl, inr, ℕ, zero, suc, ◌+◌, ◌<◌, ◌≤◌, Bool, true, false, not, ◌&&◌, List, [], ◌∷◌, ◌++◌, length, map, Some, refl, sym, ◌∙◌, ap, subst, arith}
use Rattle.std.specs.Prelude.{slice_get, replicate, if◌then◌else◌, ◌==◌}
use Rattle.std.specs.List.{AllByRecursion, range_with_len}
use Rattle.std.proofs.lemmas.Bool.{and_parts, true≢false}
use Rattle.std.proofs.lemmas.List.{length-map, length-drop}
use Rattle.std.proofs.lemmas.List.Elements.{All-replicate}
use Rattle.std.proofs.lemmas.Option.{slice_get_within}
use Rattle.labelled_disk.specs.declared.disk.DiskWrite.{DiskWrite}
use Rattle.labelled_disk.specs.declared.disk.DiskWrite.TheVariants.{Whole}
use Rattle.labelled_disk.specs.declared.label.Label.{Label}
use Rattle.labelled_disk.specs.Label.{is_file, is_free, leader_page, page_label, root_label}
use Rattle.labelled_disk.specs.File.{File, file_at, total_room}
use Rattle.labelled_disk.specs.FilesOn.{files_on, is_of, is_page}
use Rattle.labelled_disk.specs.Layout.{IsCount, capacity, data_sectors, first_data, vam, vfm}
use Rattle.labelled_disk.specs.CrashState.{written}
use Rattle.labelled_disk.specs.Root.{root_page, number_at, serial_of, counter_of, page_in}
use Rattle.labelled_disk.specs.Right.{IsGiven}
use Rattle.labelled_disk.specs.Runs.{freeing, IsWriteInForm}
use Rattle.labelled_disk.specs.Sectors.{Sector, IsSector, AreSectors}
use Rattle.labelled_disk.specs.WriteRuns.{after_writes}
use Rattle.labelled_disk.proofs.Finds.{found_at}
use Rattle.labelled_disk.proofs.RunLemmas.{sectors_stay}
use Rattle.labelled_disk.proofs.WriteLemmas as laws
use Rattle.page_tree.specs.Page.{page_at}
use Rattle.volume_root.specs.declared.root.Root.{Root}
use Rattle.volume_root.specs.OldRoot.{IsValidOldRoot, judged_old}
use Rattle.volume_root.specs.RootPage.{root_bytes}
use Rattle.label_laws.specs.Counts.{places}
use Rattle.label_laws.proofs.CountLemmas.{rooms}
use Rattle.label_survey.specs.Counter.{IsRaised}
use Rattle.scavenger.specs.Orders.{map_writes}
use Rattle.scavenger.proofs.LayoutLemmas.{first_is, first_within}
use Rattle.old_files.specs.OldFiles.{files_old, heads_file, is_old_needed}
use Rattle.old_files.specs.Conversion.{IsMapWrite}
use Rattle.old_files.specs.Laws.{as_leader}
use Rattle.old_files.specs.Placing.{leader_of, old_leaders, spare_below, IsPlaced}
use Rattle.old_files.specs.Arranging.{IsSpare, IsSpareWrite, IsSettled}
use Rattle.old_files.proofs.LeaderLemmas.{head_is, old_leaders_are}
use Rattle.old_files.proofs.PlacingLemmas.{placed_are_settled}
use Rattle.old_files.proofs.ArrangeLemmas.{part_of, first_passes}
use Rattle.convert_laws.specs.Converted.{Conversion, today, both_maps, settled_disk, IsConversionOf, IsConverted}
use Rattle.convert_laws.specs.Conversions.{IsFor, IsConvertedTo, ConversionsConvert, LeftIsTakenAgain}
use Rattle.convert_laws.specs.Orders.{needs_old, old_unneeded, old_spare, leader_writes, first_writes}
use Rattle.convert_laws.proofs.ConvertedLemmas.{converting_converts, same_files}
use Rattle.convert_laws.proofs.RereadCounts.{spare_count}
use Rattle.convert_laws.proofs.RootForm.{root_in_form}
use Rattle.convert_laws.proofs.WriteLemmas.{first_writes_place}

-- Lists.

all_append : (P : DiskWrite → Type 0) (a b : List DiskWrite) → AllByRecursion P a → AllByRecursion P b → AllByRecursion P (a ++ b)
all_append P [] b x y = y
all_append P (w ∷ a) b x y = (x.0, all_append P a b x.1 y)

all_by : {X : Type 0} (P : X → Type 0) (ls : List X) → ((k : ℕ) (l : X) → slice_get ls k ≡ Some l → P l) → AllByRecursion P ls
all_by P [] each = tt
all_by P (l ∷ ls) each = (each 0 l refl, all_by P ls (λ k m at. each (suc k) m at))

each_made : {X : Type 0} (P : X → Type 0) (f : ℕ → X) (a n : ℕ) → ((i : ℕ) → a ≤ i → i < a + n → P (f i)) → AllByRecursion P (map f (range_with_len a n))
each_made P f a zero each = tt
each_made P f a (suc n) each = (each a (omega arith) (omega arith), each_made P f (a + 1) n (λ i from below. each i (omega (arith, from)) (omega (arith, below))))

-- each place of one that passes
places_are : (P : ℕ → Type 0) (test : ℕ → Sector → Bool) (n : ℕ) (ss : List Sector) → ((j : ℕ) (s : Sector) → slice_get ss j ≡ Some s → test (n + j) s ≡ true → P (n + j)) → AllByRecursion P (places test n ss)
places_are P test n [] each = tt
places_are P test n (s ∷ ss) each =
    either (test n s) refl (places_are P test (n + 1) ss (λ j t at passes. (let z : n + suc j ≡ n + 1 + j = omega arith in subst P z (each (suc j) t at (ap (λ (k : ℕ). test k t) z ∙ passes)))))
  where
    either : (b : Bool) → test n s ≡ b → AllByRecursion P (places test (n + 1) ss) → AllByRecursion P (if b then n ∷ places test (n + 1) ss else places test (n + 1) ss)
    either true e more = (let z : n ≡ n + 0 = omega arith in subst P (sym z) (each 0 s refl (ap (λ (k : ℕ). test k s) (sym z) ∙ e)), more)
    either false e more = more

-- a sector that an old file needs is a file's
pub needed_is_file : (xs : List Sector) (i : ℕ) (y : Sector) → slice_get xs i ≡ Some y → is_old_needed xs i ≡ true → is_file y.0 ≡ true
needed_is_file xs i y at needs = elim (part_of xs i y at needs).what [
  | inl first ↦ (head_is y.0.id y (first_passes (heads_file y.0.id) xs i y at first)).0
  | inr q ↦ page (first_passes (is_page y.0.id y.0.page) xs i y at q.2)
]
  where
    page : is_page y.0.id y.0.page y ≡ true → is_file y.0 ≡ true
    page h = (and_parts (is_file y.0) (y.0.id == y.0.id) (and_parts (is_of y.0.id y) (y.0.page == y.0.page) h).0).0

-- after writes in form sectors are sectors
runs_stay : (ws : List DiskWrite) (e : List Sector) → AreSectors e → AllByRecursion IsWriteInForm ws → AreSectors (after_writes ws e)
runs_stay [] e are form = are
runs_stay (w ∷ ws) e are form = runs_stay ws (written w e) (sectors_stay e w are form.0) form.1

free_form : (is : List ℕ) → AllByRecursion IsWriteInForm (freeing is)
free_form [] = tt
free_form (i ∷ is) = (λ page long bytes. record { id_fits = omega arith; page_fits = omega arith; kind_fits = omega arith; flags_fit = omega arith; last_fits = omega arith; whole_page = long; bytes = bytes }, free_form is)

lead_form : (is : List ℕ) (hs : List Label) → AllByRecursion (λ l. IsSector (l, replicate 512 0)) hs → AllByRecursion IsWriteInForm (leader_writes is hs)
lead_form [] hs form = tt
lead_form (i ∷ is) [] form = tt
lead_form (i ∷ is) (h ∷ hs) form = (form.0, lead_form is hs form.1)

spare_freed : (d : List Sector) (is : List ℕ) → AllByRecursion (IsSpare d) is → AllByRecursion (IsSpareWrite d) (freeing is)
spare_freed d [] all = tt
spare_freed d (i ∷ is) all = ((all.0, λ page. inl refl), spare_freed d is all.1)

spare_led : (d : List Sector) (is : List ℕ) (hs : List Label) → AllByRecursion (IsSpare d) is → AllByRecursion (λ l. l.page ≡ leader_page) hs → AllByRecursion (IsSpareWrite d) (leader_writes is hs)
spare_led d [] hs all pages = tt
spare_led d (i ∷ is) [] all pages = tt
spare_led d (i ∷ is) (h ∷ hs) all pages = ((all.0, inr pages.0), spare_led d is hs all.1 pages.1)

leader_pages : (fs : List File) → AllByRecursion (λ l. l.page ≡ leader_page) (map leader_of fs)
leader_pages [] = tt
leader_pages (f ∷ fs) = (refl, leader_pages fs)

map_low : (d : List Sector) (id first : ℕ) (bytes : List ℕ) (pages : ℕ) → 1 ≤ first → first + pages ≤ first_data (length d) → AllByRecursion (IsMapWrite d) (map_writes id first bytes pages)
map_low d id first bytes pages some within =
    each_made (IsMapWrite d) (λ i. Whole (first + i) (page_label id 0 i) (page_at bytes i)) 0 pages (λ i from below. (omega (arith, some), omega (arith, within, below)))

-- the label of a leader is that of a file's page 0 but for the page
pub leader_file : (d : List Sector) (l : Label) (k : ℕ) → slice_get (old_leaders d) k ≡ Some l → (s : Sector) × (i : ℕ) × (slice_get (data_sectors d) i ≡ Some s) × (is_file s.0 ≡ true) × (l ≡ as_leader s.0)
leader_file d l k at =
    let e = (old_leaders_are d).each k l at in
    let f = found_at (heads_file l.id) (data_sectors d) e.0 e.1 in
    (e.0, f.0, f.1, (head_is l.id e.0 f.2).0, e.2)

-- A disk whose files have room.

module _ (d : List Sector) (accepted : IsCount (length d)) (small : length d ≤ 65536) (room : total_room (files_old d) ≤ capacity (length d)) where
  abbrev xs : List Sector
  xs = data_sectors d

  few : length d < leader_page
  few = omega (arith, small)

  within : first_data (length d) ≤ length d
  within = first_within (length d) accepted

  -- there is a sector for each leader
  pub enough : length (old_leaders d) ≤ spare_below xs (length xs)
  enough =
      let long = length-map (files_old d) leader_of in
      let past = length-drop (first_data (length d)) d in
      let first = first_is (length d) in
      omega (arith, long, past, first, rooms (files_old d), room, spare_count d few, accepted)

  pub placed : IsPlaced xs (data_sectors (after_writes (first_writes d) d)) (old_leaders d)
  placed = first_writes_place d within enough

  spare_place : (j : ℕ) (s : Sector) → slice_get xs j ≡ Some s → needs_old d (first_data (length d) + j) ≡ false → IsSpare d (first_data (length d) + j)
  spare_place j s at free =
      let in_data = slice_get_within xs j s at in
      let past = length-drop (first_data (length d)) d in
      record { is_data = omega arith; within = omega (arith, in_data, past); spare = free }

  no_need : (a b : Bool) → (a && not b) ≡ true → b ≡ false
  no_need true false h = refl
  no_need true true h = absurd (true≢false (sym h))
  no_need false b h = absurd (true≢false (sym h))

  not_true : (b : Bool) → not b ≡ true → b ≡ false
  not_true false h = refl
  not_true true h = absurd (true≢false (sym h))

  pub spare : AllByRecursion (IsSpareWrite d) (first_writes d)
  spare = all_append (IsSpareWrite d) (freeing (old_unneeded d)) (leader_writes (old_spare d) (old_leaders d))
      (spare_freed d (old_unneeded d) (places_are (IsSpare d) (λ i s. not (is_free s.0) && not (needs_old d i)) (first_data (length d)) xs (λ j s at passes. spare_place j s at (no_need (not (is_free s.0)) (needs_old d (first_data (length d) + j)) passes))))
      (spare_led d (old_spare d) (old_leaders d) (places_are (IsSpare d) (λ i s. not (needs_old d i)) (first_data (length d)) xs (λ j s at passes. spare_place j s at (not_true (needs_old d (first_data (length d) + j)) passes))) (leader_pages (files_old d)))

  -- what is no file's is free
  pub rest_is_free : (i : ℕ) (s : Sector) → slice_get (data_sectors (after_writes (first_writes d) d)) i ≡ Some s → is_file s.0 ≡ false → is_free s.0 ≡ true
  rest_is_free i s at none = by (is_old_needed xs i) refl
    where
      by : (b : Bool) → is_old_needed xs i ≡ b → is_free s.0 ≡ true
      by true e = absurd (true≢false (sym (needed_is_file xs i s (sym (placed.kept i e) ∙ at) e) ∙ none))
      by false e = elim (placed.gaps i s e at) [
        | inl leads ↦ let f = leader_file d s.0 (spare_below xs i) leads in absurd (true≢false (sym f.3 ∙ sym (ap is_file f.4) ∙ none))
        | inr free ↦ free.1
      ]

  module _ (are : AreSectors d) where
    pub form : AllByRecursion IsWriteInForm (first_writes d)
    form = all_append IsWriteInForm (freeing (old_unneeded d)) (leader_writes (old_spare d) (old_leaders d)) (free_form (old_unneeded d))
        (lead_form (old_spare d) (old_leaders d) (all_by (λ l. IsSector (l, replicate 512 0)) (old_leaders d) (λ k l at. one l (leader_file d l k at))))
      where
        one : (l : Label) → (s : Sector) × (i : ℕ) × (slice_get xs i ≡ Some s) × (is_file s.0 ≡ true) × (l ≡ as_leader s.0) → IsSector (l, replicate 512 0)
        one l f =
            let there : slice_get d (first_data (length d) + f.1) ≡ Some f.0 = sym (laws.get_drop (first_data (length d)) d f.1) ∙ f.2 in
            let is = are (first_data (length d) + f.1) f.0 there in
            subst (λ (m : Label). IsSector (m, replicate 512 0)) (sym f.4) (record {
              id_fits = is.id_fits;
              page_fits = omega arith;
              kind_fits = is.kind_fits;
              flags_fit = is.flags_fit;
              last_fits = is.last_fits;
              whole_page = refl;
              bytes = All-replicate (λ b. b < 256) 512 0 (omega arith);
            })

    pub sectors : (root : Root) → AreSectors (written (Whole 0 root_label (root_bytes root)) (after_writes (first_writes d) d))
    sectors root = sectors_stay (after_writes (first_writes d) d) (Whole 0 root_label (root_bytes root)) (runs_stay (first_writes d) d are form) (root_in_form root)

module _ (d : List Sector) (c : Conversion) (are : AreSectors d) (valid : IsValidOldRoot (length d) c.root) (room : total_room (files_old d) ≤ capacity (length d)) (is : IsFor d c) where
  accepted : IsCount (length d)
  accepted = (valid.accepted.0, omega (arith, valid.accepted.1))

  after_is : after_writes (first_writes d) d ≡ after_writes c.arrange d
  after_is = ap (λ (ws : List DiskWrite). after_writes ws d) (sym is.arrange)

  settled : IsSettled (data_sectors d) (data_sectors (after_writes c.arrange d))
  settled = subst (λ (e : List Sector). IsSettled (data_sectors d) (data_sectors e)) after_is
      (placed_are_settled (data_sectors d) (data_sectors (after_writes (first_writes d) d)) (old_leaders d) (placed d accepted valid.accepted.1 room))

  first_split : 1 + vam c.root.sectors + vfm c.root.sectors ≡ first_data (length d)
  first_split = ap (λ (n : ℕ). 1 + vam n + vfm n) valid.count ∙ sym (first_is (length d))

  low : AllByRecursion (IsMapWrite d) (both_maps c)
  low = all_append (IsMapWrite d) (map_writes 1 1 c.bits (vam c.root.sectors)) (map_writes 2 (1 + vam c.root.sectors) c.names (vfm c.root.sectors))
      (map_low d 1 1 c.bits (vam c.root.sectors) (omega arith) (omega (arith, first_split)))
      (map_low d 2 (1 + vam c.root.sectors) c.names (vfm c.root.sectors) (omega arith) (omega (arith, first_split)))

  pub is_conversion : IsConversionOf d c
  is_conversion = record {
    accepted = accepted;
    count = valid.count;
    serial = (valid.serial, is.serial_fits);
    counter = (valid.counter, omega (arith, is.counter.kept, is.counter_fits));
    next_fits = is.counter_fits;
    spare = subst (λ (ws : List DiskWrite). AllByRecursion (IsSpareWrite d) ws) (sym is.arrange) (spare d accepted valid.accepted.1 room);
    settled = settled;
    freed = λ i s at none. rest_is_free d accepted valid.accepted.1 room i s (ap (λ (e : List Sector). slice_get (data_sectors e) i) after_is ∙ at) none;
    room = room;
    sectors = subst (λ (e : List Sector). AreSectors (written (Whole 0 root_label (root_bytes (today c.root))) e)) after_is (sectors d accepted valid.accepted.1 room are (today c.root));
    low = low;
    bits = is.bits;
    names = is.names;
    raised = is.counter;
  }

-- a counter is raised above the files, whatever else the disk is
pub raised_by_files : (d e : List Sector) (serial counter now : ℕ) → files_on e ≡ files_on d → IsRaised d serial counter now → IsRaised e serial counter now
raised_by_files d e serial counter now same raised = record {
  kept = raised.kept;
  given = subst (λ (fs : List File). AllByRecursion (IsGiven serial now) fs) (sym same) raised.given;
  least = elim raised.least [
    | inl is ↦ inl is
    | inr f ↦ inr (f.0, sym (laws.look_up false 0 0 e f.0.id) ∙ ap (λ (fs : List File). file_at fs f.0.id) same ∙ laws.look_up false 0 0 d f.0.id ∙ f.1, f.2, f.3)
  ];
}

pub conversions_convert : ConversionsConvert
conversions_convert restores d c are valid room is =
    let conversion = is_conversion d c are valid room is in
    let all = converting_converts restores d c conversion in
    let to = converted all.converted conversion in
    record {
      converted = to;
      crash_states = λ k. elim (all.crash_states k) [
        | inl still ↦ inl still
        | inr end ↦ inr (subst (IsConvertedTo d) (sym end) to)
      ];
    }
  where
    converted : {h : List Sector} → IsConverted d c h → IsConversionOf d c → IsConvertedTo d h
    converted {h} done conversion =
        let root : c.root.serial ≡ serial_of d = ap (λ (r : Root). r.serial) is.root in
        let counter : c.root.counter ≡ counter_of d = ap (λ (r : Root). r.counter) is.root in
        record {
          sound = done.sound;
          files = done.files;
          has_serial = done.has_serial ∙ root;
          has_counter = subst (λ (n : ℕ). IsRaised h (serial_of d) n (counter_of h)) counter (subst (λ (n : ℕ). IsRaised h n c.root.counter (counter_of h)) root
              (raised_by_files (settled_disk d c) h c.root.serial c.root.counter (counter_of h) (done.files ∙ sym (settled_files conversion)) done.has_counter));
        }
      where
        settled_files : IsConversionOf d c → files_on (settled_disk d c) ≡ files_old d
        settled_files conversion = same_files d c conversion

pub left_is_taken_again : LeftIsTakenAgain
left_is_taken_again d e still = record {
  sectors = still.sectors;
  root = still.root;
  judged = λ s. ap (λ (n : ℕ). judged_old n s) still.sectors;
  wanted = ap total_room still.files;
  room = ap capacity still.sectors;
  converted = λ h to.
      let root : root_page e ≡ root_page d = ap page_in still.root in
      let serial : serial_of e ≡ serial_of d = ap (λ (p : List ℕ). number_at p 16) root in
      let counter : counter_of e ≡ counter_of d = ap (λ (p : List ℕ). number_at p 20) root in
      record {
        sound = to.sound;
        files = to.files ∙ still.files;
        has_serial = to.has_serial ∙ serial;
        has_counter = subst (λ (n : ℕ). IsRaised h (serial_of d) n (counter_of h)) counter (subst (λ (n : ℕ). IsRaised h n (counter_of e) (counter_of h)) serial to.has_counter);
      };
}
