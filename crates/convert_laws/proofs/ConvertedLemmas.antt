-- What a conversion leaves: that of a restoration of a disk on which a root of today stands already.
use Rattle.std.proofs.Common.{◌≡◌, ◌⊎◌, inl, inr, ⊎_elim, ℕ, suc, ◌+◌, ◌-◌, ◌<◌, ◌≤◌, Bool, true, false, not, ◌&&◌, List, [], ◌∷◌, ◌++◌, length, Option, Some, refl, sym, ◌∙◌, ap, subst, arith, length-set}
use Rattle.std.specs.Prelude.{slice_get}
use Rattle.std.specs.List.{AllByRecursion}
use Rattle.std.proofs.lemmas.Bool.{cases_lt, and_left, and_right, not_from_true}
use Rattle.std.proofs.lemmas.List.{length_push, take_all}
use Rattle.labelled_disk.specs.declared.disk.DiskWrite.{DiskWrite}
use Rattle.labelled_disk.specs.declared.disk.DiskWrite.TheVariants.{Whole, LabelOnly, Page}
use Rattle.labelled_disk.specs.Label.{is_file, is_free, root_label}
use Rattle.labelled_disk.specs.Sectors.{Sector}
use Rattle.labelled_disk.specs.Layout.{capacity, data_sectors, first_data, vam, vfm}
use Rattle.labelled_disk.specs.File.{File, total_room}
use Rattle.labelled_disk.specs.FilesOn.{files_on, files_by}
use Rattle.labelled_disk.specs.Lowest.{is_needed}
use Rattle.labelled_disk.specs.CrashState.{crash_state}
use Rattle.labelled_disk.specs.Root.{IsRoot, page_in, root_page, short_at, number_at, serial_of, counter_of}
use Rattle.labelled_disk.specs.WriteRuns.{after_writes}
use Rattle.labelled_disk.proofs.Finds.{get_set_same}
use Rattle.labelled_disk.proofs.WriteLemmas as laws
use Rattle.labelled_disk.proofs.WriteRunLemmas.{after_writes-append, crash_state-end}
use Rattle.volume_root.specs.RootPage.{IsValidRoot, root_in, root_bytes, root_write}
use Rattle.volume_root.proofs.WrittenLemmas.{is_root, flag_read, root_read, serial_read, counter_read}
use Rattle.label_laws.specs.Counts.{places, unneeded_sectors, needs_place}
use Rattle.label_survey.specs.Counter.{IsRaised}
use Rattle.scavenger.specs.Orders.{Orders, AreFor, map_writes, closing_writes}
use Rattle.scavenger.specs.Restored.{RestoresEach, IsRestored}
use Rattle.old_files.specs.OldFiles.{files_old}
use Rattle.old_files.proofs.ArrangeLemmas.{settled_has_files}
use Rattle.old_files.proofs.NeedLemmas.{settled_are_needed}
use Rattle.old_files.proofs.CrashStateLemmas.{spare_crash_states}
use Rattle.old_files.proofs.ConversionLemmas.{crash_states_before_root, root_is_overwritten}
use Rattle.old_files.specs.Arranging.{IsSpareWrite}
use Rattle.old_files.specs.Conversion.{IsMapWrite, IsStillThat}
use Rattle.convert_laws.specs.Converted.{Conversion, today, closed_today, both_maps, convert_writes, settled_disk, IsConversionOf, IsConverted, ConvertingConverts}

-- no sector passes
places_none : (test : ℕ → Sector → Bool) (n : ℕ) (xs : List Sector) → ((i : ℕ) (s : Sector) → slice_get xs i ≡ Some s → test (n + i) s ≡ false) → places test n xs ≡ []
places_none test n [] none = refl
places_none test n (x ∷ xs) none =
    let here : test n x ≡ false = (let z : n ≡ n + 0 = omega arith in ap (λ (k : ℕ). test k x) z ∙ none 0 x refl) in
    rw here (places_none test (n + 1) xs (λ i s at. (let z : n + 1 + i ≡ n + suc i = omega arith in ap (λ (k : ℕ). test k s) z ∙ none (suc i) s at)))

append_right : (a b c : List DiskWrite) → a ++ (b ++ c) ≡ (a ++ b) ++ c
append_right [] b c = refl
append_right (x ∷ a) b c = ap (λ (l : List DiskWrite). x ∷ l) (append_right a b c)

all_both : (d : List Sector) (a b : List DiskWrite) → AllByRecursion (IsSpareWrite d) a → AllByRecursion (IsMapWrite d) b → AllByRecursion (λ w. IsSpareWrite d w ⊎ IsMapWrite d w) (a ++ b)
all_both d [] [] x y = tt
all_both d [] (w ∷ b) x y = (inr y.0, all_both d [] b tt y.1)
all_both d (w ∷ a) b x y = (inl x.0, all_both d a b x.1 y)

low_too : (d e : List Sector) → length e ≡ length d → (writes : List DiskWrite) → AllByRecursion (IsMapWrite d) writes → AllByRecursion (IsMapWrite e) writes
low_too d e long [] low = tt
low_too d e long (Whole i label page ∷ writes) low = ((low.0.0, subst (λ (n : ℕ). i < first_data n) (sym long) low.0.1), low_too d e long writes low.1)
low_too d e long (LabelOnly i label ∷ writes) low = absurd low.0
low_too d e long (Page i wanted page ∷ writes) low = absurd low.0

module _ (d : List Sector) (c : Conversion) (is : IsConversionOf d c) where
  long_g : length (after_writes c.arrange d) ≡ length d
  long_g = ap (λ (l : List Sector). length l) (sym (crash_state-end d c.arrange)) ∙ (spare_crash_states d c.arrange is.spare (length c.arrange)).sectors

  long : length (settled_disk d c) ≡ length d
  long = length-set (after_writes c.arrange d) 0 (root_label, root_bytes (today c.root)) ∙ long_g

  valid : IsValidRoot (length d) (today c.root)
  valid = record { version = refl; accepted = is.accepted; count = is.count; serial = is.serial.0; counter = is.counter.0 }

  root_here : slice_get (settled_disk d c) 0 ≡ Some (root_label, root_bytes (today c.root))
  root_here = get_set_same (after_writes c.arrange d) 0 (root_label, root_bytes (today c.root)) (let a = is.accepted.0 in omega (arith, long_g, a))

  page_here : root_page (settled_disk d c) ≡ root_bytes (today c.root)
  page_here = ap (λ (o : Option Sector). page_in o) root_here

  data_here : data_sectors (settled_disk d c) ≡ data_sectors (after_writes c.arrange d)
  data_here = laws.data_past false 0 0 (after_writes c.arrange d) 0 (root_label, root_bytes (today c.root)) (laws.first_positive false 0 0 (length (after_writes c.arrange d)))

  pub none_unneeded : unneeded_sectors false (settled_disk d c) ≡ []
  none_unneeded = places_none (λ i s. not (is_free s.0) && not (needs_place false (settled_disk d c) i)) (first_data (length (settled_disk d c))) (data_sectors (settled_disk d c))
      (λ i s at. by i s (ap (λ (l : List Sector). slice_get l i) (sym data_here) ∙ at) (is_file s.0) refl)
    where
      by : (i : ℕ) (s : Sector) → slice_get (data_sectors (after_writes c.arrange d)) i ≡ Some s → (b : Bool) → is_file s.0 ≡ b
          → (not (is_free s.0) && not (needs_place false (settled_disk d c) (first_data (length (settled_disk d c)) + i))) ≡ false
      by i s at false f = and_left (not (is_free s.0)) (not (needs_place false (settled_disk d c) (first_data (length (settled_disk d c)) + i))) (not_from_true (is_free s.0) (is.freed i s at f))
      by i s at true f =
          let z : first_data (length (settled_disk d c)) + i - first_data (length (settled_disk d c)) ≡ i = omega arith in
          let n : is_needed false (data_sectors (settled_disk d c)) (first_data (length (settled_disk d c)) + i - first_data (length (settled_disk d c))) ≡ true =
          ap (λ (k : ℕ). is_needed false (data_sectors (settled_disk d c)) k) z ∙ ap (λ (l : List Sector). is_needed false l i) data_here
          ∙ settled_are_needed d (after_writes c.arrange d) long_g is.settled i s at f in
          and_right (not (is_free s.0)) (not (needs_place false (settled_disk d c) (first_data (length (settled_disk d c)) + i))) (not_from_true (needs_place false (settled_disk d c) (first_data (length (settled_disk d c)) + i)) n)

  serial_here : serial_of (settled_disk d c) ≡ c.root.serial
  serial_here = ap (λ (p : List ℕ). number_at p 16) page_here ∙ serial_read (today c.root) is.serial.1

  counter_here : counter_of (settled_disk d c) ≡ c.root.counter
  counter_here = ap (λ (p : List ℕ). number_at p 20) page_here ∙ counter_read (today c.root) is.counter.1

  abbrev o : Orders
  o = record { root = today c.root; freed = []; bits = c.bits; names = c.names; counter = c.counter }

  for_it : AreFor (settled_disk d c) o
  for_it = record {
    root = sym (ap root_in page_here ∙ root_read (length d) (today c.root) valid is.serial.1 is.counter.1);
    freed = sym none_unneeded;
    bits = is.bits;
    names = is.names;
    counter = subst (λ (n : ℕ). IsRaised (settled_disk d c) n (counter_of (settled_disk d c)) c.counter) (sym serial_here)
        (subst (λ (n : ℕ). IsRaised (settled_disk d c) c.root.serial n c.counter) (sym counter_here) is.raised);
    serial_fits = is.serial.1;
    counter_fits = is.next_fits;
  }

  has_root : IsRoot (length (settled_disk d c)) (slice_get (settled_disk d c) 0)
  has_root = subst (λ (s : Option Sector). IsRoot (length (settled_disk d c)) s) (sym root_here)
      (subst (λ (n : ℕ). IsRoot n (Some (root_label, root_bytes (today c.root)))) (sym long) (is_root (length d) (today c.root) valid is.serial.1 is.counter.1))

  restored : RestoresEach → IsRestored (settled_disk d c) (after_writes (closing_writes o) (settled_disk d c))
  restored restores = (restores (settled_disk d c) o is.sectors has_root for_it).closing (ap (λ (p : List ℕ). short_at p 10) page_here ∙ flag_read (today c.root))

  -- the same writes
  same_end : after_writes (closing_writes o) (settled_disk d c) ≡ after_writes (convert_writes c) d
  same_end =
      root_is_overwritten (after_writes c.arrange d) (both_maps c) root_label (root_bytes (closed_today c)) (root_label, root_bytes (today c.root)) low_there
      ∙ after_writes-append c.arrange (both_maps c ++ root_write (closed_today c) ∷ []) d
      ∙ ap (λ (ws : List DiskWrite). after_writes ws d) (append_right c.arrange (both_maps c) (root_write (closed_today c) ∷ []))
    where
      low_there : AllByRecursion (IsMapWrite (after_writes c.arrange d)) (both_maps c)
      low_there = low_too d (after_writes c.arrange d) long_g (both_maps c) is.low

  pub same_files : files_on (settled_disk d c) ≡ files_old d
  same_files = ap (λ (l : List Sector). files_by false l l) data_here ∙ settled_has_files d (after_writes c.arrange d) long_g is.settled

  converted : RestoresEach → IsConverted d c (after_writes (convert_writes c) d)
  converted restores = subst (λ (h : List Sector). IsConverted d c h) same_end (record {
    sound = (restored restores).sound.1 (subst (λ (fs : List File). total_room fs ≤ capacity (length (settled_disk d c))) (sym same_files) (subst (λ (n : ℕ). total_room (files_old d) ≤ capacity n) (sym long) is.room));
    files = (restored restores).files ∙ same_files;
    has_serial = (restored restores).has_serial ∙ serial_here;
    has_counter = subst (λ (n : ℕ). IsRaised (settled_disk d c) n c.root.counter (counter_of (after_writes (closing_writes o) (settled_disk d c)))) serial_here (subst (λ (n : ℕ). IsRaised (settled_disk d c) (serial_of (settled_disk d c)) n (counter_of (after_writes (closing_writes o) (settled_disk d c)))) counter_here (restored restores).has_counter);
  })

  ends : (k : ℕ) → length (c.arrange ++ both_maps c) < k → crash_state d (convert_writes c) k ≡ after_writes (convert_writes c) d
  ends k past = ap (λ (ws : List DiskWrite). after_writes ws d) (take_all k (convert_writes c) (omega (arith, past, length_push (c.arrange ++ both_maps c) (root_write (closed_today c)))))

  crash_states : (k : ℕ) → IsStillThat d (crash_state d (convert_writes c) k) ⊎ (crash_state d (convert_writes c) k ≡ after_writes (convert_writes c) d)
  crash_states k = ⊎_elim
      (λ (past : length (c.arrange ++ both_maps c) < k). inr (ends k past))
      (λ (before : k ≤ length (c.arrange ++ both_maps c)). inl (crash_states_before_root d (c.arrange ++ both_maps c) (root_write (closed_today c)) (all_both d c.arrange (both_maps c) is.spare is.low) k before))
      (cases_lt (length (c.arrange ++ both_maps c)) k)

pub converting_converts : ConvertingConverts
converting_converts restores d c is = record { converted = converted d c is restores; crash_states = crash_states d c is }
