-- A volume with either clean flag is the same, and a sound one is opened.
use Rattle.std.proofs.Common.{◌≡◌, ◌⊎◌, inl, inr, ℕ, zero, suc, ◌<◌, ◌≤◌, ◌^◌, Bool, true, false, List, [], ◌∷◌, length, drop, Option, Some, None, Ok, Err, refl, sym, ◌∙◌, ap, subst, arith, eqb}
use Rattle.std.specs.Prelude.{All, slice_get, slice_index}
use Rattle.std.specs.Bool.{then_some}
use Rattle.std.specs.Option.{option_map_or}
use Rattle.std.proofs.lemmas.List.Elements.{All-drop}
use Rattle.byteorder.specs.Numbers.{big_from-lt}
use Rattle.labelled_disk.specs.declared.layout.RootFault.{RootFault}
use Rattle.labelled_disk.specs.declared.layout.RootFault.TheVariants as fault
use Rattle.labelled_disk.specs.Label.{is_free, root_label}
use Rattle.labelled_disk.specs.Sectors.{Sector}
use Rattle.labelled_disk.specs.Layout.{data_sectors, first_data}
use Rattle.labelled_disk.specs.FilesOn.{files_on, files_by}
use Rattle.labelled_disk.specs.Lowest.{is_needed}
use Rattle.labelled_disk.specs.Root.{IsRoot, LabelsRight, page_in, short_at, number_at}
use Rattle.labelled_disk.specs.WriteLaws.{HasData}
use Rattle.labelled_disk.proofs.Finds.{get_set_other}
use Rattle.labelled_disk.proofs.WriteLemmas as writes
use Rattle.labelled_disk.proofs.RootLemmas as laws
use Rattle.volume_root.specs.declared.root.Root.{Root}
use Rattle.volume_root.specs.Flag.{FlagLaws, FlagKeepsVolume, SoundIsOpened}
use Rattle.volume_root.specs.RootPage.{Test, first_of, judged, root_in, root_bytes, is_labelled, is_magic, is_version, is_counted, has_serial, has_counter, is_flagged, is_rest, IsValidRoot}
use Rattle.volume_root.specs.Sound.{Sound}
use Rattle.volume_root.proofs.FileMapLemmas.{file_map_kept}
use Rattle.volume_root.proofs.RootLemmas.{passes}
use Rattle.volume_root.proofs.WrittenLemmas.{flag_read, serial_read, counter_read, is_root}

-- A number of 4 bytes.

each_byte : (bytes : List ℕ) → All (λ b. b < 256) bytes → (k : ℕ) → slice_index bytes k < 256
each_byte [] all k = omega arith
each_byte (b ∷ bytes) all zero = all 0 0 (omega arith)
each_byte (b ∷ bytes) all (suc k) = each_byte bytes (λ j d below. all (suc j) d (omega (arith, below))) k

number_fits : (page : List ℕ) (i : ℕ) → All (λ b. b < 256) page → number_at page i < 2 ^ 32
number_fits page i all = let few = big_from-lt 0 4 (drop i page) (each_byte (drop i page) (All-drop (λ (b : ℕ). b < 256) i page all)) in omega (arith, few)

-- Another sector 0.

module _ (s t : Sector) (rest : List Sector) where
  data_kept : data_sectors (t ∷ rest) ≡ data_sectors (s ∷ rest)
  data_kept = writes.data_past false 0 0 (s ∷ rest) 0 t (writes.first_positive false 0 0 (length (s ∷ rest)))

  files_kept : files_on (t ∷ rest) ≡ files_on (s ∷ rest)
  files_kept = ap (λ (xs : List Sector). files_by false xs xs) data_kept

  sound_kept : LabelsRight (t ∷ rest) → short_at t.1 10 ≡ 1 → Sound (s ∷ rest) → Sound (t ∷ rest)
  sound_kept right flag sound = record {
    labels = right;
    clean = flag;
    free_or_needed = subst (λ (xs : List Sector). (i : ℕ) (u : Sector) → slice_get xs i ≡ Some u → (is_free u.0 ≡ true) ⊎ (is_needed false xs i ≡ true)) (sym data_kept) sound.free_or_needed;
    bits = record { low = sound.bits.low; by_label = λ i u there. sound.bits.by_label i u (record { is_data = there.is_data; here = here i u there }); past = sound.bits.past };
    file_map = file_map_kept s t rest sound.file_map;
  }
    where
      here : (i : ℕ) (u : Sector) → HasData (t ∷ rest) i u → slice_get (s ∷ rest) i ≡ Some u
      here i u there =
          let first = writes.first_positive false 0 0 (length (s ∷ rest)) in
          let after : first_data (length (s ∷ rest)) ≤ i = there.is_data in
          sym (get_set_other (s ∷ rest) 0 i t (λ e. omega (arith, e, first, after))) ∙ there.here

-- Another flag.

module _ (s : Sector) (rest : List Sector) (bytes : All (λ b. b < 256) s.1) (has : IsRoot (length (s ∷ rest)) (Some s)) where
  abbrev flagged : Bool → Root
  flagged clean = record (root_in s.1) { clean = clean }

  abbrev now_first : Bool → Sector
  now_first clean = (root_label, root_bytes (flagged clean))

  serial_fits : number_at s.1 16 < 2 ^ 32
  serial_fits = number_fits s.1 16 bytes

  counter_fits : number_at s.1 20 < 2 ^ 32
  counter_fits = number_fits s.1 20 bytes

  valid : (clean : Bool) → IsValidRoot (length (s ∷ rest)) (flagged clean)
  valid clean = record { version = has.version; accepted = has.accepted; count = has.count; serial = has.serial; counter = has.counter }

  has_root : (clean : Bool) → IsRoot (length (s ∷ rest)) (Some (now_first clean))
  has_root clean = is_root (length (s ∷ rest)) (flagged clean) (valid clean) serial_fits counter_fits

  same_serial : (clean : Bool) → number_at (root_bytes (flagged clean)) 16 ≡ number_at s.1 16
  same_serial clean = serial_read (flagged clean) serial_fits

  same_counter : (clean : Bool) → number_at (root_bytes (flagged clean)) 20 ≡ number_at s.1 20
  same_counter clean = counter_read (flagged clean) counter_fits

  still_right : (clean : Bool) → LabelsRight (s ∷ rest) → LabelsRight (now_first clean ∷ rest)
  still_right clean right =
      (laws.root_written false (s ∷ rest) (now_first clean) right (has_root clean) (same_serial clean) (let same = same_counter clean in omega (arith, same))).right

  flag_laws : FlagLaws (s ∷ rest)
  flag_laws = record {
    sectors = λ clean. refl;
    others = λ clean i other. get_set_other (s ∷ rest) 0 i (now_first clean) other;
    same_data = λ clean. data_kept s (now_first clean) rest;
    files = λ clean. files_kept s (now_first clean) rest;
    has_serial = same_serial;
    has_counter = same_counter;
    flag = λ clean. flag_read (flagged clean);
    map = λ clean. refl;
    file_map = λ clean names. file_map_kept s (now_first clean) rest names;
    again = λ before now. refl;
    permitted_first = λ clean. inl (record { place = refl; root_label = refl; valid = has_root clean });
    permitted = λ before now. inl (record { place = refl; root_label = refl; valid = has_root now });
    right = still_right;
    sound = λ sound. sound_kept s (now_first true) rest (still_right true sound.labels) (flag_read (flagged true)) sound;
  }

pub flag_keeps_volume : FlagKeepsVolume
flag_keeps_volume [] are has = absurd (let some = has.accepted.0 in omega (arith, some))
flag_keeps_volume (s ∷ rest) are has = flag_laws s rest (are 0 s refl).bytes has

-- A sound volume.

closed_passes : (flag : ℕ) → flag ≡ 1 → then_some (eqb flag 0) fault.Unclean ≡ None
closed_passes flag is = rw is refl

judged_closed : (n : ℕ) (s : Sector) → short_at s.1 10 ≡ 1 → judged true n s ≡ judged false n s
judged_closed n s is =
    ap (λ (last : Test). option_map_or (λ (why : RootFault). Err why)
    (first_of (is_labelled s.0 ∷ is_magic s.1 ∷ is_version s.1 ∷ is_counted n s.1 ∷ has_serial s.1 ∷ has_counter s.1 ∷ is_flagged s.1 ∷ is_rest s.1 ∷ last ∷ [])) (Ok (root_in s.1)))
    (closed_passes (short_at s.1 10) is)

not_refused : (n : ℕ) (s : Sector) (why : RootFault) → IsRoot n (Some s) → short_at s.1 10 ≡ 1 → ¬ (judged true n s ≡ Err why)
not_refused n s why has closed refused =
    let both : Ok (root_in s.1) ≡ Err why = sym (judged_closed n s closed ∙ passes n s has) ∙ refused in
    absurd (cc both)

pub sound_is_opened : SoundIsOpened
sound_is_opened d are sound why (inl refused) = refused.0 sound.labels.has_root.accepted
sound_is_opened d are sound why (inr refused) =
    not_refused (length d) refused.1 why
    (subst (λ (o : Option Sector). IsRoot (length d) o) refused.2 sound.labels.has_root)
    (sym (ap (λ (o : Option Sector). short_at (page_in o) 10) refused.2) ∙ sound.clean)
    refused.3
