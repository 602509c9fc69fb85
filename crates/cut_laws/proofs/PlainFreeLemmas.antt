-- A new volume has plain labels on free sectors, and permitted writes keep them so.
use Rattle.std.proofs.Common.{◌≡◌, ℕ, zero, suc, ◌+◌, ◌-◌, ◌<◌, ◌≤◌, true, List, [], ◌∷◌, length, drop, Some, refl, sym, ◌∙◌, ap, subst, arith, eqb, length-set}
use Rattle.std.specs.Prelude.{slice_get}
use Rattle.std.proofs.lemmas.Bool.{true≢false, ne_eqb, lt-leb, le-ltb}
use Rattle.std.proofs.lemmas.List.FromFn.{length-map-range_with_len, get_or-map-range_with_len}
use Rattle.std.proofs.lemmas.Option.{same_Some, slice_get_within, slice_get-get_or}
use Rattle.labelled_disk.specs.declared.disk.DiskWrite.{DiskWrite}
use Rattle.labelled_disk.specs.declared.label.Label.{Label}
use Rattle.labelled_disk.specs.declared.layout.Layout.{Layout}
use Rattle.labelled_disk.specs.CrashState.{crash_state, written}
use Rattle.labelled_disk.specs.Label.{is_free, root_label}
use Rattle.labelled_disk.specs.Layout.{first_data, layout_of, vam, vfm}
use Rattle.labelled_disk.specs.Permitted.{Permitted}
use Rattle.labelled_disk.specs.Sectors.{Sector, zero_sector}
use Rattle.labelled_disk.specs.WriteLaws.{HasData}
use Rattle.labelled_disk.proofs.Finds.{get_set_other}
use Rattle.volume_root.specs.Format.{formatted, new_root, new_sector, new_sectors}
use Rattle.volume_root.specs.RootPage.{root_bytes}
use Rattle.label_laws.specs.Cleared.{is_plain}
use Rattle.label_laws.specs.PermittedRuns.{ArePermitted}
use Rattle.label_laws.proofs.MixedLemmas.{written_long}
use Rattle.cut_laws.specs.NewPages.{HasPlainFree, NewIsPlain, PlainFreeStays}
use Rattle.cut_laws.proofs.CrashStateLemmas.{crash_state-then, get_some, permitted-drop}
use Rattle.cut_laws.proofs.StayLemmas.{named_page}
use Rattle.cut_laws.proofs.TurnLemmas.{Turn, stays, bytes, fresh, freed, marked, turn}

abbrev Plain : Label → Type 0
Plain l = is_plain l ≡ true

-- one write
plain_then : (d : List Sector) (write : DiskWrite) → Permitted d write → HasPlainFree d → HasPlainFree (written write d)
plain_then d write permitted plain i t holds free =
    let s = get_some d i (omega (arith, slice_get_within (written write d) i t holds.here, written_long d write)) in
    let low : first_data (length d) ≤ i = subst (λ (n : ℕ). first_data n ≤ i) (written_long d write) holds.is_data in
    either s.0 (plain i s.0 (record { is_data = low; here = s.1 })) (turn d write i s.0 t permitted low s.1 holds.here)
  where
    either : (s : Sector) → (is_free s.0 ≡ true → Plain s.0) → Turn write i s t → Plain t.0
    either s old (stays e) = subst (λ (v : Sector). Plain v.0) (sym e) (old (ap (λ (v : Sector). is_free v.0) (sym e) ∙ free))
    either s old (bytes wanted is named label) = subst Plain (sym label) (old (ap is_free (sym label) ∙ free))
    either s old (fresh is was new page) = absurd (true≢false (sym free ∙ new))
    either s old (freed is new) = ap (λ (v : Sector). is_plain v.0) new
    either s old (marked is same lead new page) =
        let none : s.0.page ≡ 0 = named_page s.0 (record { id = 0; page = 0 }) (old (ap (λ (n : ℕ). eqb n 0) (sym same) ∙ free)) in
        absurd (omega (arith, none, lead))

pub plain_free_stays : PlainFreeStays
plain_free_stays d writes permitted plain zero = plain
plain_free_stays d [] permitted plain (suc j) = plain
plain_free_stays d (w ∷ ws) permitted plain (suc j) = plain_free_stays (written w d) ws permitted.1 (plain_then d w permitted.0 plain) j

-- from moment s on
pub plain_from : (d : List Sector) (writes : List DiskWrite) (s j : ℕ) → ArePermitted d writes → s ≤ j → HasPlainFree (crash_state d writes s) → HasPlainFree (crash_state d writes j)
plain_from d writes s j permitted order plain =
    subst HasPlainFree (crash_state-then d writes s (j - s) ∙ ap (crash_state d writes) (let z : s + (j - s) ≡ j = omega (arith, order) in z))
    (plain_free_stays (crash_state d writes s) (drop s writes) (permitted-drop d writes s permitted) plain (j - s))

-- a sector behind the maps of a new volume
behind_maps : (layout : Layout) (i : ℕ) → layout.vam < i → layout.first ≤ i → new_sector layout i ≡ zero_sector
unfolding new_sector
behind_maps layout i over low = rw (ne_eqb i 0 (λ e. omega (arith, e, over)), lt-leb i layout.vam over, le-ltb i layout.first low) refl

module _ (n serial counter : ℕ) where
  -- sector i before the root is written, and the root
  abbrev laid : ℕ → Sector
  laid = new_sector (layout_of n)

  abbrev root : Sector
  root = (root_label, root_bytes (new_root n serial counter))

  laid_size : length (new_sectors (layout_of n) n) ≡ n
  laid_size = length-map-range_with_len laid 0 n

  size : length (formatted n serial counter) ≡ n
  size = length-set (new_sectors (layout_of n) n) 0 root ∙ laid_size

  first_is : first_data n ≡ 1 + vam n + vfm n
  unfolding first_data
  first_is = refl

  -- behind the root each stands as it was laid
  stands : (i : ℕ) → 1 ≤ i → i < n → slice_get (formatted n serial counter) i ≡ Some (laid i)
  stands i behind below =
      get_set_other (new_sectors (layout_of n) n) 0 i root (λ e. omega (arith, e, behind))
      ∙ slice_get-get_or (new_sectors (layout_of n) n) i zero_sector (omega (arith, laid_size, below))
      ∙ ap (λ (t : Sector). Some t) (get_or-map-range_with_len laid 0 n i i zero_sector below (omega arith))

  -- each data sector is free, and of zeros
  new_data : (i : ℕ) (s : Sector) → HasData (formatted n serial counter) i s → s ≡ zero_sector
  new_data i s holds =
      let low : first_data n ≤ i = subst (λ (k : ℕ). first_data k ≤ i) size holds.is_data in
      let below = slice_get_within (formatted n serial counter) i s holds.here in
      sym (same_Some (laid i) s (sym (stands i (omega (arith, low, first_is)) (omega (arith, size, below))) ∙ holds.here))
      ∙ behind_maps (layout_of n) i (omega (arith, low, first_is)) (omega (arith, low, first_is))

pub new_is_plain : NewIsPlain
new_is_plain n serial counter count i s holds free = ap (λ (t : Sector). is_plain t.0) (new_data n serial counter i s holds)
