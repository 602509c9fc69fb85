-- What stands on a disk while it is made a volume, and where the power went.
use Rattle.std.proofs.Common.{◌≡◌, ◌⊎◌, inl, inr, ℕ, zero, suc, ◌+◌, ◌-◌, ◌*◌, ◌<◌, ◌≤◌, List, [], ◌∷◌, length, length-append, take, drop, replicate, Option, Some, None, refl, sym, ◌∙◌, ap, subst, arith, get_or}
use Rattle.std.specs.Prelude.{option_map, slice_get, slice_set, IsTrue}
use Rattle.std.proofs.lemmas.Bool.{cases_lt, true≢false}
use Rattle.std.proofs.lemmas.Option.{same_Some}
use Rattle.std.proofs.lemmas.List.{drop-drop, take_all}
use Rattle.std.proofs.lemmas.List.FromFn.{length-map-range_with_len, map-range_with_len_more, take-map-range_with_len}
use Rattle.labelled_disk.specs.declared.disk.DiskWrite.{DiskWrite}
use Rattle.labelled_disk.specs.declared.label.Label.{Label}
use Rattle.labelled_disk.specs.declared.layout.Layout.{Layout}
use Rattle.labelled_disk.specs.CrashState.{crash_state}
use Rattle.labelled_disk.specs.Label.{names, root_label, wanted_root}
use Rattle.labelled_disk.specs.Layout.{layout_of}
use Rattle.labelled_disk.specs.Root.{IsRoot, number_at}
use Rattle.labelled_disk.specs.Sectors.{Sector, free_label, zero_sector}
use Rattle.labelled_disk.specs.State.{DiskState}
use Rattle.labelled_disk.specs.WriteRuns.{after_writes, Appended}
use Rattle.labelled_disk.proofs.WriteRunLemmas.{after_writes-append, crash_state-earlier, crash_state-end}
use Rattle.cut_words.specs.Barriers.{HasBarriers}
use Rattle.cut_words.specs.Between.{IsCutBetween}
use Rattle.cut_words.specs.Cut.{unit, IsCut}
use Rattle.cut_words.proofs.BarrierLemmas.{two_windows}
use Rattle.cut_words.proofs.NumberLemmas.{number_same, prefix_same}
use Rattle.cut_words.proofs.OneWriteLemmas.{IsMixed, one_sector}
use Rattle.cut_words.proofs.UnitLemmas.{same_units}
use Rattle.volume_root.specs.declared.root.Root.{Root}
use Rattle.volume_root.specs.Format.{format_writes, formatted, new_root, new_sector, new_sectors, new_writes, volume_writes, IsNoneOrNew, PartMade}
use Rattle.volume_root.specs.RootPage.{root_bytes, root_write}
use Rattle.volume_root.proofs.Filling.{filled, advance, complete}
use Rattle.volume_root.proofs.NewSectors.{at_root}
use Rattle.volume_root.proofs.SectorRuns.{write_of}

-- The page of sector 0 before the root.
abbrev zeros : List ℕ
zeros = replicate 512 0

-- A page of which a unit with fields of the root is zeros is no root's.

free_is_none : (n : ℕ) (t : Sector) → t.0 ≡ free_label → ¬ IsRoot n (Some t)
free_is_none n t free root = true≢false (sym (let named : IsTrue (names free_label wanted_root) = subst (λ (l : Label). IsTrue (names l wanted_root)) free root.label in named))

no_magic : (n : ℕ) (t : Sector) → unit 0 t.1 ≡ unit 0 zeros → ¬ IsRoot n (Some t)
no_magic n t same root = let first : 0 ≡ 80 = ap (λ (l : List ℕ). get_or l 0 0) (sym (prefix_same t.1 zeros same) ∙ root.magic) in omega (arith, first)

no_serial : (n : ℕ) (t : Sector) → unit 1 t.1 ≡ unit 1 zeros → ¬ IsRoot n (Some t)
no_serial n t same root =
    let none : number_at t.1 16 ≡ 0 = number_same 1 0 4 t.1 zeros (omega arith) same in
    omega (arith, root.serial, none)

-- the units after the fields are zeros before and after
rest_same : (root : Root) (v : ℕ) → unit (suc (suc v)) (root_bytes root) ≡ unit (suc (suc v)) zeros
rest_same root v =
    let z : 32 + 16 * v ≡ 16 * suc (suc v) = omega arith in
    let same : drop 32 (root_bytes root) ≡ drop 32 zeros = refl in
    ap (λ (n : ℕ). take 16 (drop n (root_bytes root))) (sym z)
    ∙ ap (λ (l : List ℕ). take 16 l) (sym (drop-drop (16 * v) 32 (root_bytes root)) ∙ ap (λ (l : List ℕ). drop (16 * v) l) same ∙ drop-drop (16 * v) 32 zeros)
    ∙ ap (λ (n : ℕ). take 16 (drop n zeros)) z

-- where each unit is that of the zeros or of the root, there is no root or it is this one
none_or_root : (n : ℕ) (root : Root) (t : Sector) → IsMixed zero_sector (root_label, root_bytes root) t → (¬ IsRoot n (Some t)) ⊎ (t ≡ (root_label, root_bytes root))
none_or_root n root t mixed = by_label mixed.label
  where
    page_of : unit 0 t.1 ≡ unit 0 (root_bytes root) → unit 1 t.1 ≡ unit 1 (root_bytes root) → t.1 ≡ root_bytes root
    page_of first next = same_units t.1 (root_bytes root) each
      where
        each : (u : ℕ) → unit u t.1 ≡ unit u (root_bytes root)
        each zero = first
        each (suc zero) = next
        each (suc (suc v)) = elim (mixed.units (suc (suc v))) [
          | inl old ↦ old ∙ sym (rest_same root v)
          | inr new ↦ new
        ]

    by_second : t.0 ≡ root_label → unit 0 t.1 ≡ unit 0 (root_bytes root) → (unit 1 t.1 ≡ unit 1 zeros) ⊎ (unit 1 t.1 ≡ unit 1 (root_bytes root)) → (¬ IsRoot n (Some t)) ⊎ (t ≡ (root_label, root_bytes root))
    by_second label first (inl none) = inl (no_serial n t none)
    by_second label first (inr next) = let page = page_of first next in inr (λ x. (label x, page x))

    by_first : t.0 ≡ root_label → (unit 0 t.1 ≡ unit 0 zeros) ⊎ (unit 0 t.1 ≡ unit 0 (root_bytes root)) → (¬ IsRoot n (Some t)) ⊎ (t ≡ (root_label, root_bytes root))
    by_first label (inl none) = inl (no_magic n t none)
    by_first label (inr first) = by_second label first (mixed.units 1)

    by_label : (t.0 ≡ zero_sector.0) ⊎ (t.0 ≡ root_label) → (¬ IsRoot n (Some t)) ⊎ (t ≡ (root_label, root_bytes root))
    by_label (inl free) = inl (free_is_none n t free)
    by_label (inr label) = by_first label (mixed.units 0)

module _ (n serial counter : ℕ) (d : List Sector) (long : length d ≡ n) where
  abbrev layout : Layout
  layout = layout_of n

  abbrev fresh : ℕ → Sector
  fresh = new_sector (layout_of n)

  abbrev root : Root
  root = new_root n serial counter

  abbrev all : List DiskWrite
  all = format_writes n serial counter

  -- so many sectors are written
  begun : (k : ℕ) → k ≤ n → after_writes (new_writes layout k) d ≡ filled fresh 0 d k
  begun zero few = refl
  begun (suc k) few =
      let on : suc k ≡ k + 1 = omega arith in
      let z : 0 + k ≡ k = omega arith in
      ap (λ (j : ℕ). after_writes (new_writes layout j) d) on
      ∙ ap (λ (ws : List DiskWrite). after_writes ws d) (map-range_with_len_more (write_of layout) 0 k k (omega arith))
      ∙ sym (after_writes-append (new_writes layout k) (write_of layout k ∷ []) d)
      ∙ ap (λ (e : List Sector). slice_set e k (fresh k)) (begun k (omega (arith, few)))
      ∙ ap (λ (j : ℕ). slice_set (filled fresh 0 d k) k (fresh j)) (sym z)
      ∙ advance fresh 0 k d (omega (arith, few, long))
      ∙ ap (λ (j : ℕ). filled fresh 0 d j) (sym on)

  full : filled fresh 0 d n ≡ new_sectors layout n
  full = complete fresh 0 n d (omega (arith, long))

  -- what all writes make
  pub volume_made : after_writes all d ≡ formatted n serial counter
  volume_made =
      sym (after_writes-append (new_writes layout n) (root_write root ∷ []) d)
      ∙ ap (λ (e : List Sector). slice_set e 0 (root_label, root_bytes root)) (begun n (omega arith) ∙ full)

  rows : length (new_writes layout n) ≡ n
  rows = length-map-range_with_len (write_of layout) 0 n

  pub size : length all ≡ suc n
  size = omega (arith, length-append (new_writes layout n) (root_write root ∷ []), rows)

  state : (k : ℕ) → k ≤ n → crash_state d all k ≡ filled fresh 0 d k
  state k few =
      crash_state-earlier d (new_writes layout n) (root_write root ∷ []) k (omega (arith, few, rows))
      ∙ ap (λ (ws : List DiskWrite). after_writes ws d) (take-map-range_with_len (write_of layout) 0 n k few)
      ∙ begun k few

  before_root : crash_state d all n ≡ new_sectors layout n
  before_root = state n (omega arith) ∙ full

  after_root : crash_state d all (suc n) ≡ formatted n serial counter
  after_root = ap (λ (k : ℕ). crash_state d all k) (sym size) ∙ crash_state-end d all ∙ volume_made

  -- sector 0 is free from the first write to the last but one
  free_at : (k : ℕ) → 1 ≤ k → k ≤ n → slice_get (crash_state d all k) 0 ≡ Some zero_sector
  free_at zero some few = absurd (omega (arith, some))
  free_at (suc k) some few =
      let first : slice_get (filled fresh 0 d (suc k)) 0 ≡ Some (fresh 0) = refl in
      ap (λ (e : List Sector). slice_get e 0) (state (suc k) few) ∙ first ∙ ap (λ (s : Sector). Some s) (at_root layout 0 refl)

  module _ (e : List Sector) where
    first_window : IsCut d all 1 n e → ¬ IsRoot n (slice_get e 0)
    first_window cut root = either (slice_get e 0) refl root
      where
        either : (o : Option Sector) → slice_get e 0 ≡ o → IsRoot n o → ⊥
        either None f root = root.label
        either (Some t) f root =
            let old = cut.labels 0 t f in
            let same : old.3.0 ≡ zero_sector = same_Some old.3.0 zero_sector (sym old.3.1 ∙ free_at old.0 old.1 old.2) in
            free_is_none n t (sym old.3.2 ∙ ap (λ (s : Sector). s.0) same) root

    -- a disk without a sector has no root
    last_window : (0 < n) ⊎ (n ≤ 0) → IsCut d all n (suc n) e → IsNoneOrNew n serial counter e
    last_window (inr none) cut = inl (λ root. omega (arith, none, root.accepted))
    last_window (inl some) cut = either (slice_get e 0) refl
      where
        there : slice_get (new_sectors layout n) 0 ≡ Some zero_sector
        there = ap (λ (f : List Sector). slice_get f 0) (sym before_root) ∙ free_at n some (omega arith)

        rows_long : length (new_sectors layout n) ≡ n
        rows_long = length-map-range_with_len fresh 0 n

        either : (o : Option Sector) → slice_get e 0 ≡ o → IsNoneOrNew n serial counter e
        either None f = inl (λ root. let none = subst (λ (o : Option Sector). IsRoot n o) f root in none.label)
        either (Some t) f =
            let found = one_sector d all n 0 (new_sectors layout n) zero_sector (root_label, root_bytes root) before_root after_root there e cut (cut.sectors ∙ long ∙ sym rows_long) t f in
            elim (none_or_root n root t found.0) [
              | inl none ↦ inl (λ is. none (subst (λ (o : Option Sector). IsRoot n o) f is))
              | inr same ↦ inr (found.1 ∙ ap (λ (s : Sector). slice_set (new_sectors layout n) 0 s) same)
            ]

    -- in either window
    pub none_or_new : IsCut d all 1 (length all - 1) e ⊎ IsCut d all (length all - 1) (length all) e → IsNoneOrNew n serial counter e
    none_or_new (inl cut) =
        let z : length all - 1 ≡ n = omega (arith, size) in
        inl (first_window (subst (λ (k : ℕ). IsCut d all 1 k e) z cut))
    none_or_new (inr cut) =
        let z : length all - 1 ≡ n = omega (arith, size) in
        last_window (cases_lt 0 n) (subst (λ (k : ℕ). IsCut d all n k e) size (subst (λ (k : ℕ). IsCut d all k (length all) e) z cut))

-- The layout and the root are those of the disk.
pub same_volume : (l : Layout) (k n serial counter : ℕ) → l ≡ layout_of k → k ≡ n → volume_writes l (new_root l.sectors serial counter) ≡ format_writes n serial counter
same_volume l k n serial counter laid same =
    ap (λ (m : Layout). volume_writes m (new_root m.sectors serial counter)) laid ∙ ap (λ (m : ℕ). format_writes m serial counter) same

-- what its writes leave, and what stands where the power went
module _ (writes : List DiskWrite) (a c : DiskState) (serial counter : ℕ) (same : writes ≡ format_writes a.sectors serial counter) (whole : (d : List Sector) → a.contents ≡ Some d → length d ≡ a.sectors) where
  pub made_contents : HasBarriers writes (length writes) a c → (d : List Sector) → a.contents ≡ Some d → c.contents ≡ Some (formatted (length d) serial counter)
  made_contents has d revealed =
      has.appended.contents
      ∙ ap (λ (ws : List DiskWrite). option_map (after_writes ws) a.contents) (take_all (length writes) writes (omega arith) ∙ same)
      ∙ ap (option_map (after_writes (format_writes a.sectors serial counter))) revealed
      ∙ ap (λ (e : List Sector). Some e) (volume_made a.sectors serial counter d (whole d revealed))
      ∙ ap (λ (n : ℕ). Some (formatted n serial counter)) (sym (whole d revealed))

  pub made_all : HasBarriers writes (length writes) a c → Appended (format_writes a.sectors serial counter) a c
  made_all has = subst (λ (ws : List DiskWrite). Appended ws a c) (take_all (length writes) writes (omega arith) ∙ same) has.appended

  pub made_part : (made : ℕ) → HasBarriers writes made a c → PartMade (format_writes a.sectors serial counter) a c
  made_part made has = subst (λ (ws : List DiskWrite). PartMade ws a c) same (made, has.few, has.appended)

  pub cuts_made : (made : ℕ) → HasBarriers writes made a c → (d e : List Sector) (s k : ℕ) → IsCutBetween a c d s k e → (1 ≤ s) ⊎ (2 ≤ k) → IsNoneOrNew a.sectors serial counter e
  cuts_made made has d e s k cut from =
      none_or_new a.sectors serial counter d (whole d cut.held) e
      (two_windows (format_writes a.sectors serial counter) made a c (subst (λ (ws : List DiskWrite). HasBarriers ws made a c) same has) d e s k cut from)
