-- Crash states among a call's writes, and among its label writes alone.
use Rattle.std.proofs.Common.{◌≡◌, ◌≢◌, inl, inr, ⊎_elim, ℕ, zero, suc, ◌<◌, ◌≤◌, true, false, not, List, [], ◌∷◌, length, Option, Some, refl, sym, ◌∙◌, ap, subst, arith, length-set}
use Rattle.std.specs.Prelude.{slice_get, slice_set, filter}
use Rattle.std.specs.Option.{option_map_or}
use Rattle.std.proofs.lemmas.Option.{same_Some, slice_get_within}
use Rattle.std.proofs.lemmas.Bool.{true≢false, cases_eq}
use Rattle.std.proofs.lemmas.List.{map-set}
use Rattle.labelled_disk.specs.declared.label.Label.{Label}
use Rattle.labelled_disk.specs.declared.disk.DiskWrite.{DiskWrite}
use Rattle.labelled_disk.specs.declared.disk.DiskWrite.TheVariants as write
use Rattle.labelled_disk.specs.Sectors.{Sector}
use Rattle.labelled_disk.specs.CrashState.{written, crash_state}
use Rattle.labelled_disk.specs.Permitted.{Permitted, IsLabelWrite, IsNextLabel}
use Rattle.labelled_disk.proofs.Finds.{get_set_same, get_set_other}
use Rattle.flat_machine.specs.declared.space.FilePage.{FilePage}
use Rattle.label_laws.specs.MixedVolumes.{label_count}
use Rattle.swapper_kernel.specs.Goes.{is_page_write}
use Rattle.swapper_kernel.specs.Differs.{Differs}
use Rattle.session_words.specs.Parts.{is_loose, is_loose_at}
use Rattle.session_words.specs.StopLaws.{CrashStatesAreLike, FewLabels}
use Rattle.swapper_kernel.specs.DiffersLaws.{same_length, other_sector, differs_itself, differs_then}
use Rattle.session_words.proofs.LooseLemmas.{volume_loose, page_differs, loose_label}

-- The same label write on both.

module _ (unforced : List FilePage) (a b : List Sector) (like : Differs (is_loose_at unforced) a b) where
  -- another sector in one place
  set_like : (k : ℕ) (s t : Sector) → s.0 ≡ t.0 → (is_loose unforced s.0.id s.0.page ≡ false → s ≡ t) → Differs (is_loose_at unforced) (slice_set a k s) (slice_set b k t)
  set_like k s t label same = record {
    labels = map-set (λ (x : Sector). x.0) b k t ∙ (λ i. slice_set (like.labels i) k (sym label i)) ∙ sym (map-set (λ (x : Sector). x.0) a k s);
    pages = λ j x here fails. ⊎_elim
        (λ (q : j ≡ k).
        let inside : k < length a = omega (arith, q, slice_get_within (slice_set a k s) j x here, length-set a k s) in
        let is : s ≡ x = same_Some s x (sym (get_set_same a k s inside) ∙ ap (slice_get (slice_set a k s)) (sym q) ∙ here) in
        let both : s ≡ t = same (ap (λ (y : Sector). is_loose unforced y.0.id y.0.page) is ∙ fails) in
        ap (slice_get (slice_set b k t)) q ∙ get_set_same b k t (omega (arith, inside, same_length a b like.labels)) ∙ ap (λ (y : Sector). Some y) (sym both ∙ is))
        (λ (q : j ≢ k). get_set_other b k j t q ∙ like.pages j x (sym (get_set_other a k j s q) ∙ here) fails)
        (cases_eq j k);
  }

  -- a label that is free, or that of the same page
  next_label : (old new : Label) → IsNextLabel old new → is_loose unforced new.id new.page ≡ false → is_loose unforced old.id old.page ≡ false
  next_label old new (inl free) firm = absurd (true≢false (sym (ap (λ (l : Label). is_loose unforced l.id l.page) free) ∙ firm))
  next_label old new (inr marks) firm = elim marks.1 [
    | inl one ↦ sym (ap (λ (l : Label). is_loose unforced l.id l.page) one) ∙ firm
    | inr two ↦ sym (ap (λ (l : Label). is_loose unforced l.id l.page) two) ∙ firm
  ]

  whole_like : (sector : ℕ) (label : Label) (bytes : List ℕ) → Differs (is_loose_at unforced) (written (write.Whole sector label bytes) a) (written (write.Whole sector label bytes) b)
  whole_like sector label bytes = set_like sector (label, bytes) (label, bytes) refl (λ firm. refl)

  label_like : (sector : ℕ) (label : Label) → IsLabelWrite b sector label → Differs (is_loose_at unforced) (written (write.LabelOnly sector label) a) (written (write.LabelOnly sector label) b)
  label_like sector label permitted =
      let t : Sector = permitted.old.0 in
      let there : slice_get b sector ≡ Some t = permitted.old.1.here in
      let s = other_sector a b like.labels sector t there in
      let of_a : written (write.LabelOnly sector label) a ≡ slice_set a sector (label, s.0.1) = ap (λ (o : Option Sector). option_map_or (λ (old : Sector). slice_set a sector (label, old.1)) o a) s.1 in
      let of_b : written (write.LabelOnly sector label) b ≡ slice_set b sector (label, t.1) = ap (λ (o : Option Sector). option_map_or (λ (old : Sector). slice_set b sector (label, old.1)) o b) there in
      let both = set_like sector (label, s.0.1) (label, t.1) refl (λ firm.
      let old_firm = next_label t.0 label permitted.old.3 firm in
      let same : s.0 ≡ t = same_Some s.0 t (sym (like.pages sector s.0 s.1 (ap (λ (l : Label). is_loose unforced l.id l.page) s.2 ∙ old_firm)) ∙ there) in
      ap (λ (x : Sector). (label, x.1)) same) in
      subst (λ (x : List Sector). Differs (is_loose_at unforced) x (written (write.LabelOnly sector label) b)) (sym of_a)
      (subst (λ (y : List Sector). Differs (is_loose_at unforced) (slice_set a sector (label, s.0.1)) y) (sym of_b) both)

-- a page that is written is loose
abbrev LoosePage : List FilePage → DiskWrite → Type 0
LoosePage unforced (write.Whole sector label bytes) = Unit {0}
LoosePage unforced (write.LabelOnly sector label) = Unit {0}
LoosePage unforced (write.Page sector wanted bytes) = is_loose unforced wanted.id wanted.page ≡ true

module _ (unforced : List FilePage) where
  -- the writes, on a disk that is like the one with the label writes alone
  each_like : (ws : List DiskWrite) (a b : List Sector) → Differs (is_loose_at unforced) a b → ((k : ℕ) (w : DiskWrite) → slice_get ws k ≡ Some w → Permitted (crash_state b ws k) w)
      → ((k : ℕ) (w : DiskWrite) → slice_get ws k ≡ Some w → LoosePage unforced w) → (k : ℕ) → Differs (is_loose_at unforced) (crash_state a (filter (λ w. not (is_page_write w)) ws) (label_count ws k)) (crash_state b ws k)
  each_like ws a b like permitted loose zero = like
  each_like [] a b like permitted loose (suc k) = like
  each_like (write.Whole sector label bytes ∷ ws) a b like permitted loose (suc k) =
      each_like ws (written (write.Whole sector label bytes) a) (written (write.Whole sector label bytes) b) (whole_like unforced a b like sector label bytes)
      (λ j w at. permitted (suc j) w at) (λ j w at. loose (suc j) w at) k
  each_like (write.LabelOnly sector label ∷ ws) a b like permitted loose (suc k) =
      each_like ws (written (write.LabelOnly sector label) a) (written (write.LabelOnly sector label) b) (label_like unforced a b like sector label (permitted 0 (write.LabelOnly sector label) refl))
      (λ j w at. permitted (suc j) w at) (λ j w at. loose (suc j) w at) k
  each_like (write.Page sector wanted bytes ∷ ws) a b like permitted loose (suc k) =
      each_like ws a (written (write.Page sector wanted bytes) b)
      (differs_then (is_loose_at unforced) a b (written (write.Page sector wanted bytes) b) like
      (page_differs (is_loose_at unforced) b sector wanted bytes (λ l named. loose_label unforced wanted l (loose 0 (write.Page sector wanted bytes) refl) named)))
      (λ j w at. permitted (suc j) w at) (λ j w at. loose (suc j) w at) k

pub crash_states_are_like : CrashStatesAreLike
crash_states_are_like unforced run old new before d wrote dirty revealed k =
    subst (λ (r : List DiskWrite). Differs (is_loose_at unforced) (crash_state d r (label_count wrote.writes k)) (crash_state d wrote.writes k)) wrote.labels
    (each_like unforced wrote.writes d d (differs_itself (is_loose_at unforced) d) (λ j w at. wrote.permitted d j w revealed at) loose k)
  where
    loose : (j : ℕ) (w : DiskWrite) → slice_get wrote.writes j ≡ Some w → LoosePage unforced w
    loose j (write.Whole sector label bytes) at = tt
    loose j (write.LabelOnly sector label) at = tt
    loose j (write.Page sector wanted bytes) at = elim (wrote.of_dirty j sector wanted bytes at) [ inl was ↦ dirty wanted.id wanted.page was | inr own ↦ volume_loose unforced wanted.id wanted.page own ]

pub few_labels : FewLabels
few_labels run old new before wrote k = subst (λ (r : List DiskWrite). label_count wrote.writes k ≤ length r) wrote.labels (few wrote.writes k)
  where
    few : (ws : List DiskWrite) (k : ℕ) → label_count ws k ≤ length (filter (λ w. not (is_page_write w)) ws)
    few ws zero = omega arith
    few [] (suc k) = omega arith
    few (write.Whole sector label bytes ∷ ws) (suc k) = omega (arith, few ws k)
    few (write.LabelOnly sector label ∷ ws) (suc k) = omega (arith, few ws k)
    few (write.Page sector wanted bytes ∷ ws) (suc k) = few ws k
