-- What each crash state says alike of a file, each cut says; and so of the files that no line named since one began.
use Rattle.std.proofs.Common.{◌≡◌, ◌≢◌, inl, inr, ℕ, zero, suc, ◌+◌, ◌-◌, ◌<◌, ◌≤◌, List, [], length, Option, Some, None, refl, sym, ◌∙◌, ap, subst, arith}
use Rattle.std.specs.Prelude.{◌==◌, if◌then◌else◌, slice_get}
use Rattle.std.proofs.lemmas.Bool.{cases_eq, cases_lt}
use Rattle.std.proofs.lemmas.Option.{none-some, same_Some, slice_get_past}
use Rattle.labelled_disk.specs.declared.disk.DiskWrite.{DiskWrite}
use Rattle.labelled_disk.specs.declared.disk.DiskWrite.TheVariants as write
use Rattle.labelled_disk.specs.declared.label.Label.{Label}
use Rattle.labelled_disk.specs.declared.label.Wanted.{Wanted}
use Rattle.labelled_disk.specs.CrashState.{crash_state, written}
use Rattle.labelled_disk.specs.Permitted.{Permitted}
use Rattle.labelled_disk.specs.Root.{root_page}
use Rattle.labelled_disk.specs.Sectors.{Sector}
use Rattle.labelled_disk.specs.State.{DiskState}
use Rattle.label_laws.proofs.MixedLemmas.{crash_state_long}
use Rattle.cut_laws.specs.Cut.{unit, IsCut}
use Rattle.cut_laws.proofs.CrashStateLemmas.{crash_state-step, get_some}
use Rattle.cut_laws.proofs.UnitLemmas.{same_units}
use Rattle.frame_pool.specs.Frames.{Slots}
use Rattle.flat_machine.specs.After.{TraceLine}
use Rattle.file_map.specs.FileMap.{Triples}
use Rattle.file_map.specs.InSectors.{MapNames}
use Rattle.swapper_kernel.specs.Goes.{IsDirty}
use Rattle.session_words.specs.Volume.{volume_page}
use Rattle.volume_root.specs.declared.root.Root.{Root}
use Rattle.volume_root.specs.RootPage.{root_in}
use Rattle.file_manager.specs.Creating.{IsMonotone, next_id}
use Rattle.pilot_engine.specs.Opening.{WroteFirst}
use Rattle.pilot_engine.specs.Sparing.{HasSameLabels, label_for}
use Rattle.pilot_top.specs.Parts.{InParts, PartMay}
use Rattle.pilot_top.specs.Sparing.{HasSameSectors, NoneUpTo, OfShown, PartMakes, RunSpares, Spared, SparesInParts, maps_file, sector_for, stores}
use Rattle.pilot_top.specs.Staying.{IsCutSinceNamed, StaysInCuts, StaysSinceNamed}
use Rattle.pilot_top.proofs.PartLemmas.{parts_wider}
use Rattle.pilot_top.proofs.PartSpareLemmas.{spares_longer, spares_none}
use Rattle.pilot_top.proofs.SparedLineLemmas.{own_other}
use Rattle.pilot_top.proofs.SpareLemmas.{IsOtherPage, no_sector, none_dirty, own_sector, run_in_parts, sectors_then, start_in_parts, write_same}

-- a sector that is put into the sink of this file
named_sector : (id : ℕ) (o : Option Sector) (s : Sector) → sector_for id o ≡ Some s → o ≡ Some s
named_sector id None s is = absurd (none-some s is)
named_sector id (Some t) s is = elim (cases_eq t.0.id id) [
  | inl own ↦ sym (own_sector id t own) ∙ is
  | inr other ↦ absurd (none-some s (sym (no_sector id t other) ∙ is))
]

module _ (id : ℕ) (d : List Sector) (writes : List DiskWrite) (s k : ℕ) (e : List Sector) (cut : IsCut d writes s k e) (x : List Sector) (long : length x ≡ length d) where
  past : (i : ℕ) → length e ≤ i → slice_get e i ≡ slice_get x i
  past i high = slice_get_past e i high ∙ sym (slice_get_past x i (omega (arith, high, cut.sectors, long)))

  -- a sector that is the same in each crash state
  same_sector : (i : ℕ) (t v : Sector) → slice_get e i ≡ Some t → ((j : ℕ) → s ≤ j → j ≤ k → slice_get (crash_state d writes j) i ≡ Some v) → t ≡ v
  same_sector i t v here same =
      let at = cut.labels i t here in
      let label : t.0 ≡ v.0 = sym at.3.2 ∙ ap (λ (w : Sector). w.0) (same_Some at.3.0 v (sym at.3.1 ∙ same at.0 at.1 at.2)) in
      let page : t.1 ≡ v.1 = same_units t.1 v.1 (λ u. one u) in
      λ n. (label n, page n)
    where
      one : (u : ℕ) → unit u t.1 ≡ unit u v.1
      one u =
          let at = cut.units i u t here in
          sym at.3.2 ∙ ap (λ (w : Sector). unit u w.1) (same_Some at.3.0 v (sym at.3.1 ∙ same at.0 at.1 at.2))

  pub cut_labels : ((j : ℕ) → s ≤ j → j ≤ k → HasSameLabels id x (crash_state d writes j)) → HasSameLabels id x e
  cut_labels same i above = elim (cases_lt i (length e)) [
    | inr high ↦ ap (label_for id) (past i high)
    | inl low ↦
        let t = get_some e i low in
        let at = cut.labels i t.0 t.1 in
        ap (label_for id) t.1 ∙ ap (λ (l : Label). if l.id == id then Some l else None) (sym at.3.2) ∙ sym (ap (label_for id) at.3.1) ∙ same at.0 at.1 at.2 i above
  ]

  pub cut_sectors : ((j : ℕ) → s ≤ j → j ≤ k → HasSameSectors id x (crash_state d writes j)) → HasSameSectors id x e
  cut_sectors same i above = elim (cases_lt i (length e)) [
    | inr high ↦ ap (sector_for id) (past i high)
    | inl low ↦ by (get_some e i low) (get_some x i (omega (arith, low, cut.sectors, long)))
  ]
    where
      by : (t : Sector) × (slice_get e i ≡ Some t) → (v : Sector) × (slice_get x i ≡ Some v) → sector_for id (slice_get e i) ≡ sector_for id (slice_get x i)
      by (t, here) (v, there) = elim (cases_eq v.0.id id) [
        | inl own ↦
            let is : t ≡ v = same_sector i t v here (λ j from to. named_sector id (slice_get (crash_state d writes j) i) v (same j from to i above ∙ ap (sector_for id) there ∙ own_sector id v own)) in
            ap (sector_for id) (here ∙ ap (λ (w : Sector). Some w) is ∙ sym there)
        | inr other ↦
            let at = cut.labels i t here in
            let u = at.3.0 in
            let none : sector_for id (Some u) ≡ None = sym (ap (sector_for id) at.3.1) ∙ same at.0 at.1 at.2 i above ∙ ap (sector_for id) there ∙ no_sector id v other in
            let apart : t.0.id ≢ id = λ own. none-some u (sym none ∙ own_sector id u (ap (λ (l : Label). l.id) at.3.2 ∙ own)) in
            ap (sector_for id) here ∙ no_sector id t apart ∙ sym (ap (sector_for id) there ∙ no_sector id v other)
      ]

-- a file that was spared stays in each cut
pub spared_stays : (id : ℕ) (lines : List TraceLine) (d : List Sector) {old new : DiskState} → Spared id lines d old new → StaysInCuts id lines d old new
spared_stays id lines d on = record {
  writes = on.writes;
  appended = on.appended;
  labels = λ s k e cut. cut_labels id d on.writes s k e cut d refl (λ j from to. on.labels j);
  sectors = λ none s k e cut. cut_sectors id d on.writes s k e cut d refl (λ j from to. on.sectors none j);
  hidden = λ named map none s k e cut. cut_sectors id d on.writes s k e cut d refl (λ j from to. on.hidden named map none j);
}

-- ---- Since a line began.

-- what any part makes is permitted
permitted_of : (lines : List TraceLine) (part : ℕ) (d : List Sector) (w : DiskWrite) → PartMay lines part d w → Permitted d w
permitted_of lines zero d w may = may.0
permitted_of lines (suc j) d w may = may.0

-- the file map named some pages
abbrev pub IsMapped : List Sector → ℕ → Type 0
IsMapped d id = (named : Triples) × MapNames d named

module _ (lines : List TraceLine) (d : List Sector) (earlier : List DiskWrite) {a c : DiskState} (on : SparesInParts (next_id (root_in (root_page d))) lines (suc (length lines)) a [] c (IsMapped d))
    (revealed : a.contents ≡ Some d) (made : a.writes ≡ Some earlier) where
  abbrev made_parts : InParts (PartMay lines) (suc (length lines)) a c
  made_parts = parts_wider (PartMakes (next_id (root_in (root_page d))) lines [] (IsMapped d)) (PartMay lines) (suc (length lines)) (suc (length lines)) (omega arith) (λ j e w few is. is.0) on.parts

  abbrev now : ℕ → List Sector
  now n = crash_state d on.parts.writes n

  module _ (id j s k : ℕ) (e : List Sector) (since : IsCutSinceNamed lines d on.parts.writes on.parts.part id j s k e) where
    labels_until : (i : ℕ) → j ≤ i → i ≤ k → HasSameLabels id (now j) (now i)
    labels_until i from to =
        on.keeps id since.client since.given d earlier j i revealed made (record { begins = since.unnamed.begins; unnamed = λ n low high. since.unnamed.unnamed n low (omega (arith, high, to)) }) since.lasting from (let few = since.made in omega (arith, to, few))

    -- no page of the file was written
    abbrev NoPage : Type 0
    NoPage = (n sector : ℕ) (wanted : Wanted) (bytes : List ℕ) → n < k → slice_get on.parts.writes n ≡ Some (write.Page sector wanted bytes) → wanted.id ≢ id

    other_page : NoPage → (n : ℕ) (w : DiskWrite) → n < k → slice_get on.parts.writes n ≡ Some w → IsOtherPage id w
    other_page none n (write.Whole sector label bytes) below at = tt
    other_page none n (write.LabelOnly sector label) below at = tt
    other_page none n (write.Page sector wanted bytes) below at = none n sector wanted bytes below at

    sectors_until : NoPage → (i : ℕ) → j + i ≤ k → HasSameSectors id (now j) (now (j + i))
    sectors_until none zero few = subst (λ (n : ℕ). HasSameSectors id (now j) (now n)) (let z : j ≡ j + 0 = omega arith in z) (λ n above. refl)
    sectors_until none (suc i) few =
        let few_made = since.made in
        let at = get_some on.parts.writes (j + i) (omega (arith, few, few_made)) in
        let one = labels_until (j + i) (omega arith) (omega (arith, few)) in
        let more = labels_until (suc (j + i)) (omega arith) (omega (arith, few)) in
        let step : now (suc (j + i)) ≡ written at.0 (now (j + i)) = crash_state-step d on.parts.writes (j + i) at.0 at.1 in
        let permitted = permitted_of lines (on.parts.part (j + i)) (now (j + i)) at.0 (on.parts.each d earlier (j + i) at.0 revealed made at.1).0 in
        let same : HasSameSectors id (now (j + i)) (written at.0 (now (j + i))) =
        write_same id since.client (now (j + i)) at.0 permitted (other_page none (j + i) at.0 (omega (arith, few)) at.1)
        (subst (HasSameLabels id (now (j + i))) step (λ n above. more n above ∙ sym (one n above))) in
        subst (λ (n : ℕ). HasSameSectors id (now j) (now n)) (let z : suc (j + i) ≡ j + suc i = omega arith in z)
        (sectors_then id (now j) (now (j + i)) (now (suc (j + i))) (sectors_until none i (omega (arith, few))) (subst (HasSameSectors id (now (j + i))) (sym step) same))

    labels_then : HasSameLabels id (now j) e
    labels_then = cut_labels id d on.parts.writes s k e since.cut (now j) (crash_state_long d on.parts.writes j) (λ i from to. labels_until i (let low = since.since in omega (arith, low, from)) to)

    bytes_then : NoPage → HasSameSectors id (now j) e
    bytes_then none = cut_sectors id d on.parts.writes s k e since.cut (now j) (crash_state_long d on.parts.writes j) (λ i from to.
        let low = since.since in
        let place : j + (i - j) ≡ i = omega (arith, low, from) in
        subst (λ (n : ℕ). HasSameSectors id (now j) (now n)) place (sectors_until none (i - j) (omega (arith, place, to))))

    shown_at : (n sector : ℕ) (wanted : Wanted) (bytes : List ℕ) → slice_get on.parts.writes n ≡ Some (write.Page sector wanted bytes) → OfShown (next_id (root_in (root_page d))) lines [] (IsMapped d) (on.parts.part n) (write.Page sector wanted bytes)
    shown_at n sector wanted bytes at = (on.parts.each d earlier n (write.Page sector wanted bytes) revealed made at).1

    none_stored : NoneUpTo stores lines on.parts.part k → NoPage
    none_stored none n sector wanted bytes below at = elim ((shown_at n sector wanted bytes at).0 (none n below)) [
      | inl dirty ↦ absurd (none_dirty wanted.id wanted.page dirty)
      | inr own ↦ own_other id since.client wanted.id wanted.page own
    ]

    none_shown : IsMapped d id → NoneUpTo (maps_file id) lines on.parts.part k → NoPage
    none_shown named none n sector wanted bytes below at = elim ((shown_at n sector wanted bytes at).1 id since.client since.given (none n below) named) [
      | inl dirty ↦ absurd (none_dirty wanted.id wanted.page dirty)
      | inr other ↦ other
    ]

  stays_since : StaysSinceNamed lines d a c
  stays_since = record {
    parts = made_parts;
    labels = λ id j s k e since. labels_then id j s k e since;
    sectors = λ id j s k e since none. bytes_then id j s k e since (none_stored id j s k e since none);
    hidden = λ id j s k e since named map none. bytes_then id j s k e since (none_shown id j s k e since (named, map) none);
  }

-- nothing was written
pub nothing_stays : (lines : List TraceLine) (d : List Sector) (earlier : List DiskWrite) (disk : DiskState) → disk.contents ≡ Some d → disk.writes ≡ Some earlier → StaysSinceNamed lines d disk disk
nothing_stays lines d earlier disk revealed made =
    stays_since lines d earlier (spares_longer (next_id (root_in (root_page d))) [] lines lines (suc (length lines)) refl (omega arith) (spares_none (next_id (root_in (root_page d))) disk [] (IsMapped d))) revealed made

-- no session started
pub start_stays : (lines : List TraceLine) (d : List Sector) (earlier : List DiskWrite) {a b : DiskState} → WroteFirst a b → a.contents ≡ Some d → a.writes ≡ Some earlier → StaysSinceNamed lines d a b
start_stays lines d earlier wrote revealed made = stays_since lines d earlier (start_in_parts (next_id (root_in (root_page d))) lines (IsMapped d) wrote) revealed made

-- a session started, with this root, and was ended or stopped
pub run_stays : (lines : List TraceLine) (d : List Sector) (earlier : List DiskWrite) (root : Root) (s : Slots) {a b c : DiskState} {hid : ℕ → Type 0} → WroteFirst a b → ((i page : ℕ) → IsDirty s i page → volume_page i page)
    → RunSpares root lines b s c hid → ((named : Triples) → MapNames d named → (id : ℕ) → hid id) → IsMonotone (root_in (root_page d)) root → a.contents ≡ Some d → a.writes ≡ Some earlier → StaysSinceNamed lines d a c
run_stays lines d earlier root s {hid = hid} wrote clean run hides later revealed made =
    stays_since lines d earlier (run_in_parts (next_id (root_in (root_page d))) root lines s (IsMapped d) hid later.0 wrote clean (λ id named. hides named.0 named.1 id) run) revealed made
