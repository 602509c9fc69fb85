-- Changes of files that the writes of one call make, by the machines whose settled files stand before and after each of them.
use Rattle.std.proofs.Common.{◌≡◌, ◌≢◌, ◌⊎◌, inl, inr, ℕ, suc, ◌+◌, ◌≤◌, Bool, true, false, List, length, Option, Some, None, refl, sym, ◌∙◌, ap, subst, arith}
use Rattle.std.specs.Prelude.{Contains, option_map, slice_get}
use Rattle.std.proofs.lemmas.Bool.{cases_eq}
use Rattle.labelled_disk.specs.declared.disk.DiskWrite.{DiskWrite}
use Rattle.labelled_disk.specs.declared.disk.DiskWrite.TheVariants.{LabelOnly, Page, Whole}
use Rattle.labelled_disk.specs.CrashState.{crash_state, written}
use Rattle.labelled_disk.specs.File.{File, size}
use Rattle.labelled_disk.specs.FilesOn.{disk_file, leader_among, page_at, pages_from}
use Rattle.labelled_disk.specs.Label.{is_free, leader_page}
use Rattle.labelled_disk.specs.Layout.{data_sectors, first_data}
use Rattle.labelled_disk.specs.Permitted.{Permitted}
use Rattle.labelled_disk.specs.Sectors.{Sector}
use Rattle.labelled_disk.proofs.SectorWrites as w
use Rattle.label_laws.specs.Cleared.{IsAfterClearing}
use Rattle.label_laws.specs.Mixed.{gives_label}
use Rattle.label_laws.specs.Shape.{BareFile, SameShape, bare_file}
use Rattle.label_laws.proofs.MixedLemmas.{written_long}
use Rattle.label_calls.specs.Synced.{AreSyncedAround}
use Rattle.flat_machine.specs.Machine.{Machine}
use Rattle.cut_laws.specs.ChangeRows.{AreApart, GoesApart, IsChangeApart}
use Rattle.cut_laws.specs.ChangesApart.{IsQuiet, IsResize, LeavesOthers, MarksApart}
use Rattle.cut_laws.specs.LeaderWrites.{KeepsLeader, WritesLeader}
use Rattle.cut_laws.proofs.CommonLemmas.{file_of_shape}
use Rattle.cut_laws.proofs.CrashStateLemmas.{crash_state-step}
use Rattle.cut_laws.proofs.FirstLabelLemmas.{labelled_there}
use Rattle.cut_laws.proofs.LabelsApartLemmas.{page_quiet, there_by_leader}
use Rattle.cut_laws.proofs.LeaderWriteLemmas.{leaders_change, leads}
use Rattle.cut_laws.proofs.ResizedLemmas.{shape_by_leader}
use Rattle.pilot_top.specs.OnePlace.{HasShapesOf, settled_shape}
use Rattle.pilot_top.proofs.SettledShapes.{ChangesMarks, KeepsShapes}

-- The machine has other pages of this file at most, if it has it settled.
pub record Resizes (id : ℕ) (m n : Machine) : Type 0 where
  pub others : (other : ℕ) → other ≢ id → settled_shape n other ≡ settled_shape m other
  pub none : settled_shape m id ≡ None → settled_shape n id ≡ None
  pub some : (b : BareFile) → settled_shape m id ≡ Some b → (pages : ℕ) × (settled_shape n id ≡ Some (record b { pages = pages }))

module _ (syncs : List ℕ) (made : ℕ) (d : List Sector) (writes : List DiskWrite) (failed : Bool) (place : ℕ → Machine) (reveals : (k : ℕ) → HasShapesOf (crash_state d writes k) (place k)) where
  abbrev now : ℕ → List Sector
  now k = crash_state d writes k

  abbrev IsApart : ℕ → DiskWrite → Type 0
  IsApart k write = IsChangeApart false syncs made d writes failed k write

  -- a sync came before the write, and sectors were cleared for it by then
  abbrev pub IsSyncedFor : ℕ → DiskWrite → Type 0
  IsSyncedFor k write = (s : ℕ) × (s ≤ k) × Contains syncs (made + s) × IsAfterClearing d writes s k write

  -- what stands after a write
  after_shape : (k : ℕ) (write : DiskWrite) → slice_get writes k ≡ Some write → (id : ℕ) → option_map bare_file (disk_file false (written write (now k)) id) ≡ settled_shape (place (suc k)) id
  after_shape k write here id = ap (λ (x : List Sector). option_map bare_file (disk_file false x id)) (sym (crash_state-step d writes k write here)) ∙ reveals (suc k) id

  keeps_shape : (k : ℕ) (write : DiskWrite) → slice_get writes k ≡ Some write → (id : ℕ) → settled_shape (place (suc k)) id ≡ settled_shape (place k) id → SameShape false (now k) (written write (now k)) id
  keeps_shape k write here id same = after_shape k write here id ∙ same ∙ sym (reveals k id)

  -- Where the machine keeps its settled files, but for bytes.
  pub keeps_apart : ((k : ℕ) → KeepsShapes (place k) (place (suc k))) → AreApart false syncs made d writes failed
  keeps_apart keeps k write here = inl (λ id. keeps_shape k write here id (keeps k id))

  module _ (permitted : (k : ℕ) (write : DiskWrite) → slice_get writes k ≡ Some write → Permitted (crash_state d writes k) write) where
    -- Bytes of pages alone.
    pub pages_are_apart : ((k : ℕ) (write : DiskWrite) → slice_get writes k ≡ Some write → gives_label write ≡ false) → AreApart false syncs made d writes failed
    pages_are_apart pages k write here = inl (page_quiet (now k) write (permitted k write here) (pages k write here))

    -- One file appears, goes or gets a mark, with syncs around the labels of leaders.
    module _ (id : ℕ) (marks : (k : ℕ) → ChangesMarks id (place k) (place (suc k))) (around : AreSyncedAround failed syncs made d writes) where
      module _ (k : ℕ) (write : DiskWrite) (here : slice_get writes k ≡ Some write) where
        others_keep : LeavesOthers false id (now k) write
        others_keep other off = keeps_shape k write here other ((marks k).0 other off)

        -- with the leader that it had, it is as it was
        itself_keeps : KeepsLeader id (now k) write → SameShape false (now k) (written write (now k)) id
        itself_keeps keeps = by (disk_file false (now k) id) refl
          where
            by : (o : Option File) → disk_file false (now k) id ≡ o → SameShape false (now k) (written write (now k)) id
            by None none =
                let no_leader : leader_among false (data_sectors (now k)) id ≡ None = ap (λ (o : Option Sector). option_map (λ (s : Sector). s.0) o) (w.none_leads false (data_sectors (now k)) id none) in
                ap (λ (o : Option File). option_map bare_file o) (w.file_none false (data_sectors (written write (now k))) id (keeps ∙ no_leader) ∙ sym none)
            by (Some f) file =
                let long : ℕ = length (pages_from (page_at (data_sectors (written write (now k))) id) 0 leader_page) in
                let bare : option_map bare_file (disk_file false (written write (now k)) id) ≡ Some (record (bare_file f) { pages = long }) = shape_by_leader false id (data_sectors (now k)) (data_sectors (written write (now k))) f keeps file in
                let had : settled_shape (place k) id ≡ Some (bare_file f) = sym (reveals k id) ∙ ap (λ (o : Option File). option_map bare_file o) file in
                let same : long ≡ size f = (marks k).1 (bare_file f) (record (bare_file f) { pages = long }) had (sym (after_shape k write here id) ∙ bare) in
                bare ∙ ap (λ (n : ℕ). Some (record (bare_file f) { pages = n })) same ∙ ap (λ (o : Option File). option_map bare_file o) (sym file)

        quiet : KeepsLeader id (now k) write → IsQuiet false (now k) write
        quiet keeps other = elim (cases_eq other id) [
          | inl same ↦ subst (SameShape false (now k) (written write (now k))) (sym same) (itself_keeps keeps)
          | inr off ↦ others_keep other off
        ]

      leader_apart : (k : ℕ) (write : DiskWrite) → slice_get writes k ≡ Some write → WritesLeader id (now k) write → LeavesOthers false id (now k) write
          → MarksApart false syncs made d writes k write ⊎ GoesApart false syncs made d writes failed k write
      leader_apart k (Whole sector label page) here leader others = absurd leader
      leader_apart k (Page sector wanted page) here leader others = absurd leader
      leader_apart k (LabelOnly sector label) here (s, at, page, inl goes) others =
          let synced = around k sector label here s at.here in
          let permanent = (leads id s goes.1).permanent in
          let next : suc (made + k) ≡ made + suc k = omega arith in
          inr (
            synced.before (inl permanent),
            (id, others),
            elim (synced.after permanent (ap is_free goes.0)) [
              | inl has ↦ inl (subst (Contains syncs) next has)
              | inr ended ↦ inr ended
            ],
          )
      leader_apart k (LabelOnly sector label) here (s, at, page, inr leading) others =
          let f = there_by_leader false (written (LabelOnly sector label) (now k)) sector (label, s.1) id
          (record { is_data = subst (λ (n : ℕ). first_data n ≤ sector) (sym (written_long (now k) (LabelOnly sector label))) at.is_data; here = labelled_there (now k) sector label s at.here }) leading in
          inl ((around k sector label here s at.here).before (inr (leads id (label, s.1) leading).permanent), id, (others, s, at, page, leading, f.0, f.1))

      pub marks_are_apart : AreApart false syncs made d writes failed
      marks_are_apart k write here = elim (leaders_change (now k) write id (permitted k write here)) [
        | inl keeps ↦ inl (quiet k write here keeps)
        | inr leader ↦ elim (leader_apart k write here leader (others_keep k write here)) [
          | inl mark ↦ inr (inl mark)
          | inr goes ↦ inr (inr (inl goes))
        ]
      ]

    -- One file gets other sizes, and each label is written after a sync.
    module _ (id : ℕ) (m : Machine) (sizes : (k : ℕ) → Resizes id m (place k)) where
      unsettled : settled_shape m id ≡ None → AreApart false syncs made d writes failed
      unsettled none = keeps_apart (λ k other. elim (cases_eq other id) [
        | inl same ↦ ap (settled_shape (place (suc k))) same ∙ (sizes (suc k)).none none ∙ sym (ap (settled_shape (place k)) same ∙ (sizes k).none none)
        | inr off ↦ (sizes (suc k)).others other off ∙ sym ((sizes k).others other off)
      ])

      module _ (b : BareFile) (settled : settled_shape m id ≡ Some b) where
        resize : (k : ℕ) (write : DiskWrite) → slice_get writes k ≡ Some write → IsResize false id (now k) write
        resize k write here =
            let old = (sizes k).some b settled in
            let new = (sizes (suc k)).some b settled in
            let f = file_of_shape false (now k) id (record b { pages = old.0 }) (reveals k id ∙ old.1) in
            let g = file_of_shape false (written write (now k)) id (record b { pages = new.0 }) (after_shape k write here id ∙ new.1) in (
              λ other off. keeps_shape k write here other ((sizes (suc k)).others other off ∙ sym ((sizes k).others other off)),
              f.0,
              f.1,
              g.0,
              g.1,
              g.2 ∙ ap (λ (n : ℕ). record b { pages = n }) (sym (ap (λ (x : BareFile). x.pages) g.2)) ∙ ap (λ (x : BareFile). record x { pages = size g.0 }) (sym f.2),
            )

        resizes_apart : ((k : ℕ) (write : DiskWrite) → slice_get writes k ≡ Some write → gives_label write ≡ true → IsSyncedFor k write) → AreApart false syncs made d writes failed
        resizes_apart synced k write here = by (gives_label write) refl
          where
            by : (x : Bool) → gives_label write ≡ x → IsApart k write
            by false page = inl (page_quiet (now k) write (permitted k write here) page)
            by true gives =
                let s = synced k write here gives in
                inr (inr (inr (
                  id,
                  s.0,
                  s.1,
                  s.2,
                  resize k write here,
                  s.3,
                  λ i other past low there. inr (resize i other there),
                )))

      pub sizes_are_apart : ((b : BareFile) → settled_shape m id ≡ Some b → (k : ℕ) (write : DiskWrite) → slice_get writes k ≡ Some write → gives_label write ≡ true → IsSyncedFor k write)
          → AreApart false syncs made d writes failed
      sizes_are_apart synced = by (settled_shape m id) refl
        where
          by : (o : Option BareFile) → settled_shape m id ≡ o → AreApart false syncs made d writes failed
          by None none = unsettled none
          by (Some b) is = resizes_apart b is (synced b is)
