-- Files of which no label, or that of the leader alone, was written.
use Rattle.std.proofs.Common.{◌≡◌, ◌≢◌, ◌⊎◌, inl, inr, ℕ, ◌+◌, ◌-◌, ◌<◌, ◌≤◌, Bool, true, false, ◌&&◌, ◌||◌, List, [], length, Option, Some, None, refl, sym, ◌∙◌, ap, subst, arith, eqb}
use Rattle.std.specs.Prelude.{slice_get, option_map}
use Rattle.std.proofs.lemmas.Bool.{cases_eq, true≢false}
use Rattle.std.proofs.lemmas.Option.{same_Some, slice_get_within}
use Rattle.labelled_disk.specs.declared.label.Label.{Label}
use Rattle.labelled_disk.specs.declared.disk.DiskWrite.{DiskWrite}
use Rattle.labelled_disk.specs.declared.disk.DiskWrite.TheVariants as kind
use Rattle.labelled_disk.specs.File.{File, Page, size}
use Rattle.labelled_disk.specs.FilesOn.{is_page, leads_file, page_at, disk_file}
use Rattle.labelled_disk.specs.Label.{is_file, is_permanent, leader_page}
use Rattle.labelled_disk.specs.Layout.{data_sectors, first_data}
use Rattle.labelled_disk.specs.CrashState.{crash_state}
use Rattle.labelled_disk.specs.Sectors.{Sector, free_label}
use Rattle.labelled_disk.proofs.Finds.{find_none}
use Rattle.labelled_disk.proofs.LowestLemmas as lowest
use Rattle.labelled_disk.proofs.SectorWrites as w
use Rattle.labelled_disk.proofs.WriteLemmas as laws
use Rattle.label_laws.specs.PermittedRuns.{ArePermitted}
use Rattle.label_laws.specs.Mixed.{gives_label}
use Rattle.label_laws.specs.OneFile.{id_of}
use Rattle.label_laws.specs.Shape.{SameShape, bare_file}
use Rattle.label_laws.proofs.MixedLemmas.{crash_state_long}
use Rattle.cut_laws.specs.Cut.{AtSome, IsCutSince}
use Rattle.cut_laws.specs.ShapeLaws.{FreesLeader, IsOnLeader, IsWholeOn, LeaderFreed, LeaderWritten, NoLabelWritten, PagesStay, ShapesOfOneCrashState}
use Rattle.cut_laws.specs.Windows.{EachWrite, IsLabelWriteOf}
use Rattle.cut_laws.proofs.CrashStateLemmas.{get_some, data_at}
use Rattle.cut_laws.proofs.PairLemmas.{Alike, alike_less, leader_pairs, there_pairs, count_pairs, shape_by_count}
use Rattle.cut_laws.proofs.SteadyLemmas.{SameBy, Steady, data_pairs, steady_pairs, not_of-not_leader, other_id}
use Rattle.cut_laws.proofs.StayLemmas.{Of, LabelsLeavePage, narrow_page, none_appears, pages_stay, shape_pairs, steady_by_turns, steady_page, turn_alike, turn_same}
use Rattle.cut_laws.proofs.TurnLemmas.{Turn, stays, bytes, fresh, freed, marked, turns, id_of_label}

pub no_label_written : (all : Bool) → NoLabelWritten all
no_label_written all d writes e id permitted cut none = (
  λ j few. shape_pairs all id (data_sectors (crash_state d writes j)) (data_sectors e) (steady_pairs d writes e cut (Of id) steady j few),
  pages_stay d writes e id permitted cut
      (λ p low k write i s t is now gives turn. narrow_page id p s t (turn_same id (crash_state d writes k) write i s t now (λ e. none k write is (gives, sym e)) turn)),
)
  where
    steady : Steady (Of id) d writes
    steady = steady_by_turns (Of id) d writes permitted (λ k write i s t is low now turn. turn_alike id (crash_state d writes k) write i s t now (λ gives e. none k write is (gives, sym e)) turn)

-- two files, or none
same_none : (all : Bool) (d e : List Sector) (id : ℕ) → disk_file all d id ≡ None → disk_file all e id ≡ None → SameShape all d e id
same_none all d e id a b = ap (λ (o : Option File). option_map bare_file o) (b ∙ sym a)

pub shapes_of_one_crash_state : (all : Bool) → ShapesOfOneCrashState all
shapes_of_one_crash_state all d writes e id permitted cut others some = (some.0, some.1, some.2, λ each. either each (cases_eq each id))
  where
    either : (each : ℕ) → (each ≡ id) ⊎ (each ≢ id) → SameShape all (crash_state d writes some.0) e each
    either each (inl is) = subst (λ (n : ℕ). SameShape all (crash_state d writes some.0) e n) (sym is) some.3
    either each (inr off) = elim (others each off) [
      | inl none ↦ (no_label_written all d writes e each permitted cut none).0 some.0 some.2
      | inr never ↦ same_none all (crash_state d writes some.0) e each (never some.0 some.2) (none_appears all d writes e each cut never)
    ]

-- Labels of the leader.
abbrev pub Leads : ℕ → Label → Bool
Leads id l = leads_file true id (l, [])

leads_less : (all : Bool) (id : ℕ) (l : Label) → Leads id l ≡ false → leads_file all id (l, []) ≡ false
leads_less all id l fails = less (is_file l) (eqb l.page leader_page) (all || is_permanent l) (eqb l.id id) fails
  where
    less : (a b c e : Bool) → ((a && b && true) && e) ≡ false → ((a && b && c) && e) ≡ false
    less false b c e h = refl
    less true false c e h = refl
    less true true true e h = h
    less true true false e h = refl

leads_page : (id p : ℕ) (l : Label) → p < leader_page → Leads id l ≡ true → is_page id p (l, []) ≡ false
leads_page id p l low is = w.other_page true id leader_page p (l, []) (w.leader_number true id (l, []) is) (λ e. omega (arith, e, low))

-- no label write of the file makes a page of it, or takes one
leave_pages : (d : List Sector) (writes : List DiskWrite) (id : ℕ) → EachWrite (λ now write. IsLabelWriteOf id now write → IsOnLeader id now write) d writes → (p : ℕ) → p < leader_page → LabelsLeavePage id p d writes
leave_pages d writes id only p low k write i s t is now gives turn = either (cases_eq id (id_of (crash_state d writes k) write))
  where
    leads : (label : Label) → write ≡ kind.LabelOnly i label → id ≡ id_of (crash_state d writes k) write → Leads id s.0 ≡ true
    leads label eq own =
        let on = subst (λ (v : DiskWrite). IsOnLeader id (crash_state d writes k) v) eq (only k write is (gives, sym own)) in
        ap (λ (v : Sector). Leads id v.0) (same_Some s on.0 (sym now ∙ on.1)) ∙ on.2

    at : id ≡ id_of (crash_state d writes k) write → Turn write i s t → SameBy (λ l. is_page id p (l, [])) s t
    at own (stays e) = inl e
    at own (bytes wanted eq named label) = absurd (true≢false (sym gives ∙ ap gives_label eq))
    at own (fresh eq free taken page) = absurd (subst (λ (v : DiskWrite). IsOnLeader id (crash_state d writes k) v) eq (only k write is (gives, sym own)))
    at own (freed eq new) = inr (leads_page id p s.0 low (leads free_label eq own), ap (λ (v : Sector). is_page id p (v.0, [])) new)
    at own (marked eq same old new page) =
        inr (leads_page id p s.0 low (leads t.0 eq own), w.other_page true id leader_page p t new (λ e. omega (arith, e, low)))

    either : (id ≡ id_of (crash_state d writes k) write) ⊎ (id ≢ id_of (crash_state d writes k) write) → SameBy (λ l. is_page id p (l, [])) s t
    either (inl own) = at own turn
    either (inr apart) = narrow_page id p s t (turn_same id (crash_state d writes k) write i s t now apart turn)

-- the sector of a whole file's leader
pub record Leader (d : List Sector) (id : ℕ) : Type 0 where
  pub i : ℕ
  pub is_data : first_data (length d) ≤ i
  pub s : Sector
  pub here : slice_get d i ≡ Some s
  pub alone : (k : ℕ) (t : Sector) → first_data (length d) ≤ k → slice_get d k ≡ Some t → k ≢ i → Leads id t.0 ≡ false

pub the_leader : (d : List Sector) (id : ℕ) → IsWholeOn d id → Leader d id
the_leader d id whole =
    let revealed = (lowest.files_are_as_revealed true d).revealed id whole.0 whole.1 in
    let low = revealed.0.leader in
    record {
      i = first_data (length d) + low.0;
      is_data = omega arith;
      s = low.1;
      here = sym (data_at d low.0) ∙ low.2.here;
      alone = λ k t is_data at apart. either k t is_data at apart (Leads id t.0) refl;
    }
  where
    either : (k : ℕ) (t : Sector) → first_data (length d) ≤ k → slice_get d k ≡ Some t
        → k ≢ first_data (length d) + ((lowest.files_are_as_revealed true d).revealed id whole.0 whole.1).0.leader.0 → (b : Bool) → Leads id t.0 ≡ b → Leads id t.0 ≡ false
    either k t is_data at apart false f = f
    either k t is_data at apart true f =
        let revealed = (lowest.files_are_as_revealed true d).revealed id whole.0 whole.1 in
        let low = revealed.0.leader in
        let at' : slice_get (data_sectors d) (k - first_data (length d)) ≡ Some t = laws.data_get true 0 0 d k t is_data at in
        let leads : leads_file true whole.0.id t ≡ true = ap (λ (n : ℕ). leads_file true n t) revealed.1 ∙ f in
        let same = whole.2.once (k - first_data (length d)) low.0 t low.1 at' low.2.here (laws.leader_of true 0 0 whole.0.id t leads) (laws.leader_of true 0 0 whole.0.id low.1 low.2.passes)
        (w.leader_number true whole.0.id t leads ∙ sym (w.leader_number true whole.0.id low.1 low.2.passes)) in
        absurd (apart (let z : k ≡ first_data (length d) + low.0 = omega (arith, is_data, same) in z))

module _ (d : List Sector) (writes : List DiskWrite) (e : List Sector) (id : ℕ) (permitted : ArePermitted d writes) (cut : IsCutSince d writes e) (whole : IsWholeOn d id)
    (only : EachWrite (λ now write. IsLabelWriteOf id now write → IsOnLeader id now write) d writes) where
  abbrev pub place : ℕ
  place = (the_leader d id whole).i

  -- no other sector leads in any crash state
  never : (i : ℕ) → first_data (length d) ≤ i → i ≢ place → (k : ℕ) → k ≤ length writes → (t : Sector) → slice_get (crash_state d writes k) i ≡ Some t → Leads id t.0 ≡ false
  never i low apart =
      turns (λ k t. Leads id t.0 ≡ false) d writes i permitted low (λ t there. (the_leader d id whole).alone i t low there apart)
      (λ k write s t few is now then turn fails. one k write s t is now fails (cases_eq id (id_of (crash_state d writes k) write)) turn)
    where
      one : (k : ℕ) (write : DiskWrite) (s t : Sector) → slice_get writes k ≡ Some write → slice_get (crash_state d writes k) i ≡ Some s → Leads id s.0 ≡ false
          → (id ≡ id_of (crash_state d writes k) write) ⊎ (id ≢ id_of (crash_state d writes k) write) → Turn write i s t → Leads id t.0 ≡ false
      one k write s t is now fails own (stays e) = ap (λ (v : Sector). Leads id v.0) e ∙ fails
      one k write s t is now fails own (bytes wanted eq named label) = ap (Leads id) label ∙ fails
      one k write s t is now fails (inl own) (fresh eq free taken page) = absurd (subst (λ (v : DiskWrite). IsOnLeader id (crash_state d writes k) v) eq (only k write is (ap gives_label eq, sym own)))
      one k write s t is now fails (inr other) (fresh eq free taken page) = not_of-not_leader true id t.0 (other_id id t.0 (λ q. other (sym q ∙ sym (ap (id_of (crash_state d writes k)) eq))))
      one k write s t is now fails own (freed eq new) = ap (λ (v : Sector). Leads id v.0) new
      one k write s t is now fails (inl own) (marked eq same old new page) =
          let on = subst (λ (v : DiskWrite). IsOnLeader id (crash_state d writes k) v) eq (only k write is (ap gives_label eq, sym own)) in
          absurd (true≢false (sym on.2 ∙ ap (λ (v : Sector). Leads id v.0) (same_Some on.0 s (sym on.1 ∙ now)) ∙ fails))
      one k write s t is now fails (inr other) (marked eq same old new page) =
          not_of-not_leader true id t.0 (other_id id t.0 (λ q. other (sym q ∙ same ∙ sym (id_of_label (crash_state d writes k) write i t.0 s eq now))))

  -- nor in the cut
  never_cut : (i : ℕ) → first_data (length d) ≤ i → i ≢ place → (t : Sector) → slice_get e i ≡ Some t → Leads id t.0 ≡ false
  never_cut i low apart t there =
      let one = cut.labels i t there in
      ap (Leads id) (sym one.3.2) ∙ never i low apart one.0 one.2 one.3.0 one.3.1

  pub stay : PagesStay d writes e id
  stay = pages_stay d writes e id permitted cut (leave_pages d writes id only)

  -- where the leader's label is that of a crash state, so is the shape
  pub shape_at : (all : Bool) (j : ℕ) → j ≤ length writes → ((s t : Sector) → slice_get (crash_state d writes j) place ≡ Some s → slice_get e place ≡ Some t → Alike (Leads id) s.0 t.0) → SameShape all (crash_state d writes j) e id
  shape_at all j few same =
      shape_by_count all id (data_sectors (crash_state d writes j)) (data_sectors e)
      (leader_pairs all id (data_sectors (crash_state d writes j)) (data_sectors e)
      (data_pairs (λ s t. Alike (λ l. leads_file all id (l, [])) s.0 t.0) (crash_state d writes j) e (cut.sectors ∙ sym (crash_state_long d writes j))
      (λ i s t low here there. either i s t (subst (λ (n : ℕ). first_data n ≤ i) (crash_state_long d writes j) low) here there (cases_eq i place))))
      (count_pairs (page_at (data_sectors (crash_state d writes j)) id) (page_at (data_sectors e) id) 0 leader_page (λ p low. there_pairs id p (data_sectors (crash_state d writes j)) (data_sectors e)
      (steady_pairs d writes e cut (λ l. is_page id p (l, [])) (steady_page id p d writes permitted (leave_pages d writes id only p (omega (arith, low)))) j few)))
    where
      either : (i : ℕ) (s t : Sector) → first_data (length d) ≤ i → slice_get (crash_state d writes j) i ≡ Some s → slice_get e i ≡ Some t → (i ≡ place) ⊎ (i ≢ place) → Alike (λ l. leads_file all id (l, [])) s.0 t.0
      either i s t low here there (inl at) =
          alike_less (Leads id) (λ l. leads_file all id (l, [])) s.0 t.0 (λ l fails. leads_less all id l fails)
          (same s t (ap (λ (n : ℕ). slice_get (crash_state d writes j) n) (sym at) ∙ here) (ap (λ (n : ℕ). slice_get e n) (sym at) ∙ there))
      either i s t low here there (inr apart) = inr (leads_less all id s.0 (never i low apart j few s here), leads_less all id t.0 (never_cut i low apart t there))

  -- it has all its pages
  pub same_size : (all : Bool) (g : File) → disk_file all e id ≡ Some g → size g ≡ size whole.0
  same_size all g is =
      ap (λ (l : List Page). length l) (w.file_pages all (data_sectors e) id g is)
      ∙ count_pairs (page_at (data_sectors d) id) (page_at (data_sectors e) id) 0 leader_page (λ p low. there_pairs id p (data_sectors d) (data_sectors e)
      (steady_pairs d writes e cut (λ l. is_page id p (l, [])) (steady_page id p d writes permitted (leave_pages d writes id only p (omega (arith, low)))) 0 (omega arith)))
      ∙ sym (ap (λ (l : List Page). length l) (w.file_pages true (data_sectors d) id whole.0 whole.1))

  -- the leader's sector in the cut
  pub at_place : (t : Sector) × (slice_get e place ≡ Some t)
  at_place =
      let l = the_leader d id whole in
      get_some e l.i (omega (arith, slice_get_within d l.i l.s l.here, cut.sectors))

  pub of_one_crash_state : (all : Bool) → AtSome 0 (length writes) (λ j. SameShape all (crash_state d writes j) e id)
  of_one_crash_state all =
      let one = cut.labels place at_place.0 at_place.1 in (
        one.0,
        one.1,
        one.2,
        shape_at all one.0 one.2 (λ s t here there.
            inl (ap (λ (v : Sector). v.0) (same_Some s one.3.0 (sym here ∙ one.3.1)) ∙ one.3.2 ∙ ap (λ (v : Sector). v.0) (same_Some at_place.0 t (sym at_place.1 ∙ there)))),
      )

  -- without a leader there is no file
  pub no_leader : (all : Bool) → ((t : Sector) → slice_get e place ≡ Some t → Leads id t.0 ≡ false) → disk_file all e id ≡ None
  no_leader all fails =
      w.file_none all (data_sectors e) id
      (ap (λ (o : Option Sector). option_map (λ s. s.0) o) (find_none (leads_file all id) (data_sectors e) (λ i t there. leads_less all id t.0 (either i t (cases_eq (first_data (length e) + i) place) (sym (data_at e i) ∙ there)))))
    where
      either : (i : ℕ) (t : Sector) → (first_data (length e) + i ≡ place) ⊎ (first_data (length e) + i ≢ place) → slice_get e (first_data (length e) + i) ≡ Some t → Leads id t.0 ≡ false
      either i t (inl at) there = fails t (ap (λ (n : ℕ). slice_get e n) (sym at) ∙ there)
      either i t (inr apart) there = never_cut (first_data (length e) + i) (subst (λ (n : ℕ). first_data n ≤ first_data (length e) + i) cut.sectors (omega arith)) apart t there

pub leader_written : (all : Bool) → LeaderWritten all
leader_written all d writes e id permitted cut whole only = (
  of_one_crash_state d writes e id permitted cut whole only all,
  λ g is. same_size d writes e id permitted cut whole only all g is,
  stay d writes e id permitted cut whole only,
)

on_leader : (id : ℕ) (now : List Sector) (write : DiskWrite) → FreesLeader id now write → IsOnLeader id now write
on_leader id now (kind.Whole sector label page) frees = frees
on_leader id now (kind.LabelOnly sector label) frees = frees.0
on_leader id now (kind.Page sector wanted page) frees = frees

module _ (d : List Sector) (writes : List DiskWrite) (id : ℕ) (permitted : ArePermitted d writes) (whole : IsWholeOn d id) (frees : EachWrite (λ now write. IsLabelWriteOf id now write → FreesLeader id now write) d writes) where
  only_leader : EachWrite (λ now write. IsLabelWriteOf id now write → IsOnLeader id now write) d writes
  only_leader k write is of = on_leader id (crash_state d writes k) write (frees k write is of)

  -- in each crash state the leader has its label, or leads no more
  kept : (k : ℕ) → k ≤ length writes → (t : Sector) → slice_get (crash_state d writes k) (the_leader d id whole).i ≡ Some t → (t.0 ≡ (the_leader d id whole).s.0) ⊎ (Leads id t.0 ≡ false)
  kept =
      let l = the_leader d id whole in
      turns (λ k t. (t.0 ≡ (the_leader d id whole).s.0) ⊎ (Leads id t.0 ≡ false)) d writes l.i permitted l.is_data
      (λ t there. inl (ap (λ (v : Sector). v.0) (same_Some t l.s (sym there ∙ l.here))))
      (λ k write s t few is now then turn so. one k write l.i s t is now so (cases_eq id (id_of (crash_state d writes k) write)) turn)
    where
      one : (k : ℕ) (write : DiskWrite) (i : ℕ) (s t : Sector) → slice_get writes k ≡ Some write → slice_get (crash_state d writes k) i ≡ Some s → (s.0 ≡ (the_leader d id whole).s.0) ⊎ (Leads id s.0 ≡ false)
          → (id ≡ id_of (crash_state d writes k) write) ⊎ (id ≢ id_of (crash_state d writes k) write) → Turn write i s t → (t.0 ≡ (the_leader d id whole).s.0) ⊎ (Leads id t.0 ≡ false)
      one k write i s t is now so own (stays e) = subst (λ (v : Sector). (v.0 ≡ (the_leader d id whole).s.0) ⊎ (Leads id v.0 ≡ false)) (sym e) so
      one k write i s t is now so own (bytes wanted eq named label) = subst (λ (v : Label). (v ≡ (the_leader d id whole).s.0) ⊎ (Leads id v ≡ false)) (sym label) so
      one k write i s t is now so (inl own) (fresh eq free taken page) = absurd (subst (λ (v : DiskWrite). FreesLeader id (crash_state d writes k) v) eq (frees k write is (ap gives_label eq, sym own)))
      one k write i s t is now so (inr other) (fresh eq free taken page) = inr (not_of-not_leader true id t.0 (other_id id t.0 (λ q. other (sym q ∙ sym (ap (id_of (crash_state d writes k)) eq)))))
      one k write i s t is now so own (freed eq new) = inr (ap (λ (v : Sector). Leads id v.0) new)
      one k write i s t is now so (inl own) (marked eq same old new page) =
          let free = (subst (λ (v : DiskWrite). FreesLeader id (crash_state d writes k) v) eq (frees k write is (ap gives_label eq, sym own))).1 in
          inr (ap (Leads id) free)
      one k write i s t is now so (inr other) (marked eq same old new page) =
          inr (not_of-not_leader true id t.0 (other_id id t.0 (λ q. other (sym q ∙ same ∙ sym (id_of_label (crash_state d writes k) write i t.0 s eq now)))))

pub leader_freed : (all : Bool) → LeaderFreed all
leader_freed all d writes e id permitted cut whole frees = (
  either (at_place d writes e id permitted cut whole (only_leader d writes id permitted whole frees)),
  stay d writes e id permitted cut whole (only_leader d writes id permitted whole frees),
)
  where
    either : (t : Sector) × (slice_get e (the_leader d id whole).i ≡ Some t) → SameShape all d e id ⊎ (disk_file all e id ≡ None)
    either at =
        let one = cut.labels (the_leader d id whole).i at.0 at.1 in
        elim (kept d writes id permitted whole frees one.0 one.2 one.3.0 one.3.1) [
          | inl same ↦ inl (shape_at d writes e id permitted cut whole (only_leader d writes id permitted whole frees) all 0 (omega arith) (λ s t here there.
              inl (ap (λ (v : Sector). v.0) (same_Some s (the_leader d id whole).s (sym here ∙ (the_leader d id whole).here)) ∙ sym same ∙ one.3.2 ∙ ap (λ (v : Sector). v.0) (same_Some at.0 t (sym at.1 ∙ there)))))
          | inr fails ↦ inr (no_leader d writes e id permitted cut whole (only_leader d writes id permitted whole frees) all (λ t there.
              ap (Leads id) (ap (λ (v : Sector). v.0) (same_Some t at.0 (sym there ∙ at.1)) ∙ sym one.3.2) ∙ fails))
        ]
