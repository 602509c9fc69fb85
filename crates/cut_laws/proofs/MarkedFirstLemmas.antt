-- The files of a cut are those of one crash state: where the first write gives a leader another label, or the only write is a label.
use Rattle.std.proofs.Common.{◌≡◌, ◌≢◌, inl, inr, ℕ, zero, suc, ◌-◌, ◌<◌, ◌≤◌, Bool, true, false, List, [], ◌∷◌, length, Option, Some, refl, sym, ◌∙◌, ap, subst, arith}
use Rattle.std.specs.Prelude.{slice_get, slice_set, option_map}
use Rattle.std.proofs.lemmas.Bool.{cases_eq}
use Rattle.std.proofs.lemmas.List.{length-set}
use Rattle.std.proofs.lemmas.Option.{same_Some, slice_get_within}
use Rattle.labelled_disk.specs.declared.label.Label.{Label}
use Rattle.labelled_disk.specs.declared.disk.DiskWrite.{DiskWrite}
use Rattle.labelled_disk.specs.declared.disk.DiskWrite.TheVariants.{Whole, LabelOnly, Page}
use Rattle.labelled_disk.specs.CrashState.{crash_state}
use Rattle.labelled_disk.specs.File.{File, Page as Cells, size}
use Rattle.labelled_disk.specs.FilesOn.{disk_file, is_page, leads_file, page_at}
use Rattle.labelled_disk.specs.Label.{leader_page}
use Rattle.labelled_disk.specs.Layout.{data_sectors, first_data}
use Rattle.labelled_disk.specs.Sectors.{Sector}
use Rattle.labelled_disk.proofs.Finds.{get_set_other, get_set_same}
use Rattle.labelled_disk.proofs.Pages.{pages_most}
use Rattle.labelled_disk.proofs.SectorWrites as w
use Rattle.labelled_disk.proofs.WriteLemmas as laws
use Rattle.label_laws.specs.Shape.{SameShape, bare_file}
use Rattle.label_laws.proofs.MixedLemmas.{written_long}
use Rattle.cut_laws.specs.Cut.{AtSome, HasLabelAt, IsCutSince}
use Rattle.cut_laws.specs.OneCrashState.{AreFilesWhole, FilesOfOneCrashState, HasUnitOf, IsMarkedFirst, IsOneLabel, IsPageThroughout, IsSteady, OneChangeIsOneCrashState}
use Rattle.cut_laws.specs.Windows.{disk_page}
use Rattle.cut_laws.proofs.CommonLemmas.{file_of_shape}
use Rattle.cut_laws.proofs.CrashStateLemmas.{get_some}
use Rattle.cut_laws.proofs.FirstLabelLemmas.{cut_after, labelled, labelled_there, one_label, other_sector}
use Rattle.cut_laws.proofs.OneCrashStateLemmas.{of_crash_state, resized_files, steady_files, steady_pages, steady_shape, steady_there, whole_there}
use Rattle.cut_laws.proofs.PairLemmas.{Pairs, Alike, count_pairs, leader_pairs, shape_by_count, there_pairs}
use Rattle.cut_laws.proofs.SizeLemmas.{count_on}
use Rattle.cut_laws.proofs.StayLemmas.{pages_of_file}
use Rattle.cut_laws.proofs.SteadyLemmas.{SameBy, data_pairs, page_pairs, same_alike}
use Rattle.cut_laws.proofs.ThereLemmas.{leader_only, leader_then, sized}

-- Two disks that differ in the label of one leader have the same pages.
module _ (id : ℕ) (x y : List Sector) (sector : ℕ) (long : length y ≡ length x) (off_same : (i : ℕ) → i ≢ sector → slice_get y i ≡ slice_get x i)
    (first : (s : Sector) → slice_get x sector ≡ Some s → s.0.page ≡ leader_page) (next : (t : Sector) → slice_get y sector ≡ Some t → t.0.page ≡ leader_page) where
  no_page : (p : ℕ) → p < leader_page → (s : Sector) → s.0.page ≡ leader_page → is_page id p s ≡ false
  no_page p low s is = w.other_page true id leader_page p s is (λ e. omega (arith, e, low))

  page_sectors : (p : ℕ) → p < leader_page → Pairs (SameBy (λ l. is_page id p (l, []))) (data_sectors x) (data_sectors y)
  page_sectors p low = data_pairs (SameBy (λ l. is_page id p (l, []))) x y long (λ i s t is_data here there. elim (cases_eq i sector) [
    | inl on ↦ inr (no_page p low s (first s (ap (λ (n : ℕ). slice_get x n) (sym on) ∙ here)), no_page p low t (next t (ap (λ (n : ℕ). slice_get y n) (sym on) ∙ there)))
    | inr off ↦ inl (same_Some t s (sym there ∙ off_same i off ∙ here))
  ])

  pub same_cells : (p : ℕ) → p < leader_page → disk_page y id p ≡ disk_page x id p
  same_cells p low = page_pairs id p (data_sectors x) (data_sectors y) (page_sectors p low)

  pub same_count : count_on y id ≡ count_on x id
  same_count =
      count_pairs (page_at (data_sectors x) id) (page_at (data_sectors y) id) 0 leader_page (λ p low. there_pairs id p (data_sectors x) (data_sectors y) (record {
        long = (page_sectors p (omega (arith, low))).long;
        each = λ i s t here there. same_alike (λ l. is_page id p (l, [])) s t ((page_sectors p (omega (arith, low))).each i s t here there);
      }))

-- what is said of later writes
abbrev later : Bool → List Sector → DiskWrite → List DiskWrite → List Sector → Type 0
later all d write rest e = FilesOfOneCrashState all (crash_state d (write ∷ rest) 1) rest 0 (length rest) e → FilesOfOneCrashState all d (write ∷ rest) 0 (suc (length rest)) e

after_first : (all : Bool) (d : List Sector) (write : DiskWrite) (rest : List DiskWrite) (e : List Sector) → later all d write rest e
after_first all d write rest e files = record {
  shapes = let some = files.shapes in (suc some.0, omega arith, omega (arith, some.2), some.3);
  pages = λ id p g file below.
      let own = files.pages id p g file (λ j f low few there. below (suc j) f (omega arith) (omega (arith, few)) there) in
      (own.0, own.1, λ u. let some = own.2 u in (suc some.0, omega arith, omega (arith, some.2), some.3));
}

-- The first write gives the leader in this sector another label.
module _ (all : Bool) (d : List Sector) (sector : ℕ) (label : Label) (rest : List DiskWrite) (e : List Sector) (id : ℕ) (cut : IsCutSince d (LabelOnly sector label ∷ rest) e)
    (whole : (j : ℕ) → j ≤ suc (length rest) → AreFilesWhole all (crash_state d (LabelOnly sector label ∷ rest) j))
    (others : (other : ℕ) → other ≢ id → IsSteady all other d (LabelOnly sector label ∷ rest)) (marked : IsMarkedFirst all id d (LabelOnly sector label ∷ rest)) where
  abbrev now : List Sector
  now = labelled d sector label

  abbrev old : Sector
  old = marked.0

  same_long : length now ≡ length d
  same_long = written_long d (LabelOnly sector label)

  whole_later : (j : ℕ) → j ≤ length rest → AreFilesWhole all (crash_state now rest j)
  whole_later j few = whole (suc j) (omega (arith, few))

  steady_later : (other : ℕ) → IsSteady all other now rest
  steady_later other j few = elim (cases_eq other id) [
    | inl same ↦ subst (SameShape all now (crash_state now rest j)) (sym same) (marked.5 j few)
    | inr off ↦ others other off (suc j) (omega (arith, few)) ∙ sym (others other off 1 (omega arith))
  ]

  -- it stands in the cut with the label of later
  stood_later : (j : ℕ) → j ≤ length rest → (t : Sector) → slice_get e sector ≡ Some t → (v : Sector) → slice_get (crash_state now rest j) sector ≡ Some v → v.0 ≡ t.0 → FilesOfOneCrashState all d (LabelOnly sector label ∷ rest) 0 (suc (length rest)) e
  stood_later j few t at v here same =
      after_first all d (LabelOnly sector label) rest e (steady_files all now rest e (cut_after d sector label rest e cut e refl (λ i off. refl) (λ u there. (
        (j, omega arith, few, (v, here, same ∙ ap (λ (x : Sector). x.0) (same_Some t u (sym at ∙ there)))),
        u,
        there,
        refl,
      ))) whole_later steady_later)

  -- Or with the one of before.
  module _ (t : Sector) (at : slice_get e sector ≡ Some t) (same : t.0 ≡ old.0) where
    abbrev other_cut : List Sector
    other_cut = slice_set e sector (label, t.1)

    there_now : slice_get other_cut sector ≡ Some (label, t.1)
    there_now = get_set_same e sector (label, t.1) (slice_get_within e sector t at)

    off_now : (i : ℕ) → i ≢ sector → slice_get other_cut i ≡ slice_get e i
    off_now i off = get_set_other e sector i (label, t.1) off

    later_cut : IsCutSince now rest other_cut
    later_cut = cut_after d sector label rest e cut other_cut (length-set e sector (label, t.1)) off_now (λ u there.
        let is : (label, t.1) ≡ u = same_Some (label, t.1) u (sym there_now ∙ there) in (
          (0, omega arith, omega arith, ((label, old.1), labelled_there d sector label old marked.1.here, ap (λ (x : Sector). x.0) is)),
          t,
          at,
          ap (λ (x : Sector). x.1) is,
        ))

    old_leads : old.0.page ≡ leader_page
    old_leads = marked.2

    label_leads : label.page ≡ leader_page
    label_leads = w.leader_number all id (label, old.1) marked.3

    was_leader : (s : Sector) → slice_get d sector ≡ Some s → s.0.page ≡ leader_page
    was_leader s here = ap (λ (x : Sector). x.0.page) (same_Some s old (sym here ∙ marked.1.here)) ∙ old_leads

    now_leader : (s : Sector) → slice_get now sector ≡ Some s → s.0.page ≡ leader_page
    now_leader s here = ap (λ (x : Sector). x.0.page) (same_Some s (label, old.1) (sym here ∙ labelled_there d sector label old marked.1.here)) ∙ label_leads

    cut_leader : (s : Sector) → slice_get e sector ≡ Some s → s.0.page ≡ leader_page
    cut_leader s here = ap (λ (x : Sector). x.0.page) (same_Some s t (sym here ∙ at)) ∙ ap (λ (l : Label). l.page) same ∙ old_leads

    other_leader : (s : Sector) → slice_get other_cut sector ≡ Some s → s.0.page ≡ leader_page
    other_leader s here = ap (λ (x : Sector). x.0.page) (same_Some s (label, t.1) (sym here ∙ there_now)) ∙ label_leads

    -- no other sector leads the file
    place_of : (x : List Sector) → length x ≡ length d → (i : ℕ) (s : Sector) → first_data (length d) ≤ i → slice_get x i ≡ Some s → slice_get (data_sectors x) (i - first_data (length d)) ≡ Some s
    place_of x long i s low here = subst (λ (n : ℕ). slice_get (data_sectors x) (i - first_data n) ≡ Some s) long (laws.data_get true 0 0 x i s (subst (λ (n : ℕ). first_data n ≤ i) (sym long) low) here)

    one_place : (i : ℕ) → first_data (length d) ≤ i → i ≢ sector → i - first_data (length d) ≡ sector - first_data (length d) → ⊥
    one_place i low off is = let data_too = marked.1.is_data in off (omega (arith, low, data_too, is))

    leads_label : (s : Sector) → leads_file all id (label, s.1) ≡ true
    leads_label s = marked.3

    alone_now : (i : ℕ) (s : Sector) → first_data (length d) ≤ i → i ≢ sector → slice_get now i ≡ Some s → leads_file all id s ≡ true → ⊥
    alone_now i s low off here leads =
        let there = steady_there all now rest other_cut later_cut whole_later id marked.4.0 (marked.5) marked.4.1 in
        let full = whole_there all now rest other_cut later_cut whole_later id there in
        one_place i low off (leader_then all now rest other_cut id later_cut full there 0 (omega arith) (i - first_data (length d)) s (place_of now same_long i s low here) leads
        ∙ sym (leader_then all now rest other_cut id later_cut full there 0 (omega arith) (sector - first_data (length d)) (label, old.1)
        (place_of now same_long sector (label, old.1) marked.1.is_data (labelled_there d sector label old marked.1.here)) (leads_label old)))

    alone_cut : (i : ℕ) (s : Sector) → first_data (length d) ≤ i → i ≢ sector → slice_get e i ≡ Some s → leads_file all id s ≡ true → ⊥
    alone_cut i s low off here leads =
        let there = steady_there all now rest other_cut later_cut whole_later id marked.4.0 (marked.5) marked.4.1 in
        let full = whole_there all now rest other_cut later_cut whole_later id there in
        let long : length other_cut ≡ length d = length-set e sector (label, t.1) ∙ cut.sectors in
        one_place i low off (leader_only all now rest other_cut id later_cut full there (i - first_data (length d)) s (place_of other_cut long i s low (off_now i off ∙ here)) leads
        ∙ sym (leader_only all now rest other_cut id later_cut full there (sector - first_data (length d)) (label, t.1) (place_of other_cut long sector (label, t.1) marked.1.is_data there_now) (leads_label t)))

    not_leading : (s : Sector) → (leads_file all id s ≡ true → ⊥) → leads_file all id s ≡ false
    not_leading s never = either (leads_file all id s) refl
      where
        either : (b : Bool) → leads_file all id s ≡ b → leads_file all id s ≡ false
        either true is = absurd (never is)
        either false is = is

    same_leader : Pairs (λ s u. Alike (λ l. leads_file all id (l, [])) s.0 u.0) (data_sectors d) (data_sectors e)
    same_leader = data_pairs (λ s u. Alike (λ l. leads_file all id (l, [])) s.0 u.0) d e cut.sectors (λ i s u low here there. elim (cases_eq i sector) [
      | inl on ↦
          inl (ap (λ (x : Sector). x.0) (same_Some s old (sym here ∙ ap (λ (n : ℕ). slice_get d n) on ∙ marked.1.here)) ∙ sym same
          ∙ ap (λ (x : Sector). x.0) (same_Some t u (sym at ∙ ap (λ (n : ℕ). slice_get e n) (sym on) ∙ there)))
      | inr off ↦ inr (not_leading s (alone_now i s low off (other_sector d sector label i off ∙ here)), not_leading u (alone_cut i u low off there))
    ])

    -- the file has as many pages in all of them
    file_later : (g : File) × (disk_file all other_cut id ≡ Some g) × (bare_file g ≡ bare_file marked.4.0)
    file_later =
        file_of_shape all other_cut id (bare_file marked.4.0)
        (steady_shape all now rest other_cut later_cut whole_later id (steady_later id) ∙ ap (λ (o : Option File). option_map bare_file o) marked.4.1)

    count_cut : count_on e id ≡ count_on other_cut id
    count_cut = sym (same_count id e other_cut sector (length-set e sector (label, t.1)) off_now cut_leader other_leader)

    counts : count_on e id ≡ count_on d id
    counts =
        count_cut ∙ sym (sized all other_cut id file_later.0 file_later.1) ∙ ap (λ b. b.pages) file_later.2 ∙ sized all now id marked.4.0 marked.4.1
        ∙ same_count id d now sector same_long (other_sector d sector label) was_leader now_leader

    shape_before : SameShape all d e id
    shape_before = shape_by_count all id (data_sectors d) (data_sectors e) (leader_pairs all id (data_sectors d) (data_sectors e) same_leader) counts

    -- its pages are those of the cut with the label of later
    pages_before : (p : ℕ) (g : File) → disk_file all e id ≡ Some g → IsPageThroughout all id p d (LabelOnly sector label ∷ rest) 0 (suc (length rest))
        → (cells : Cells) × (slice_get g.pages p ≡ Some cells) × ((u : ℕ) → AtSome 0 (suc (length rest)) (λ j. HasUnitOf all id p u cells (crash_state d (LabelOnly sector label ∷ rest) j)))
    pages_before p g file below =
        let f = file_later in
        let own = steady_pages all now rest other_cut later_cut whole_later id p f.0 (steady_later id) f.1 (λ j h low few there. below (suc j) h (omega arith) (omega (arith, few)) there) in
        let inside : p < size f.0 = slice_get_within f.0.pages p own.0 own.1 in
        let same_size : size g ≡ size f.0 = sized all e id g file ∙ count_cut ∙ sym (sized all other_cut id f.0 f.1) in
        let low : p < leader_page = let most = pages_most (page_at (data_sectors other_cut) id) 0 leader_page in omega (arith, inside, sized all other_cut id f.0 f.1, most) in (
          own.0,
          pages_of_file all e id p g file (omega (arith, inside, same_size)) ∙ sym (same_cells id e other_cut sector (length-set e sector (label, t.1)) off_now cut_leader other_leader p low)
              ∙ sym (pages_of_file all other_cut id p f.0 f.1 inside) ∙ own.1,
          λ u. let some = own.2 u in (suc some.0, omega arith, omega (arith, some.2), some.3),
        )

    stood_before : FilesOfOneCrashState all d (LabelOnly sector label ∷ rest) 0 (suc (length rest)) e
    stood_before = record {
      shapes = (
        0,
        omega arith,
        omega arith,
        λ other. elim (cases_eq other id) [
          | inl is ↦ subst (SameShape all d e) (sym is) shape_before
          | inr off ↦ steady_shape all d (LabelOnly sector label ∷ rest) e cut whole other (others other off)
        ],
      );
      pages = λ other p g file below. elim (cases_eq other id) [
        | inl is ↦
            let own = pages_before p g (ap (disk_file all e) (sym is) ∙ file) (λ j f low few there. below j f low few (ap (disk_file all (crash_state d (LabelOnly sector label ∷ rest) j)) is ∙ there)) in
            (own.0, own.1, λ u. subst (λ (n : ℕ). AtSome 0 (suc (length rest)) (λ j. HasUnitOf all n p u own.0 (crash_state d (LabelOnly sector label ∷ rest) j))) (sym is) (own.2 u))
        | inr off ↦ steady_pages all d (LabelOnly sector label ∷ rest) e cut whole other p g (others other off) file below
      ];
    }

  marked_files : FilesOfOneCrashState all d (LabelOnly sector label ∷ rest) 0 (suc (length rest)) e
  marked_files =
      let t = get_some e sector (omega (arith, slice_get_within d sector old marked.1.here, cut.sectors)) in
      from t.0 t.1 (cut.labels sector t.0 t.1)
    where
      from : (t : Sector) → slice_get e sector ≡ Some t
          → AtSome 0 (suc (length rest)) (λ j. HasLabelAt (crash_state d (LabelOnly sector label ∷ rest) j) sector t.0) → FilesOfOneCrashState all d (LabelOnly sector label ∷ rest) 0 (suc (length rest)) e
      from t at (suc j, low, few, has) = stood_later j (omega (arith, few)) t at has.0 has.1 has.2
      from t at (zero, low, few, has) = stood_before t at (sym has.2 ∙ ap (λ (x : Sector). x.0) (same_Some has.0 old (sym has.1 ∙ marked.1.here)))

pub one_change : (all : Bool) → OneChangeIsOneCrashState all
one_change all d writes e id cut changes = elim changes.change [
  | inl steady ↦ steady_files all d writes e cut changes.whole (λ other. elim (cases_eq other id) [
    | inl same ↦ subst (λ (n : ℕ). IsSteady all n d writes) (sym same) steady
    | inr off ↦ changes.others other off
  ])
  | inr more ↦ elim more [
    | inl resized ↦ resized_files all d writes e cut changes.whole id resized changes.others
    | inr first ↦ elim first [ inl marked ↦ by_mark writes cut changes.whole changes.others marked | inr one ↦ by_label writes cut one ]
  ]
]
  where
    by_mark : (writes : List DiskWrite) → IsCutSince d writes e → ((j : ℕ) → j ≤ length writes → AreFilesWhole all (crash_state d writes j)) → ((other : ℕ) → other ≢ id → IsSteady all other d writes)
        → IsMarkedFirst all id d writes → FilesOfOneCrashState all d writes 0 (length writes) e
    by_mark [] cut whole others marked = absurd marked
    by_mark (Whole sector label page ∷ rest) cut whole others marked = absurd marked
    by_mark (LabelOnly sector label ∷ rest) cut whole others marked = marked_files all d sector label rest e id cut whole others marked
    by_mark (Page sector wanted page ∷ rest) cut whole others marked = absurd marked

    by_label : (writes : List DiskWrite) → IsCutSince d writes e → IsOneLabel writes → FilesOfOneCrashState all d writes 0 (length writes) e
    by_label [] cut one = absurd one
    by_label (LabelOnly sector label ∷ []) cut one =
        let state = one_label d sector label e cut in of_crash_state all d (LabelOnly sector label ∷ []) e state.0 state.1 state.2
    by_label (LabelOnly sector label ∷ write ∷ rest) cut one = absurd one
    by_label (Whole sector label page ∷ rest) cut one = absurd one
    by_label (Page sector wanted page ∷ rest) cut one = absurd one
