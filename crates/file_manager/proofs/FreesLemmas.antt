-- The sectors of a set of pages were freed, and the file map names these pages no more: the pages are gone.
use Rattle.std.proofs.Common.{◌≡◌, ◌⊎◌, inl, inr, ℕ, ◌+◌, ◌-◌, ◌*◌, ◌^◌, ◌<◌, ◌≤◌, Bool, true, false, not, ◌&&◌, List, length, map, Option, Some, None, refl, sym, ◌∙◌, ap, subst, arith, ⊎_elim}
use Rattle.std.specs.Prelude.{slice_get, option_map, nat_le, nat_lt, IsTrue, if◌then◌else◌}
use Rattle.std.proofs.lemmas.Option.{same_Some, slice_get-map, slice_get_within}
use Rattle.std.proofs.lemmas.Bool.{true≢false, ne_eqb, cases_lt, and_parts, leb-true, ltb-true}
use Rattle.std.proofs.lemmas.List.{length-map}
use Rattle.labelled_disk.specs.declared.label.Label.{Label}
use Rattle.labelled_disk.specs.declared.layout.Layout.{Layout}
use Rattle.labelled_disk.specs.Label.{is_free, names}
use Rattle.labelled_disk.specs.Layout.{first_data, vam, vfm}
use Rattle.labelled_disk.specs.Sectors.{Sector, AreSectors, free_label}
use Rattle.file_map.specs.declared.run.Run.{Run}
use Rattle.file_map.specs.Run.{sector_at}
use Rattle.file_map.specs.FileMap.{Triples}
use Rattle.file_map.specs.InSectors.{MapNames}
use Rattle.swapper_kernel.specs.declared.manager.Manager.{Manager}
use Rattle.swapper_kernel.specs.declared.manager.Manager.TheVariants.{AllocationMap, FileMap}
use Rattle.swapper_kernel.specs.Homes.{IsLayout}
use Rattle.swapper_kernel.specs.Stands.{labels_of}
use Rattle.swapper_kernel.specs.Differs.{Differs}
use Rattle.swapper_kernel.specs.DiffersLaws.{label_here, same_length, names_id}
use Rattle.swapper_kernel.specs.Kinds.{kind_of, maps_alone, the_allocation_map, the_file_map}
use Rattle.swapper_kernel.specs.Window.{Shows, in_map}
use Rattle.swapper_kernel.proofs.KindLemmas.{allocation_kind, map_kind}
use Rattle.filer_kernel.specs.Marks.{Marks, BitsAre}
use Rattle.filer_kernel.specs.Triples.{MapIs, AreOf}
use Rattle.filer_kernel.proofs.MapLemmas.{same_elements}
use Rattle.session_words.specs.Parts.{Shapes, HasLabel, IsTriple, IsBesideData, is_marked}
use Rattle.session_words.specs.FreeLaws.{Frees, AreOfFiles, free_where}
use Rattle.session_words.proofs.BitLemmas.{low_has_bit}
use Rattle.session_words.proofs.ShownLemmas.{shown_laws}
use Rattle.file_manager.specs.Book.{IsBooked, AreTrue}
use Rattle.file_manager.specs.Freeing.{IsNone, ClearsBits, FreesSectors}
use Rattle.file_manager.proofs.BookLemmas.{label_in}
use Rattle.file_manager.proofs.FreedSectors.{in_or_not}
use Rattle.file_manager.proofs.GrowSteps.{renamed}
use Rattle.filer_kernel.specs.MapOnce.{named_once}
use Rattle.file_manager.proofs.RunStages.{shows_still, beside_map, vam_is, vfm_is, marks_shown, bits_shown, mark_is, in_bits}

-- a sector of a map is of its kind
within_allocation : (n : ℕ) (layout : Layout) → layout.vam ≡ vam n → (k : ℕ) (l : Label) → in_map AllocationMap layout k l ≡ true → kind_of n k l ≡ the_allocation_map
within_allocation n layout a k l is =
    let both = and_parts (nat_le 1 k) (nat_lt k (1 + layout.vam)) is in
    allocation_kind n k l (leb-true 1 k both.0) (let below = ltb-true k (1 + layout.vam) both.1 in omega (arith, below, a))

within_map : (n : ℕ) (layout : Layout) → layout.vam ≡ vam n → layout.vfm ≡ vfm n → (k : ℕ) (l : Label) → in_map FileMap layout k l ≡ true → kind_of n k l ≡ the_file_map
unfolding first_data
within_map n layout a f k l is =
    let both = and_parts (nat_le (1 + layout.vam) k) (nat_lt k (1 + layout.vam + layout.vfm)) is in
    let above = leb-true (1 + layout.vam) k both.0 in
    let below = ltb-true k (1 + layout.vam + layout.vfm) both.1 in
    map_kind n k l (omega (arith, above, a)) (omega (arith, below, a, f))

-- so one of neither is outside of each
pub no_map : (which : Manager) (n : ℕ) (layout : Layout) → layout.vam ≡ vam n → layout.vfm ≡ vfm n → (k : ℕ) (l : Label) → maps_alone (kind_of n k l) ≡ false → in_map which layout k l ≡ false
no_map which n layout a f k l other = either which (in_map which layout k l) refl
  where
    either : (which : Manager) (b : Bool) → in_map which layout k l ≡ b → in_map which layout k l ≡ false
    either which false e = e
    either AllocationMap true e = absurd (true≢false (sym (ap maps_alone (within_allocation n layout a k l e)) ∙ other))
    either FileMap true e = absurd (true≢false (sym (ap maps_alone (within_map n layout a f k l e)) ∙ other))

-- a label that names a page of the volume's own is none of the space tables' and of files
not_own : (l : Label) (id page : ℕ) → names l (record { id = id; page = page }) ≡ true → (id < 3) ⊎ (id ≡ 4) → (l.id ≡ 3) ⊎ (16 ≤ l.id) → ⊥
not_own l id page named own high =
    let same : l.id ≡ id = names_id l (record { id = id; page = page }) named in
    ⊎_elim (λ (low : id < 3). ⊎_elim (λ (q : l.id ≡ 3). omega (arith, same, low, q)) (λ (q : 16 ≤ l.id). omega (arith, same, low, q)) high)
    (λ (four : id ≡ 4). ⊎_elim (λ (q : l.id ≡ 3). omega (arith, same, four, q)) (λ (q : 16 ≤ l.id). omega (arith, same, four, q)) high) own

-- The pages that are to go, of files or of the space tables, and the sectors that have them.
module _ (layout : Layout) (is : IsLayout layout) (runs : List Run) (shapes : Shapes) (x : List Sector) (booked : IsBooked layout runs shapes x)
    (gone : ℕ → ℕ → Bool) (reserved : AreOfFiles gone) (sectors : List ℕ)
    (only : (j k : ℕ) → slice_get sectors j ≡ Some k → (id : ℕ) × (page : ℕ) × (gone id page ≡ true) × (booked.named id page k ≡ true))
    (all : (id page k : ℕ) → gone id page ≡ true → booked.named id page k ≡ true → (j : ℕ) × (slice_get sectors j ≡ Some k)) where
  long_labels : length (labels_of x) ≡ length x
  long_labels = length-map x (λ s. s.0)

  -- the label of one of the sectors goes
  pub gone_label : (j k : ℕ) → slice_get sectors j ≡ Some k → (l : Label) × HasLabel (labels_of x) k l × (gone l.id l.page ≡ true)
  gone_label j k at =
      let o = only j k at in
      let t = booked.triples.only o.0 o.1 k o.3 in
      (t.label, t.there, (λ i. gone (t.same_id i) (t.same_page i)) ∙ o.2)

  gone_in : (j k : ℕ) (l : Label) → slice_get sectors j ≡ Some k → slice_get (labels_of x) k ≡ Some l → gone l.id l.page ≡ true
  gone_in j k l at here =
      let g = gone_label j k at in
      let same : g.0 ≡ l = same_Some g.0 l (sym g.1.here ∙ here) in
      ap (λ (m : Label). gone m.id m.page) (sym same) ∙ g.2

  -- a label of root or maps names a page of the volume's own
  low_label : (k : ℕ) (l : Label) → slice_get (labels_of x) k ≡ Some l → k < first_data (length x) → (l.id ≡ 3) ⊎ (16 ≤ l.id) → ⊥
  unfolding first_data
  low_label k l here low high = elim (cases_lt k 1) [
    | inl root ↦
        let zero_is : k ≡ 0 = omega (arith, root) in
        let r = label_in (slice_get (labels_of x) 0) (λ l. IsTrue (names l (record { id = 4; page = 0 }))) booked.root_label in
        let same : r.0 ≡ l = same_Some r.0 l (sym r.1 ∙ ap (slice_get (labels_of x)) (sym zero_is) ∙ here) in
        not_own l 4 0 (ap (λ (m : Label). names m (record { id = 4; page = 0 })) (sym same) ∙ r.2) (inr refl) high
    | inr some ↦ elim (cases_lt k (1 + vam (length x))) [
      | inl inside ↦
          let n = long_labels in
          let below : k - 1 < vam (length (labels_of x)) = subst (λ (n : ℕ). k - 1 < vam n) (sym n) (omega (arith, some, inside)) in
          let r = label_in (slice_get (labels_of x) (1 + (k - 1))) (λ l. IsTrue (names l (record { id = 1; page = k - 1 }))) (booked.map_labels.allocation (k - 1) below) in
          let place : 1 + (k - 1) ≡ k = omega (arith, some) in
          let same : r.0 ≡ l = same_Some r.0 l (sym r.1 ∙ ap (slice_get (labels_of x)) place ∙ here) in
          not_own l 1 (k - 1) (ap (λ (m : Label). names m (record { id = 1; page = k - 1 })) (sym same) ∙ r.2) (inl (omega arith)) high
      | inr past ↦
          let n = long_labels in
          let p : ℕ = k - (1 + vam (length x)) in
          let below : p < vfm (length (labels_of x)) = subst (λ (n : ℕ). p < vfm n) (sym n) (omega (arith, past, low)) in
          let r = label_in (slice_get (labels_of x) (1 + vam (length (labels_of x)) + p)) (λ l. IsTrue (names l (record { id = 2; page = p }))) (booked.map_labels.file_map p below) in
          let place : 1 + vam (length (labels_of x)) + p ≡ k = ap (λ (n : ℕ). 1 + vam n + p) n ∙ (let z : 1 + vam (length x) + p ≡ k = omega (arith, past) in z) in
          let same : r.0 ≡ l = same_Some r.0 l (sym r.1 ∙ ap (slice_get (labels_of x)) place ∙ here) in
          not_own l 2 p (ap (λ (m : Label). names m (record { id = 2; page = p })) (sym same) ∙ r.2) (inl (omega arith)) high
    ]
  ]

  -- and that of any other sector stays
  pub kept_label : (k : ℕ) (l : Label) → slice_get (labels_of x) k ≡ Some l → IsNone sectors k → gone l.id l.page ≡ false
  kept_label k l here none = either (gone l.id l.page) refl
    where
      either : (b : Bool) → gone l.id l.page ≡ b → gone l.id l.page ≡ false
      either false e = e
      either true e = elim (cases_lt k (first_data (length x))) [
        | inl low ↦ absurd (low_label k l here low (reserved l.id l.page e))
        | inr above ↦
            let taken : is_free l ≡ false = ⊎_elim (λ (q : l.id ≡ 3). ne_eqb l.id 0 (omega (arith, q))) (λ (q : 16 ≤ l.id). ne_eqb l.id 0 (omega (arith, q))) (reserved l.id l.page e) in
            let there : HasLabel (labels_of x) k l = record { is_data = subst (λ (n : ℕ). first_data n ≤ k) (sym long_labels) above; here = here } in
            let j = all l.id l.page k e (booked.triples.all l.id l.page k (record { label = l; there = there; taken = taken; same_id = refl; same_page = refl })) in
            absurd (none j.0 j.1)
      ]

  -- The sectors were freed, and then the file map changed.
  module _ (n o : List Sector) (frees : FreesSectors layout sectors x n) (differs : Differs (in_map FileMap layout) n o) (later : Triples) (map_is_later : MapIs layout later o)
      (are : (id page sector : ℕ) → later id page sector ≡ (not (gone id page) && booked.named id page sector)) (in_form : AreSectors o) where
    long_now : length o ≡ length x
    long_now = same_length n o differs.labels ∙ frees.long

    size_now : length o ≡ layout.sectors
    size_now = long_now ∙ booked.long

    label_now : (k : ℕ) → slice_get (labels_of o) k ≡ slice_get (labels_of n) k
    label_now k = ap (λ (l : List Label). slice_get l k) differs.labels

    labels_now : labels_of o ≡ map (free_where gone) (labels_of x)
    labels_now = same_elements (labels_of o) (map (free_where gone) (labels_of x)) (λ k. each k (slice_get (labels_of x) k) refl ∙ sym (slice_get-map (free_where gone) (labels_of x) k))
      where
        each : (k : ℕ) (p : Option Label) → slice_get (labels_of x) k ≡ p → slice_get (labels_of o) k ≡ option_map (free_where gone) (slice_get (labels_of x) k)
        each k p e = elim (in_or_not sectors k) [
          | inl (j, at) ↦
              let g = gone_label j k at in
              let inside : k < length x = let within = slice_get_within (labels_of x) k g.0 g.1.here in let long = long_labels in omega (arith, within, long) in
              label_now k ∙ frees.freed j k at inside
              ∙ sym (ap (option_map (free_where gone)) g.1.here ∙ ap (λ (b : Bool). Some (if b then free_label else g.0)) g.2)
          | inr none ↦ label_now k ∙ frees.labels k none ∙ stays k p e none
        ]
          where
            stays : (k : ℕ) (p : Option Label) → slice_get (labels_of x) k ≡ p → IsNone sectors k → slice_get (labels_of x) k ≡ option_map (free_where gone) (slice_get (labels_of x) k)
            stays k None e none = e ∙ sym (ap (option_map (free_where gone)) e)
            stays k (Some l) e none = e ∙ sym (ap (option_map (free_where gone)) e ∙ ap (λ (b : Bool). Some (if b then free_label else l)) (kept_label k l e none))

    -- a sector of which the page stays is none of those that were freed
    apart : (k : ℕ) (l : Label) → slice_get (labels_of x) k ≡ Some l → gone l.id l.page ≡ false → IsNone sectors k
    apart k l here stays j at = true≢false (sym (gone_in j k l at here) ∙ stays)

    vams : layout.vam ≡ vam (length x)
    vams = vam_is layout is runs shapes x booked

    vfms : layout.vfm ≡ vfm (length x)
    vfms = vfm_is layout is runs shapes x booked

    pages_now : (k : ℕ) (s : Sector) → slice_get x k ≡ Some s → gone s.0.id s.0.page ≡ false → maps_alone (kind_of (length x) k s.0) ≡ false → slice_get o k ≡ Some s
    pages_now k s here stays other =
        differs.pages k s (frees.pages k s here (apart k s.0 (label_here x k s here) stays) (no_map AllocationMap (length x) layout vams vfms k s.0 other))
        (no_map FileMap (length x) layout vams vfms k s.0 other)

    -- the allocation map shows what it showed when the sectors were given back
    shows_bits : (b : List ℕ) → Shows AllocationMap n layout b → Shows AllocationMap o layout b
    shows_bits b shows = shows_still AllocationMap layout n o b (λ k s below here. (s, differs.pages (1 + k) s here (beside_map FileMap layout (1 + k) s.0 (inl (omega (arith, below)))), refl)) shows

    marks_then : (after : Marks) × BitsAre layout after n × ClearsBits sectors (marks_shown layout is runs shapes x booked) after
    marks_then = frees.bits (marks_shown layout is runs shapes x booked) (bits_shown layout is runs shapes x booked)

    mark_now : (k : ℕ) → k < 4096 * layout.vam → is_marked o k ≡ marks_then.0 k
    mark_now k below = sym (shown_laws.bits layout o marks_then.1.bytes k (shows_bits marks_then.1.bytes marks_then.1.shows) below) ∙ sym (marks_then.1.are k)

    mark_stays : (k : ℕ) → k < 4096 * layout.vam → IsNone sectors k → is_marked o k ≡ is_marked x k
    mark_stays k below none = mark_now k below ∙ marks_then.2.others k none ∙ mark_is layout is runs shapes x booked k below

    bits_now : (k : ℕ) (l : Label) → HasLabel (labels_of x) k l → is_marked o k ≡ (not (gone l.id l.page) && is_marked x k)
    bits_now k l has =
        let within = slice_get_within (labels_of x) k l has.here in
        let below : k < 4096 * layout.vam = in_bits layout is runs shapes x booked k (let long = long_labels in let size = booked.long in omega (arith, within, long, size)) in
        elim (in_or_not sectors k) [
          | inl (j, at) ↦ mark_now k below ∙ marks_then.2.cleared j k at ∙ sym (ap (λ (b : Bool). not b && is_marked x k) (gone_in j k l at has.here))
          | inr none ↦ mark_stays k below none ∙ sym (ap (λ (b : Bool). not b && is_marked x k) (kept_label k l has.here none))
        ]

    -- the sectors are data sectors
    beside_none : (k : ℕ) → IsBesideData (length x) k → IsNone sectors k
    beside_none k beside j at =
        let g = gone_label j k at in
        let within = slice_get_within (labels_of x) k g.0 g.1.here in
        let long = long_labels in
        let above : first_data (length x) ≤ k = subst (λ (n : ℕ). first_data n ≤ k) long g.1.is_data in
        ⊎_elim (λ (low : k < first_data (length x)). omega (arith, low, above)) (λ past. let end = past.0 in omega (arith, end, within, long)) beside

    beside_bits : (k : ℕ) → IsBesideData (length x) k → k < 4096 * layout.vam
    beside_bits k beside = ⊎_elim
        (λ (low : k < first_data (length x)). subst (λ (v : ℕ). k < 4096 * v) (sym vams) (low_has_bit (length x) k (let size = booked.long in let some = is.0.0 in omega (arith, size, some)) low))
        (λ past. subst (λ (v : ℕ). k < 4096 * v) (sym vams) past.1) beside

    triples_now : (named : Triples) → MapNames x named → MapNames o (λ i p s. not (gone i p) && named i p s)
    triples_now named names =
        let few : length x < 2 ^ 32 = let size = booked.long in let most = is.0.1 in omega (arith, size, most) in
        let now : MapNames o later = (shown_laws.names layout o map_is_later.bytes later is size_now in_form map_is_later.shows).0 map_is_later.names in
        renamed o later (λ i p s. not (gone i p) && named i p s) (λ i p s. ap (λ (b : Bool). not (gone i p) && b) (named_once x booked.named named few booked.map names i p s) ∙ sym (are i p s)) now

    -- the pages are gone
    pub pages_are_gone : Frees gone x o
    pages_are_gone = record {
      labels = labels_now;
      pages = pages_now;
      sectors = in_form;
      bits = bits_now;
      others = λ k beside. mark_stays k (beside_bits k beside) (beside_none k beside);
      triples = triples_now;
    }

    -- a page that stays stands where it stood
    pub triple_stays : (id page sector : ℕ) → gone id page ≡ false → IsTriple (labels_of x) id page sector → IsTriple (labels_of o) id page sector
    triple_stays id page sector stays t =
        let kept : gone t.label.id t.label.page ≡ false = (λ i. gone (t.same_id i) (t.same_page i)) ∙ stays in
        let none = apart sector t.label t.there.here kept in
        record {
          label = t.label;
          there = record {
            is_data = subst (λ (n : ℕ). first_data n ≤ sector) (long_labels ∙ sym (length-map o (λ s. s.0) ∙ long_now)) t.there.is_data;
            here = label_now sector ∙ frees.labels sector none ∙ t.there.here;
          };
          taken = t.taken;
          same_id = t.same_id;
          same_page = t.same_page;
        }

    -- runs of the file map as it is now are true
    pub runs_are_true : (kept : List Run) → AreOf later kept → AreTrue (labels_of o) kept
    runs_are_true kept of k r at page has =
        let parts = and_parts (not (gone r.id page)) (booked.named r.id page (sector_at r page)) (sym (are r.id page (sector_at r page)) ∙ of k r at page has) in
        triple_stays r.id page (sector_at r page) (flip (gone r.id page) parts.0) (booked.triples.only r.id page (sector_at r page) parts.1)
      where
        flip : (b : Bool) → not b ≡ true → b ≡ false
        flip false e = refl
        flip true e = absurd (true≢false (sym e))
