-- A run is made in a memory whose maps are right: it is taken, labelled, and added.
use Rattle.std.proofs.Common.{◌≡◌, ◌⊎◌, inl, inr, ℕ, zero, suc, ◌+◌, ◌-◌, ◌*◌, ◌<◌, ◌≤◌, Bool, true, false, not, cond, ◌&&◌, List, [], ◌∷◌, length, Option, Some, None, refl, sym, ◌∙◌, ap, subst, arith}
use Rattle.std.specs.Prelude.{slice_get, ◌==◌, nat_le, nat_lt, count_by, IsTrue, IsSomeAnd}
use Rattle.std.specs.List.{range_with_len}
use Rattle.std.proofs.lemmas.Option.{same_Some}
use Rattle.std.proofs.lemmas.Bool.{ne_eqb, eqb-true, true≢false, and_parts, leb-true, ltb-true}
use Rattle.std.proofs.lemmas.Bool.Decides.{nat_tests}
use Rattle.std.proofs.lemmas.List.{length-map}
use Rattle.std.proofs.lemmas.List.Sums.{sum_by-cons}
use Rattle.std.proofs.lemmas.List.FromFn.{length-range_with_len}
use Rattle.labelled_disk.specs.declared.label.Label.{Label}
use Rattle.labelled_disk.specs.declared.layout.Layout.{Layout}
use Rattle.labelled_disk.specs.Label.{is_free, names}
use Rattle.labelled_disk.specs.Layout.{first_data, vam, vfm, layout_of}
use Rattle.labelled_disk.specs.Sectors.{Sector}
use Rattle.labelled_disk.specs.State.{DiskState}
use Rattle.frame_pool.specs.Frames.{Slots}
use Rattle.alloc_map.specs.Bits.{is_used}
use Rattle.file_map.specs.declared.run.Run.{Run}
use Rattle.file_map.specs.Run.{holds}
use Rattle.file_map.specs.FileMap.{Triples, IsNew, most_records}
use Rattle.file_map.specs.InSectors.{MapNames}
use Rattle.file_map.specs.Laws.{AreOnce, AreAmong, data_count}
use Rattle.swapper_kernel.specs.declared.manager.Manager.{Manager}
use Rattle.swapper_kernel.specs.declared.manager.Manager.TheVariants.{AllocationMap, FileMap}
use Rattle.swapper_kernel.specs.Maps.{pages_of, start_of, IsMapHome}
use Rattle.swapper_kernel.specs.Homes.{IsLayout, AreNamed, IsNamed}
use Rattle.swapper_kernel.specs.Stands.{Stands, labels_of}
use Rattle.swapper_kernel.specs.ThereLaws.{shows_there}
use Rattle.swapper_kernel.specs.DiffersLaws.{sector_of_label, names_id}
use Rattle.swapper_kernel.specs.Window as window
use Rattle.swapper_kernel.specs.Window.{IsPage, Shows, in_map}
use Rattle.flat_machine.specs.declared.space.Space.{Space}
use Rattle.session_words.specs.FrameLaws.{HasFrames, is_shown}
use Rattle.session_words.proofs.FrameLemmas.{frame_laws}
use Rattle.label_calls.specs.Labels.{IsUncovered}
use Rattle.filer_kernel.specs.Marks.{Marks, BitsAre}
use Rattle.filer_kernel.specs.Triples.{MapIs}
use Rattle.session_words.specs.Parts.{Shapes, HasLabel, is_owned_upto, is_marked}
use Rattle.session_words.specs.GrowLaws.{IsFree}
use Rattle.session_words.proofs.ShownLemmas.{shown_laws}
use Rattle.file_manager.specs.Book.{IsBookedUpto}
use Rattle.file_manager.specs.Making.{AreUnownedUpto, ShowsNoFree, free_count}

-- a label that names a page of a file is not free
not_free : (l : Label) (id page : ℕ) → 0 < id → names l (record { id = id; page = page }) ≡ true → is_free l ≡ false
not_free l id page some named = let own = names_id l (record { id = id; page = page }) named in ne_eqb l.id 0 (omega (arith, own, some))

pub there_is : {X : Type 0} (xs : List X) (k : ℕ) → k < length xs → (x : X) × (slice_get xs k ≡ Some x)
there_is [] k below = absurd (omega (arith, below))
there_is (x ∷ xs) zero below = (x, refl)
there_is (x ∷ xs) (suc k) below = there_is xs k (omega (arith, below))

pub count_more : (p : ℕ → Bool) (y : ℕ) (ys : List ℕ) → count_by p (y ∷ ys) ≡ cond (p y) 1 0 + count_by p ys
count_more p y ys = sum_by-cons (λ x. cond (p x) 1 0) y ys

-- some one is counted
pub one_counted : (p : ℕ → Bool) (a n : ℕ) → 1 ≤ count_by p (range_with_len a n) → (k : ℕ) × (a ≤ k) × (k < a + n) × (p k ≡ true)
one_counted p a zero some = absurd (omega (arith, some))
one_counted p a (suc n) some = here (p a) refl (λ rest. one_counted p (a + 1) n rest)
  where
    here : (b : Bool) → p a ≡ b → (1 ≤ count_by p (range_with_len (a + 1) n) → (k : ℕ) × (a + 1 ≤ k) × (k < a + 1 + n) × (p k ≡ true)) → (k : ℕ) × (a ≤ k) × (k < a + suc n) × (p k ≡ true)
    here true is after = (a, omega arith, omega arith, is)
    here false is after =
        let all = count_more p a (range_with_len (a + 1) n) in
        let none : ◌≡◌ {A = ℕ} (cond (p a) 1 0) 0 = ap (λ (b : Bool). cond b 1 0) is in
        let rest = after (omega (arith, all, none, some)) in
        let above = rest.1 in let below = rest.2 in
        (rest.0, omega (arith, above), omega (arith, below), rest.3)

-- what passes and what doesn't are all
pub all_counted : (p : ℕ → Bool) (xs : List ℕ) → count_by p xs + count_by (λ k. not (p k)) xs ≡ length xs
all_counted p [] = refl
all_counted p (x ∷ xs) =
    let a = count_more p x xs in
    let b = count_more (λ k. not (p k)) x xs in
    let one = either (p x) in
    let rest = all_counted p xs in
    omega (arith, a, b, one, rest)
  where
    either : (b : Bool) → cond b 1 0 + cond (not b) 1 0 ≡ 1
    either true = refl
    either false = refl

-- where the pages of a map stay, it shows the same
pub shows_still : (which : Manager) (layout : Layout) (m n : List Sector) (b : List ℕ) → ((k : ℕ) (s : Sector) → k < pages_of which layout → slice_get m (start_of which layout + k) ≡ Some s → (t : Sector) × (slice_get n (start_of which layout + k) ≡ Some t) × (t.1 ≡ s.1))
    → Shows which m layout b → Shows which n layout b
shows_still which layout m n b stays shows = record {
  count = shows.count;
  page = λ k below.
      let was = shows.page k below in
      let now = stays k _ below was.keeps in
      record { label = now.0.0; keeps = now.1 ∙ ap (λ (p : List ℕ). Some (now.0.0, p)) now.2 };
}

-- a page of the one map is none of the other's, and of data
pub beside_map : (which : Manager) (layout : Layout) (k : ℕ) (l : Label) → (k < start_of which layout) ⊎ (start_of which layout + pages_of which layout ≤ k) → in_map which layout k l ≡ false
beside_map which layout k l (inl prefix) = grind (arith, nat_tests)
beside_map which layout k l (inr past) = grind (arith, nat_tests)

-- no frame is over a free sector
pub uncovered : (d : DiskState) (slots : Slots) (spaces : List Space) (m : List Sector) → Stands d slots m → HasFrames slots spaces → ShowsNoFree spaces → (k : ℕ) → IsFree (labels_of m) k → IsUncovered slots k
uncovered d slots spaces m stands frames hidden k free i f has at =
    let s = sector_of_label m k free.label free.there.here in
    let none : s.0.0.id ≡ 0 = ap (λ (l : Label). l.id) s.2 ∙ eqb-true free.label.id 0 free.free in
    let shown : is_shown spaces s.0.0.id s.0.0.page ≡ false = ap (λ (n : ℕ). is_shown spaces n s.0.0.page) none ∙ hidden s.0.0.page in
    frame_laws.none_over stands.sectors slots m spaces k s.0 stands.merged frames s.1 shown (inl none) i f has at

module _ {tables : ℕ} (layout : Layout) (is : IsLayout layout) (runs : List Run) (shapes : Shapes) (x : List Sector) (booked : IsBookedUpto tables layout runs shapes x) where
  n : ℕ
  n = length x

  long_labels : length (labels_of x) ≡ length x
  long_labels = length-map x (λ s. s.0)

  pub laid : layout ≡ layout_of (length x)
  laid = is.1 ∙ ap layout_of (sym booked.long)

  pub first_is : layout.first ≡ first_data (length x)
  unfolding first_data
  first_is = ap (λ (l : Layout). l.first) laid

  pub vam_is : layout.vam ≡ vam (length x)
  vam_is = ap (λ (l : Layout). l.vam) laid

  pub vfm_is : layout.vfm ≡ vfm (length x)
  vfm_is = ap (λ (l : Layout). l.vfm) laid

  -- the sectors of the maps have their labels
  pub maps_named : (which : Manager) → AreNamed x (IsMapHome which layout)
  maps_named AllocationMap home (page, below, at) = subst (IsNamed x) (sym at) (named_at (1 + page) 1 page (booked.map_labels.allocation page (subst (λ (v : ℕ). page < v) (vam_is ∙ ap vam (sym long_labels)) below)))
    where
      named_at : (k id p : ℕ) → IsSomeAnd (slice_get (labels_of x) k) (λ l. IsTrue (names l (record { id = id; page = p }))) → IsNamed x (record { sector = k; id = id; page = p })
      named_at k id p is = either (slice_get (labels_of x) k) refl is
        where
          either : (o : Option Label) → slice_get (labels_of x) k ≡ o → IsSomeAnd o (λ l. IsTrue (names l (record { id = id; page = p }))) → IsNamed x (record { sector = k; id = id; page = p })
          either None e a = absurd a
          either (Some l) e a = let s = sector_of_label x k l e in record { sector = s.0; here = s.1; named = ap (λ (m : Label). names m (record { id = id; page = p })) s.2 ∙ a }
  maps_named FileMap home (page, below, at) =
      subst (IsNamed x) (sym (at ∙ ap (λ (v : ℕ). record { sector = 1 + v + page; id = 2; page = page }) (vam_is ∙ ap vam (sym long_labels))))
      (named_at (1 + vam (length (labels_of x)) + page) 2 page (booked.map_labels.file_map page (subst (λ (v : ℕ). page < v) (vfm_is ∙ ap vfm (sym long_labels)) below)))
    where
      named_at : (k id p : ℕ) → IsSomeAnd (slice_get (labels_of x) k) (λ l. IsTrue (names l (record { id = id; page = p }))) → IsNamed x (record { sector = k; id = id; page = p })
      named_at k id p is = either (slice_get (labels_of x) k) refl is
        where
          either : (o : Option Label) → slice_get (labels_of x) k ≡ o → IsSomeAnd o (λ l. IsTrue (names l (record { id = id; page = p }))) → IsNamed x (record { sector = k; id = id; page = p })
          either None e a = absurd a
          either (Some l) e a = let s = sector_of_label x k l e in record { sector = s.0; here = s.1; named = ap (λ (m : Label). names m (record { id = id; page = p })) s.2 ∙ a }

  -- the bits that the allocation map shows
  abbrev pub shown_bits : List ℕ
  shown_bits = window.map_bytes AllocationMap layout x

  pub are_shown : Shows AllocationMap x layout shown_bits
  are_shown = shows_there AllocationMap layout x is booked.long booked.sectors

  abbrev pub marks_shown : Marks
  marks_shown = is_used shown_bits

  pub bits_shown : BitsAre layout marks_shown x
  bits_shown = record { bytes = shown_bits; shows = are_shown; are = λ k. refl }

  pub mark_is : (k : ℕ) → k < 4096 * layout.vam → marks_shown k ≡ is_marked x k
  mark_is k below = shown_laws.bits layout x shown_bits k are_shown below

  pub in_bits : (k : ℕ) → k < layout.sectors → k < 4096 * layout.vam
  in_bits k below = let v = vam_is in let l = booked.long in omega (arith, below, v, l)

  -- a data sector with its label
  pub data_label : (k : ℕ) → layout.first ≤ k → k < layout.sectors → (l : Label) × HasLabel (labels_of x) k l
  data_label k above below =
      let l = there_is (labels_of x) k (let a = long_labels in let b = booked.long in omega (arith, a, b, below)) in
      (l.0, record { is_data = subst (λ (m : ℕ). m ≤ k) (first_is ∙ ap first_data (sym long_labels)) above; here = l.1 })

  -- a data sector whose bit is free has a free label
  pub free_by_mark : (k : ℕ) → layout.first ≤ k → k < layout.sectors → marks_shown k ≡ false → IsFree (labels_of x) k
  free_by_mark k above below mark =
      let l = data_label k above below in
      record { label = l.0; there = l.1; free = flip (is_free l.0) (sym (booked.bits.bits k l.0 l.1) ∙ sym (mark_is k (in_bits k below)) ∙ mark) }
    where
      flip : (b : Bool) → not b ≡ false → b ≡ true
      flip true e = refl
      flip false e = absurd (true≢false e)

  -- some data sector is free
  pub one_free : 1 ≤ free_count layout x → (k : ℕ) × (layout.first ≤ k) × (k < layout.sectors) × (marks_shown k ≡ false)
  one_free some =
      let one = one_counted (λ k. not (is_marked x k)) layout.first (layout.sectors - layout.first) some in
      let above = one.1 in let below = one.2 in
      let inside : one.0 < layout.sectors = omega (arith, above, below) in
      (one.0, above, inside, mark_is one.0 (in_bits one.0 inside) ∙ flip (is_marked x one.0) one.3)
    where
      flip : (b : Bool) → not b ≡ true → b ≡ false
      flip false e = refl
      flip true e = absurd (true≢false (sym e))

  -- what is named, in the filer's words
  pub map_is : (named : Triples) → MapNames x named → MapIs layout named x
  map_is named names =
      let bytes = window.map_bytes FileMap layout x in
      let shows = shows_there FileMap layout x is booked.long booked.sectors in
      record { bytes = bytes; shows = shows; names = (shown_laws.names layout x bytes named is booked.long booked.sectors shows).1 names }

  -- no page that no shape has is named
  pub new_run : (id page pages sector : ℕ) → AreUnownedUpto tables shapes id page pages → IsNew booked.named (record { id = id; first = page; pages = pages; sector = sector })
  new_run id page pages sector unowned = λ p s held. either p s held (booked.named id p s) refl
    where
      either : (p s : ℕ) → holds (record { id = id; first = page; pages = pages; sector = sector }) id p ≡ true → (b : Bool) → booked.named id p s ≡ b → booked.named id p s ≡ false
      either p s held false e = e
      either p s held true e =
          let both = and_parts (id == id) (nat_le page p && nat_lt p (page + pages)) held in
          let within = both_parts p both.1 in
          let t = booked.triples.only id p s e in
          let owned = (booked.labels.pages.only s t.label t.there t.taken).is in
          let here : is_owned_upto tables shapes id p ≡ true = (λ i. is_owned_upto tables shapes (sym t.same_id i) (sym t.same_page i)) ∙ owned in
          absurd (true≢false (sym here ∙ unowned p within.0 within.1))
        where
          both_parts : (p : ℕ) → (nat_le page p && nat_lt p (page + pages)) ≡ true → (page ≤ p) × (p < page + pages)
          both_parts p held = let parts = and_parts (nat_le page p) (nat_lt p (page + pages)) held in (leb-true page p parts.0, ltb-true p (page + pages) parts.1)

  -- no sector is named twice, those that are named are marked, and they are fewer than the map may have
  pub named_once : AreOnce booked.named
  named_once id page other number sector one two =
      let a = booked.triples.only id page sector one in
      let b = booked.triples.only other number sector two in
      let same : a.label ≡ b.label = same_Some a.label b.label (sym a.there.here ∙ b.there.here) in
      (sym a.same_id ∙ ap (λ (l : Label). l.id) same ∙ b.same_id, sym a.same_page ∙ ap (λ (l : Label). l.page) same ∙ b.same_page)

  pub named_marked : AreAmong booked.named (is_marked x)
  named_marked id page sector named =
      let t = booked.triples.only id page sector named in
      booked.bits.bits sector t.label t.there ∙ ap not t.taken

  pub room_left : 1 ≤ free_count layout x → data_count layout.sectors (is_marked x) < most_records layout.sectors
  unfolding first_data
  room_left some =
      let all = all_counted (is_marked x) (range_with_len layout.first (layout.sectors - layout.first)) in
      let long = length-range_with_len layout.first (layout.sectors - layout.first) in
      let first : layout.first ≡ first_data layout.sectors = first_is ∙ ap first_data booked.long in
      let same : data_count layout.sectors (is_marked x) ≡ count_by (is_marked x) (range_with_len layout.first (layout.sectors - layout.first)) =
      ap (λ (f : ℕ). count_by (is_marked x) (range_with_len f (layout.sectors - f))) (sym first) in
      omega (arith, all, long, first, same, some)
