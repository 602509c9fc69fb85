-- A file is cut down: pages are freed, and the file map has them no more.
use Rattle.std.proofs.Common.{◌≡◌, ◌≢◌, ℕ, zero, suc, ◌+◌, ◌-◌, ◌<◌, ◌≤◌, inl, inr, Bool, true, false, not, ◌&&◌, ◌||◌, List, [], ◌∷◌, length, filter, Some, refl, sym, ◌∙◌, ap, subst, arith}
use Rattle.std.specs.Prelude.{slice_get, ◌==◌, nat_le, nat_lt}
use Rattle.std.proofs.lemmas.Bool.{and_parts, eqb-true, eqb-false, eq-eqb, ne_eqb, leb-true, true≢false, cases_eq}
use Rattle.std.proofs.lemmas.Bool.Decides.{nat_tests}
use Rattle.std.proofs.lemmas.List.{length-map}
use Rattle.std.proofs.lemmas.Option.{same_Some}
use Rattle.labelled_disk.specs.declared.disk.DiskWrite.{DiskWrite}
use Rattle.labelled_disk.specs.declared.label.Label.{Label}
use Rattle.labelled_disk.specs.declared.layout.Layout.{Layout}
use Rattle.labelled_disk.specs.Label.{leader_page, is_file, is_file_id, names}
use Rattle.labelled_disk.specs.Layout.{first_data}
use Rattle.labelled_disk.specs.Runs.{freeing, IsAt}
use Rattle.labelled_disk.specs.FilesOn.{is_page}
use Rattle.labelled_disk.specs.Sectors.{Sector, AreSectors}
use Rattle.labelled_disk.specs.State.{DiskState}
use Rattle.frame_pool.specs.Frames.{Slots}
use Rattle.file_map.specs.declared.run.Run.{Run}
use Rattle.file_map.specs.FileMap.{Triples, without_from}
use Rattle.file_map.specs.Laws.{AreOnce}
use Rattle.flat_machine.specs.declared.space.Space.{Space}
use Rattle.swapper_kernel.specs.declared.manager.Manager.TheVariants.{FileMap}
use Rattle.swapper_kernel.specs.Homes.{IsLayout}
use Rattle.swapper_kernel.specs.Stands.{Stands, labels_of}
use Rattle.swapper_kernel.specs.DiffersLaws.{sector_of_label}
use Rattle.swapper_kernel.specs.Goes.{Makes}
use Rattle.swapper_kernel.specs.GoesLaws.{makes_then}
use Rattle.swapper_kernel.specs.HaltLaws.{brings_then}
use Rattle.swapper_kernel.specs.Window.{Beside}
use Rattle.filer_kernel.specs.declared.cached.CachedRuns.{CachedRuns}
use Rattle.filer_kernel.specs.Becomes.{Becomes}
use Rattle.filer_kernel.specs.Cached.{runs_of}
use Rattle.filer_kernel.specs.Triples.{MapIs, AreOf}
use Rattle.filer_kernel.proofs.LawLemmas.{are_of_more, are_of_fewer}
use Rattle.session_words.specs.Parts.{Shape, Shapes, IsTriple, HasTriples, is_owned}
use Rattle.session_words.specs.FreeLaws.{Frees, AreOfFiles, cut_pages}
use Rattle.session_words.specs.Volume.{volume_page}
use Rattle.session_words.proofs.FreeLemmas.{triples_freed}
use Rattle.file_manager.specs.Book.{IsBooked, AreTrue}
use Rattle.file_manager.specs.Freeing.{FreesSectors, MayFree, MakesFree}
use Rattle.file_manager.specs.Shrinking.{AreNamedDown, FreedDown, StoppedDown, MayShrink, AreLast, ShrunkBy, ShrunkSome, IsLeaderAlone, cut_triples, leader_run}
use Rattle.file_manager.proofs.BookLemmas.{true_by_map}
use Rattle.file_manager.proofs.RunStages.{named_once}
use Rattle.file_manager.proofs.FreedRun.{one_memory, map_makes, map_brings, append_none}
use Rattle.file_manager.proofs.FreesLemmas.{pages_are_gone}
use Rattle.file_manager.proofs.MayBeFreed.{may_be_freed}
use Rattle.file_manager.proofs.FindingLemmas.{page_below, below_owned}
use Rattle.file_manager.proofs.DownLemmas.{down_at, down_turn}

-- a label that names a page of a file is that of a sector of it
page_passes : (l : Label) (id n : ℕ) → is_file_id id ≡ true → names l (record { id = id; page = n }) ≡ true → (is_file l && l.id == id && l.page == n) ≡ true
page_passes l id n of_file named =
    let a = and_parts (l.id == id && l.page == n && nat_lt l.flags 4) (l.last == 0) named in
    let b = and_parts (l.id == id && l.page == n) (nat_lt l.flags 4) a.0 in
    let c = and_parts (l.id == id) (l.page == n) b.0 in
    let file : is_file_id l.id ≡ true = ap is_file_id (eqb-true l.id id c.0) ∙ of_file in
    λ j. (file j && b.1 j && a.1 j) && c.0 j && c.1 j

alike_triples : (a b : Triples) (labels : List Label) → HasTriples a labels → ((i p s : ℕ) → b i p s ≡ a i p s) → HasTriples b labels
alike_triples a b labels h same = record {
  only = λ i p s is. h.only i p s (sym (same i p s) ∙ is);
  all = λ i p s t. same i p s ∙ h.all i p s t;
}

module _ (layout : Layout) (is : IsLayout layout) (kept : CachedRuns) (shapes : Shapes) (spaces : List Space) (x : List Sector) (d0 : DiskState) (s0 : Slots) (id : ℕ) (f : Shape) (pages : ℕ) (high : 16 ≤ id)
    (may : MayShrink d0 s0 layout kept shapes spaces id f pages x) where
  abbrev booked : IsBooked layout (runs_of layout.sectors kept) shapes x
  booked = may.books.booked

  short : f.size < leader_page
  short = booked.files.short id f may.found

  pub may_free : MayFree d0 s0 layout kept booked.named spaces id pages f.size x
  may_free = may_be_freed d0 s0 layout kept shapes spaces x is may.books id (inl (high, may.hidden)) pages f.size (λ page above below. below_owned 96 shapes id page f may.found below)

  -- a page stands in one sector
  one_place : (page a b : ℕ) → booked.named id page a ≡ true → booked.named id page b ≡ true → a ≡ b
  one_place page a b first second =
      let t = booked.triples.only id page a first in
      let u = booked.triples.only id page b second in
      booked.labels.pages.once a b t.label u.label t.there u.there t.taken (t.same_id ∙ sym u.same_id) (t.same_page ∙ sym u.same_page)

  -- the sectors of the last pages
  pub are_last : (n : ℕ) (sectors : List ℕ) → AreNamedDown booked.named id n sectors → AreLast x id n sectors
  are_last n [] down d labels = tt
  are_last zero (i ∷ sectors) down d labels = absurd down
  are_last (suc n) (i ∷ sectors) down d labels = (at_page, are_last n sectors down.1 d labels)
    where
      at_page : IsAt (is_page id n) d i
      at_page =
          let t = booked.triples.only id n i down.0 in
          let owned = booked.labels.pages.only i t.label t.there t.taken in
          let named : names t.label (record { id = id; page = n }) ≡ true = (λ j. names t.label (record { id = sym t.same_id j; page = sym t.same_page j })) ∙ owned.named in
          let s = sector_of_label d i t.label (ap (λ (l : List Label). slice_get l i) labels ∙ t.there.here) in
          let long : length (labels_of x) ≡ length d = ap (λ (l : List Label). length l) (sym labels) ∙ length-map d (λ s. s.0) in
          record {
            s = s.0;
            there = record { is_data = subst (λ (m : ℕ). first_data m ≤ i) long t.there.is_data; here = s.1 };
            passes = page_passes s.0.0 id n (booked.files.given id f may.found) (ap (λ (l : Label). names l (record { id = id; page = n })) s.2 ∙ named);
          }

  reserved : AreOfFiles (cut_pages id pages)
  reserved i p e = let own = eqb-true i id (and_parts (i == id) (nat_le pages p && not (p == leader_page)) e).0 in inr (omega (arith, own, high))

  module _ (leader : ℕ) (t : IsTriple (labels_of x) id leader_page leader) where
    -- the leader's sector is named for it alone
    pub leader_is_alone : IsLeaderAlone booked.named id leader
    leader_is_alone i p is_named =
        let u = booked.triples.only i p leader is_named in
        let same : t.label ≡ u.label = same_Some t.label u.label (sym t.there.here ∙ u.there.here) in
        (sym u.same_id ∙ ap (λ (l : Label). l.id) (sym same) ∙ t.same_id, sym u.same_page ∙ ap (λ (l : Label). l.page) (sym same) ∙ t.same_page)

    pub named_apart : AreOnce booked.named
    named_apart = named_once layout is (runs_of layout.sectors kept) shapes x booked

    -- what the cut makes of the triples
    cut_is : (i p s : ℕ) → cut_triples booked.named id pages leader i p s ≡ (not (cut_pages id pages i p) && booked.named i p s)
    cut_is i p s = elim (cases_eq i id) [
      | inr other ↦
          let a : (i == id) ≡ false = ne_eqb i id other in
          let b : (id == i) ≡ false = ne_eqb id i (λ q. other (sym q)) in
          (λ j. (booked.named i p s && not (a j && nat_le pages p)) || (b j && (nat_le leader_page p && nat_lt p (leader_page + 1))) && (s == leader + (p - leader_page))) ∙ stays (booked.named i p s)
          ∙ sym (λ j. not (a j && (nat_le pages p && not (p == leader_page))) && booked.named i p s)
      | inl own ↦ elim (cases_eq p leader_page) [
        | inl last ↦ at_leader own last
        | inr other ↦ beside_leader own other
      ]
    ]
      where
        stays : (c : Bool) → ((c && true) || false) ≡ c
        stays true = refl
        stays false = refl

        leads : (b c : Bool) → ((b && false) || c) ≡ c
        leads true c = refl
        leads false c = refl

        turned : (b c : Bool) → ((b && not c) || false) ≡ (not c && b)
        turned true true = refl
        turned true false = refl
        turned false true = refl
        turned false false = refl

        flat : (c : Bool) → (not (c && true)) ≡ not c
        flat true = refl
        flat false = refl

        same_flag : (b c : Bool) → (b ≡ true → c ≡ true) → (c ≡ true → b ≡ true) → b ≡ c
        same_flag true c to back = sym (to refl)
        same_flag false true to back = back refl
        same_flag false false to back = refl

        at_leader : i ≡ id → p ≡ leader_page → cut_triples booked.named id pages leader i p s ≡ (not (cut_pages id pages i p) && booked.named i p s)
        at_leader own last =
            let few = may.fewer in
            let low = short in
            let a : (i == id) ≡ true = eq-eqb i id own in
            let b : (id == i) ≡ true = eq-eqb id i (sym own) in
            let c : nat_le pages p ≡ true = grind (arith, nat_tests) in
            let d : (p == leader_page) ≡ true = eq-eqb p leader_page last in
            let e : nat_le leader_page p ≡ true = grind (arith, nat_tests) in
            let g : nat_lt p (leader_page + 1) ≡ true = grind (arith, nat_tests) in
            let place : leader + (p - leader_page) ≡ leader = omega (arith, last) in
            let says : (s == leader) ≡ booked.named i p s = same_flag (s == leader) (booked.named i p s)
            (λ q. (λ j. booked.named (own j) (last j) (eqb-true s leader q j)) ∙ booked.triples.all id leader_page leader t)
            (λ q. eq-eqb s leader (one_place leader_page s leader ((λ j. booked.named (sym own j) (sym last j) s) ∙ q) (booked.triples.all id leader_page leader t))) in
            (λ j. (booked.named i p s && not (a j && c j)) || (b j && (e j && g j)) && (s == place j)) ∙ leads (booked.named i p s) (s == leader) ∙ says
            ∙ sym (λ j. not (a j && (c j && not (d j))) && booked.named i p s)

        beside_leader : i ≡ id → p ≢ leader_page → cut_triples booked.named id pages leader i p s ≡ (not (cut_pages id pages i p) && booked.named i p s)
        beside_leader own other =
            let a : (i == id) ≡ true = eq-eqb i id own in
            let b : (id == i) ≡ true = eq-eqb id i (sym own) in
            let d : (p == leader_page) ≡ false = ne_eqb p leader_page other in
            let none : (nat_le leader_page p && nat_lt p (leader_page + 1)) ≡ false = outside p other in
            (λ j. (booked.named i p s && not (a j && nat_le pages p)) || (b j && none j) && (s == leader + (p - leader_page))) ∙ turned (booked.named i p s) (nat_le pages p)
            ∙ sym ((λ j. not (a j && (nat_le pages p && not (d j))) && booked.named i p s) ∙ ap (λ (b : Bool). b && booked.named i p s) (flat (nat_le pages p)))
          where
            outside : (p : ℕ) → p ≢ leader_page → (nat_le leader_page p && nat_lt p (leader_page + 1)) ≡ false
            outside p other = grind (arith, nat_tests)

    module _ (d1 : DiskState) (s1 : Slots) (r1 : CachedRuns) (h : FreedDown layout booked.named spaces id pages (f.size - pages) f.size d0 s0 d1 s1 r1) where
      frees : FreesSectors layout h.sectors x h.memory
      frees = let now = h.goes.memory x may.books.stands in subst (FreesSectors layout h.sectors x) (one_memory d1 s1 now.0 h.memory now.1 h.rest.stands) now.2

      -- the sectors are those of the pages that go
      only : (j k : ℕ) → slice_get h.sectors j ≡ Some k → (i : ℕ) × (p : ℕ) × (cut_pages id pages i p ≡ true) × (booked.named i p k ≡ true)
      only j k at =
          let u = down_at booked.named id f.size h.sectors h.down j k at in
          let inside = u.0 in
          let under = u.1 in
          let long = h.long in
          let low = short in
          let p : ℕ = f.size - (j + 1) in
          let a : (id == id) ≡ true = eq-eqb id id refl in
          let b : nat_le pages p ≡ true = above pages p (omega (arith, inside, under, long)) in
          let c : (p == leader_page) ≡ false = ne_eqb p leader_page (λ q. omega (arith, q, low)) in
          (id, p, (λ i. a i && (b i && not (c i))), u.2)
        where
          above : (m n : ℕ) → m ≤ n → nat_le m n ≡ true
          above m n less = grind (arith, nat_tests)

      all : (i p k : ℕ) → cut_pages id pages i p ≡ true → booked.named i p k ≡ true → (j : ℕ) × (slice_get h.sectors j ≡ Some k)
      all i p k gone is_named =
          let both = and_parts (i == id) (nat_le pages p && not (p == leader_page)) gone in
          let more = and_parts (nat_le pages p) (not (p == leader_page)) both.1 in
          let own : i ≡ id = eqb-true i id both.0 in
          let above = leb-true pages p more.0 in
          let other : p ≢ leader_page = eqb-false p leader_page (flip (p == leader_page) more.1) in
          let there : booked.named id p k ≡ true = ap (λ (n : ℕ). booked.named n p k) (sym own) ∙ is_named in
          let u = booked.triples.only id p k there in
          let o = booked.labels.pages.only k u.label u.there u.taken in
          let below = page_below 96 shapes id p f high may.found other ((λ j. is_owned shapes (sym u.same_id j) (sym u.same_page j)) ∙ o.is) in
          let long = h.long in
          let s = down_turn booked.named id f.size h.sectors h.down (f.size - (p + 1)) (omega (arith, above, below, long)) in
          let turn : f.size - (f.size - (p + 1) + 1) ≡ p = omega (arith, below) in
          let same : s.0 ≡ k = one_place p s.0 k (subst (λ (q : ℕ). booked.named id q s.0 ≡ true) turn s.2) there in
          (f.size - (p + 1), s.1 ∙ ap (λ (n : ℕ). Some n) same)
        where
          flip : (b : Bool) → not b ≡ true → b ≡ false
          flip false e = refl
          flip true e = absurd (true≢false (sym e))

      module _ (d2 : DiskState) (s2 : Slots) (l2 : Layout) (r2 : CachedRuns) (beside : Beside FileMap d1 s1 layout d2 s2 l2) (cut : Becomes FileMap layout h.memory (MapIs layout (cut_triples booked.named id pages leader)) d2 s2)
          (in_form : (y : List Sector) → Stands d2 s2 y → AreSectors y) (fewer : runs_of layout.sectors r2 ≡ filter (λ (r : Run). not (r.id == id)) (runs_of layout.sectors r1)) where
        pub pages_gone : Frees (cut_pages id pages) x cut.memory
        pages_gone = pages_are_gone layout is (runs_of layout.sectors kept) shapes x booked (cut_pages id pages) reserved h.sectors only all h.memory cut.memory frees cut.differs
            (cut_triples booked.named id pages leader) cut.is cut_is (in_form cut.memory cut.stands)

        triples_left : HasTriples (cut_triples booked.named id pages leader) (labels_of cut.memory)
        triples_left = alike_triples (λ i p s. not (cut_pages id pages i p) && booked.named i p s) (cut_triples booked.named id pages leader) (labels_of cut.memory)
            (triples_freed (cut_pages id pages) reserved x cut.memory pages_gone booked.named booked.triples) cut_is

        runs_left : AreTrue (labels_of cut.memory) (runs_of layout.sectors r2)
        runs_left =
            let of : AreOf (cut_triples booked.named id pages leader) (filter (λ (r : Run). not (r.id == id)) (runs_of layout.sectors r1)) =
            are_of_more (without_from booked.named id pages) (filter (λ (r : Run). not (r.id == id)) (runs_of layout.sectors r1)) (leader_run id leader) (are_of_fewer booked.named (runs_of layout.sectors r1) id pages h.rest.kept) in
            subst (AreTrue (labels_of cut.memory)) (sym fewer) (true_by_map (labels_of cut.memory) (cut_triples booked.named id pages leader) (filter (λ (r : Run). not (r.id == id)) (runs_of layout.sectors r1)) triples_left of)

        pub shrunk_by : ShrunkBy id pages f.size x d0 s0 layout d2 s2 r2
        shrunk_by = record {
          sectors = h.sectors;
          long = h.long;
          last = are_last f.size h.sectors h.down;
          leads = record {
            goes = record {
              makes = subst (λ (ws : List DiskWrite). Makes volume_page ws d0 s0 d2 s2) (append_none (freeing h.sectors)) (makes_then h.goes.makes (map_makes beside));
              memory = λ m stands. (cut.memory, cut.stands, subst (λ (z : List Sector). Frees (cut_pages id pages) z cut.memory) (one_memory d0 s0 x m may.books.stands stands) pages_gone);
            };
            brings = brings_then h.brings (map_brings beside);
            true_runs = λ m stands. subst (λ (z : List Sector). AreTrue (labels_of z) (runs_of layout.sectors r2)) (one_memory d2 s2 cut.memory m cut.stands stands) runs_left;
          };
        }

  -- stops
  pub stopped_in : {d1 : DiskState} {s1 : Slots} → StoppedDown booked.named id (f.size - pages) f.size d0 s0 d1 s1 → ShrunkSome id pages f.size x d0 s0 d1 s1
  stopped_in h = record { sectors = h.sectors; few = h.few; last = are_last f.size h.sectors h.down; makes = h.makes }

  pub stopped_cut : {d1 d2 : DiskState} {s1 s2 : Slots} {r1 : CachedRuns} {l1 l2 : Layout} → FreedDown layout booked.named spaces id pages (f.size - pages) f.size d0 s0 d1 s1 r1 → Beside FileMap d1 s1 l1 d2 s2 l2 → ShrunkSome id pages f.size x d0 s0 d2 s2
  stopped_cut {d2 = d2} {s2 = s2} h beside = record {
    sectors = h.sectors;
    few = let long = h.long in omega (arith, long);
    last = are_last f.size h.sectors h.down;
    makes = subst (λ (ws : List DiskWrite). Makes volume_page ws d0 s0 d2 s2) (append_none (freeing h.sectors)) (makes_then h.goes.makes (map_makes beside));
  }

-- over any contents
pub makes_cut : {n : ℕ} {a b c : DiskState} {s t u : Slots} {l1 l2 : Layout} → MakesFree n a s b t → Beside FileMap b t l1 c u l2 → MakesFree n a s c u
makes_cut {a = a} {c = c} {s = s} {u = u} h beside = record {
  sectors = h.sectors;
  long = h.long;
  makes = subst (λ (ws : List DiskWrite). Makes volume_page ws a s c u) (append_none (freeing h.sectors)) (makes_then h.makes (map_makes beside));
}
