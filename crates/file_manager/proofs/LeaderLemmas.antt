-- A leader is made, and then the pages of its file.
use Rattle.std.proofs.Common.{◌≡◌, ℕ, zero, suc, ◌-◌, ◌*◌, ◌<◌, ◌≤◌, Bool, true, false, not, ◌||◌, ◌&&◌, List, [], ◌∷◌, length, take, Some, None, refl, sym, ◌∙◌, ap, subst, arith}
use Rattle.std.specs.Prelude.{slice_get, ◌==◌, if◌then◌else◌, IsSomeAnd, IsTrue}
use Rattle.std.specs.List.{range_with_len}
use Rattle.std.proofs.lemmas.Option.{same_Some, none-some}
use Rattle.std.proofs.lemmas.Bool.{eq-eqb, ne_eqb, eqb-true}
use Rattle.std.proofs.lemmas.List.{length-map}
use Rattle.labelled_disk.specs.declared.label.Label.{Label}
use Rattle.labelled_disk.specs.declared.layout.Layout.{Layout}
use Rattle.labelled_disk.specs.declared.evidence.Halt.{Halt}
use Rattle.labelled_disk.specs.declared.evidence.Halt.TheVariants as halt
use Rattle.labelled_disk.specs.Label.{is_free, is_file_id, names, leader_page, page_label}
use Rattle.labelled_disk.specs.Layout.{vam}
use Rattle.labelled_disk.specs.Runs.{growth}
use Rattle.labelled_disk.specs.Sectors.{Sector}
use Rattle.labelled_disk.specs.State.{DiskState}
use Rattle.frame_pool.specs.Frames.{Slots}
use Rattle.file_map.specs.declared.run.Run.{Run}
use Rattle.flat_machine.specs.declared.space.Space.{Space}
use Rattle.swapper_kernel.specs.Homes.{IsLayout}
use Rattle.swapper_kernel.specs.Stands.{Stands, labels_of}
use Rattle.swapper_kernel.specs.Goes.{Makes}
use Rattle.swapper_kernel.specs.GoesLaws.{goes_then, makes_then}
use Rattle.swapper_kernel.specs.HaltLaws.{brings_then}
use Rattle.filer_kernel.specs.declared.cached.CachedRuns.{CachedRuns}
use Rattle.session_words.specs.Parts.{Shape, Shapes, HasLabelsUpto, HasMapLabels, MarksFit, HasTriples, is_owned_upto, is_marked}
use Rattle.session_words.specs.Found.{AreShapes}
use Rattle.session_words.specs.PlaceLaws.{IsMade, with_shape, shape_by}
use Rattle.session_words.specs.GrowLaws.{Grows, grown_labels, grown_marks, grown_names}
use Rattle.session_words.specs.Volume.{volume_page}
use Rattle.session_words.proofs.BitLemmas.{bits_alike}
use Rattle.session_words.proofs.BookLemmas.{bits_set, triples_made}
use Rattle.session_words.proofs.FoundLemmas.{owner_upto, above_reserved}
use Rattle.session_words.proofs.GrownLemmas.{page_label_named, grown_long, map_labels_grown, with_here}
use Rattle.session_words.proofs.PlaceLemmas.{labels_created}
use Rattle.file_manager.proofs.BookLemmas.{root_label_grown}
use Rattle.file_manager.specs.Book.{Leads}
use Rattle.file_manager.specs.Making.{AreUnownedUpto, MayGrowUpto, MayCreateUpto, GrownBy, MakesAll, MakesSome, LedAndGrown, CreatedBy, CreatesAll, CreatesSome, IsRunFor, sectors_of}
use Rattle.file_manager.proofs.GrowSteps.{long_grown}
use Rattle.file_manager.proofs.RunLeads.{own_known}
use Rattle.file_manager.proofs.UpLemmas.{free_left}

-- one page, one sector
pub one_sector : (n id page : ℕ) (run : Run) → IsRunFor n id page 1 run → sectors_of run ≡ run.sector ∷ []
one_sector n id page run for_it =
    let few = for_it.few in
    let some = for_it.form.some in
    let one : run.pages ≡ 1 = omega (arith, few, some) in
    ap (range_with_len run.sector) one

-- no shape has the file, so no page of it
pub unowned_file : (tables : ℕ) (shapes : Shapes) (id page pages : ℕ) → 16 ≤ id → shapes id ≡ None → AreUnownedUpto tables shapes id page pages
unowned_file tables shapes id page pages high none p above below = either (is_owned_upto tables shapes id p) refl
  where
    either : (b : Bool) → is_owned_upto tables shapes id p ≡ b → is_owned_upto tables shapes id p ≡ false
    either false e = e
    either true e = let g = owner_upto tables shapes id p (λ q. omega (arith, q, high)) e in absurd (none-some g.0 (sym none ∙ g.1))

module _ {tables : ℕ} (layout : Layout) (is_layout : IsLayout layout) (kept : CachedRuns) (shapes : Shapes) (spaces : List Space) (x : List Sector) (d0 : DiskState) (s0 : Slots)
    (id kind pages : ℕ) (of_file : is_file_id id ≡ true) (may : MayCreateUpto tables d0 s0 layout kept shapes spaces id pages x) (leader : ℕ) (d : DiskState) (s : Slots)
    (leads : Leads (Grows id kind leader_page (leader ∷ [])) (growth id kind leader_page (leader ∷ [])) d0 s0 layout d s kept) where
  made_shape : Shape
  made_shape = shape_by (page_label id kind leader_page)

  pub led : (y : List Sector) × Stands d s y × Grows id kind leader_page (leader ∷ []) x y
  led = leads.goes.memory x may.books.stands

  shapes_are : AreShapes (with_shape shapes id (shape_by (page_label id kind leader_page)))
  shapes_are = record {
    given = λ i h found. given i h (i == id) refl found;
    short = λ i h found. short i h (i == id) found;
  }
    where
      given : (i : ℕ) (h : Shape) (b : Bool) → (i == id) ≡ b → (if b then Some (shape_by (page_label id kind leader_page)) else shapes i) ≡ Some h → is_file_id i ≡ true
      given i h true e found = ap is_file_id (eqb-true i id e) ∙ of_file
      given i h false e found = may.are.given i h found

      short : (i : ℕ) (h : Shape) (b : Bool) → (if b then Some (shape_by (page_label id kind leader_page)) else shapes i) ≡ Some h → h.size < leader_page
      short i h true found = let size : 0 ≡ h.size = ap (λ (w : Shape). w.size) (same_Some (shape_by (page_label id kind leader_page)) h found) in omega (arith, size)
      short i h false found = may.are.short i h found

  pub may_then : MayGrowUpto tables d s layout kept (with_shape shapes id (shape_by (page_label id kind leader_page))) spaces id (shape_by (page_label id kind leader_page)) pages led.0
  may_then =
      let booked = may.books.booked in
      let high = above_reserved id of_file in
      let g = led.2 in
      let labels = labels_of x in
      let new : Label = page_label id kind leader_page in
      let free = g.grown.free.0 in
      let taken : is_free (page_label id kind leader_page) ≡ false = ne_eqb id 0 (omega (arith, high)) in
      let made : IsMade (labels_of x) leader (page_label id kind leader_page) (is_owned_upto tables shapes) = record {
        old = free.label;
        there = free.there;
        free = free.free;
        taken = taken;
        named = page_label_named id kind leader_page;
        fresh = unowned_file tables shapes id leader_page 1 high may.none leader_page (omega arith) (omega arith);
      } in
      let long : length (grown_labels id kind leader_page (leader ∷ []) (labels_of x)) ≡ length x = grown_long id kind leader_page (leader ∷ []) (labels_of x) ∙ length-map x (λ s. s.0) in
      let some : 1 ≤ length (grown_labels id kind leader_page (leader ∷ []) (labels_of x)) = let b = booked.long in let c = is_layout.0.0 in omega (arith, long, b, c) in
      let bits : MarksFit (grown_marks (leader ∷ []) (is_marked x)) (grown_labels id kind leader_page (leader ∷ []) (labels_of x)) =
      bits_set (labels_of x) (is_marked x) (λ k. k == leader || is_marked x k) leader (page_label id kind leader_page) free.label booked.bits free.there
      (ap (λ (b : Bool). b || is_marked x leader) (eq-eqb leader leader refl) ∙ ap not (sym taken))
      (λ k below other. ap (λ (b : Bool). b || is_marked x k) (ne_eqb k leader other)) in
      let triples : HasTriples (grown_names id leader_page (leader ∷ []) booked.named) (grown_labels id kind leader_page (leader ∷ []) (labels_of x)) =
      triples_made (labels_of x) booked.named (λ j p s. (j == id && p == leader_page && s == leader) || booked.named j p s) leader free.label (page_label id kind leader_page) booked.triples free.there free.free taken (λ j p s. refl) in
      record {
        books = record {
          stands = led.1;
          booked = record {
            sectors = g.grown.sectors;
            long = long_grown id kind leader_page (leader ∷ []) x led.0 g.grown.labels ∙ booked.long;
            files = shapes_are;
            root_label = subst (λ (l : List Label). IsSomeAnd (slice_get l 0) (λ m. IsTrue (names m (record { id = 4; page = 0 })))) (sym g.grown.labels)
                (root_label_grown id kind leader_page (leader ∷ []) (labels_of x) g.grown.free booked.root_label);
            map_labels = subst HasMapLabels (sym g.grown.labels) (map_labels_grown id kind leader_page (leader ∷ []) (labels_of x) g.grown.free booked.map_labels);
            labels = subst (λ (l : List Label). HasLabelsUpto tables l (with_shape shapes id (shape_by (page_label id kind leader_page)))) (sym g.grown.labels)
                (labels_created (labels_of x) leader (page_label id kind leader_page) shapes booked.labels made (λ q. omega (arith, q, high)) may.none refl);
            bits = subst (MarksFit (is_marked led.0)) (sym g.grown.labels) (bits_alike (grown_labels id kind leader_page (leader ∷ []) (labels_of x)) (grown_marks (leader ∷ []) (is_marked x)) (is_marked led.0) some
                (λ k below. g.bits k (subst (λ (n : ℕ). k < 4096 * vam n) long below)) bits);
            named = grown_names id leader_page (leader ∷ []) booked.named;
            map = g.triples booked.named booked.map;
            triples = subst (HasTriples (grown_names id leader_page (leader ∷ []) booked.named)) (sym g.grown.labels) triples;
            kept = leads.true_runs led.0 led.1;
          };
          frames = own_known s0 s spaces leads.brings may.books.frames;
        };
        hidden = may.hidden;
        are = shapes_are;
        found = with_here shapes id (shape_by (page_label id kind leader_page));
        enough =
            let left = free_left layout is_layout kept shapes spaces x d0 s0 may.books id kind leader_page (leader ∷ []) (omega (arith, high)) led.0 led.2 in
            let enough = may.enough in
            omega (arith, left, enough);
      }

  -- the pages then
  pub pages_then : (d2 : DiskState) (s2 : Slots) → GrownBy id kind 0 pages d s layout d2 s2 kept → CreatedBy id kind pages d0 s0 layout d2 s2 kept
  pages_then d2 s2 grown = record {
    leader = leader;
    sectors = grown.sectors;
    long = grown.long;
    leads = record {
      goes = goes_then (Grows id kind leader_page (leader ∷ [])) (Grows id kind 0 grown.sectors) (LedAndGrown id kind leader grown.sectors) (λ m n o first next. record { middle = n; led = first; grown = next }) leads.goes grown.leads.goes;
      brings = brings_then leads.brings grown.leads.brings;
      true_runs = grown.leads.true_runs;
    };
  }

  -- in the words of the loop over runs
  pub file_made : (d2 : DiskState) (s2 : Slots) (r2 : CachedRuns) → r2 ≡ kept
      → ((y : List Sector) (ss : Shapes) (sp : List Space) (f : Shape) → MayGrowUpto tables d s layout kept ss sp id f pages y → f.size ≡ 0 → GrownBy id kind 0 (pages - 0) d s layout d2 s2 r2) → CreatedBy id kind pages d0 s0 layout d2 s2 r2
  file_made d2 s2 r2 same made =
      let z : pages - 0 ≡ pages = omega arith in
      let grown = made led.0 _ spaces _ may_then refl in
      subst (λ (r : CachedRuns). CreatedBy id kind pages d0 s0 layout d2 s2 r) (sym same)
      (pages_then d2 s2 (subst (λ (r : CachedRuns). GrownBy id kind 0 pages d s layout d2 s2 r) same (subst (λ (n : ℕ). GrownBy id kind 0 n d s layout d2 s2 r2) z grown)))

  pub file_sound : (e : Halt) → ((y : List Sector) (ss : Shapes) (sp : List Space) (f : Shape) → MayGrowUpto tables d s layout kept ss sp id f pages y → f.size ≡ 0 → e ≡ halt.Disk) → e ≡ halt.Disk
  file_sound e sound = sound led.0 _ spaces _ may_then refl

-- the leader's run is one sector
pub led_by : {layout : Layout} {d0 d : DiskState} {s0 s : Slots} {after kept : CachedRuns} (id kind leader : ℕ) (is : List ℕ) → is ≡ leader ∷ [] → after ≡ kept → Leads (Grows id kind leader_page is) (growth id kind leader_page is) d0 s0 layout d s after
    → Leads (Grows id kind leader_page (leader ∷ [])) (growth id kind leader_page (leader ∷ [])) d0 s0 layout d s kept
led_by {layout = layout} {d0 = d0} {d = d} {s0 = s0} {s = s} {after = after} {kept = kept} id kind leader is one same leads =
    subst (λ (r : CachedRuns). Leads (Grows id kind leader_page (leader ∷ [])) (growth id kind leader_page (leader ∷ [])) d0 s0 layout d s r) same
    (subst (λ (js : List ℕ). Leads (Grows id kind leader_page js) (growth id kind leader_page js) d0 s0 layout d s after) one leads)

-- over any contents
pub creates_all : {a b c : DiskState} {s t u : Slots} (id kind pages : ℕ) (is : List ℕ) (leader : ℕ) → is ≡ leader ∷ [] → Makes volume_page (growth id kind leader_page is) a s b t → MakesAll id kind 0 (pages - 0) b t c u → CreatesAll id kind pages a s c u
creates_all {a = a} {b = b} {s = s} {t = t} id kind pages is leader one first then_all = record {
  leader = leader;
  sectors = then_all.sectors;
  long = let long = then_all.long in omega (arith, long);
  makes = makes_then (subst (λ (js : List ℕ). Makes volume_page (growth id kind leader_page js) a s b t) one first) then_all.makes;
}

-- a stop at the leader
pub stopped_leader : {a b : DiskState} {s t : Slots} (id kind pages : ℕ) → MakesSome id kind leader_page 1 a s b t → CreatesSome id kind pages a s b t
stopped_leader {a = a} {b = b} {s = s} {t = t} id kind pages some = either some.sectors some.few some.count some.makes
  where
    either : (is : List ℕ) → length is ≤ 1 → (n : ℕ) → Makes volume_page (take n (growth id kind leader_page is)) a s b t → CreatesSome id kind pages a s b t
    either [] few zero makes = record { leader = 0; sectors = []; few = omega arith; count = 0; makes = makes }
    either [] few (suc n) makes = record { leader = 0; sectors = []; few = omega arith; count = 0; makes = makes }
    either (i ∷ []) few n makes = record { leader = i; sectors = []; few = omega arith; count = n; makes = makes }
    either (i ∷ j ∷ is) few n makes = absurd (omega (arith, few))

-- a stop after it
pub stopped_pages : {a b c : DiskState} {s t u : Slots} (id kind pages : ℕ) (is : List ℕ) (leader : ℕ) → is ≡ leader ∷ [] → Makes volume_page (growth id kind leader_page is) a s b t → MakesSome id kind 0 (pages - 0) b t c u → CreatesSome id kind pages a s c u
stopped_pages {a = a} {b = b} {s = s} {t = t} id kind pages is leader one first some = record {
  leader = leader;
  sectors = some.sectors;
  few = let few = some.few in omega (arith, few);
  count = suc some.count;
  makes = makes_then (subst (λ (js : List ℕ). Makes volume_page (growth id kind leader_page js) a s b t) one first) some.makes;
}
