-- The file map, where the frames of the space tables are given up.
use Rattle.std.proofs.Common.{◌≡◌, ◌≢◌, inl, ℕ, ◌+◌, ◌<◌, Bool, true, false, List, [], Some, refl, sym, ◌∙◌, ap, arith, None, Option, subst}
use Rattle.std.specs.Prelude.{slice_get, ◌==◌, ◌&&◌, nat_le, nat_lt, IfSome}
use Rattle.std.proofs.lemmas.Bool.{and_parts}
use Rattle.std.proofs.lemmas.Bool.Decides.{nat_tests}
use Rattle.std.proofs.lemmas.Option.{same_Some}
use Rattle.labelled_disk.specs.declared.label.Label.{Label}
use Rattle.labelled_disk.specs.declared.layout.Layout.{Layout}
use Rattle.labelled_disk.specs.Sectors.{Sector}
use Rattle.labelled_disk.specs.State.{DiskState}
use Rattle.frame_pool.specs.declared.home.Home.{Home}
use Rattle.frame_pool.specs.Frames.{Frame, Slots, Has, IsWithin}
use Rattle.file_map.specs.declared.run.Run.{Run}
use Rattle.file_map.specs.FileMap.{Triples}
use Rattle.swapper_kernel.specs.declared.manager.Manager.{Manager}
use Rattle.swapper_kernel.specs.declared.manager.Manager.TheVariants.{AllocationMap, FileMap}
use Rattle.swapper_kernel.specs.Differs.{Differs, of_run}
use Rattle.swapper_kernel.specs.DiffersLaws.{names_id}
use Rattle.swapper_kernel.specs.Goes.{Goes, no_page}
use Rattle.swapper_kernel.specs.Homes.{IsLayout, ArePlaced, wanted_at}
use Rattle.swapper_kernel.specs.Maps.{id_of}
use Rattle.swapper_kernel.specs.Stands.{Stands}
use Rattle.file_manager.specs.Grounds.{AreTables, KeepsMap}
use Rattle.file_manager.specs.Reasons.{InitialState, AreTabled, KeepsTo}
use Rattle.file_manager.proofs.FreedRun.{shows_still, first_is}
use Rattle.file_manager.specs.KeepLaws.{IsUntabled}
use Rattle.file_manager.specs.WriteLaws.{no_roots}
use Rattle.file_manager.proofs.KeepSteps.{keeps_prefix, no_writes, none_up}

-- a label that is that of a page of the space tables has their identifier
of_tables : (k : ℕ) (l : Label) → of_run 3 0 96 k l ≡ true → l.id ≡ 3
of_tables k l is = let first = (and_parts ((l.id == 3) && nat_le 0 l.page) (nat_lt l.page (0 + 96)) is).0 in same l.id (and_parts (l.id == 3) (nat_le 0 l.page) first).0
  where
    same : (n : ℕ) → (n == 3) ≡ true → n ≡ 3
    same n reveals = grind (arith, nat_tests)

-- where frames of these pages were given up, no frame has one
pub forgotten_untabled : {t : Slots} → ((i : ℕ) (f : Frame) → Has t i f → IsWithin 3 0 96 f.home → ⊥) → IsUntabled t
forgotten_untabled gone home held own few =
    let page = ap (λ (h : Home). h.page) held.at in
    gone held.slot held.frame held.has (ap (λ (h : Home). h.id) held.at ∙ own, omega arith, omega (arith, page, few))

apart : (which : Manager) (n : ℕ) → n ≡ 3 → n ≢ id_of which
apart AllocationMap n is same = omega (arith, is, same)
apart FileMap n is same = omega (arith, is, same)

module _ {layout : Layout} {a b : DiskState} {s t : Slots} (kept : List Run) (is : IsLayout layout) (placed : ArePlaced s layout) (gone : (i : ℕ) (f : Frame) → Has t i f → IsWithin 3 0 96 f.home → ⊥)
    (left : (i : ℕ) (f : Frame) → Has t i f → Has s i f) (goes : Goes (Differs (of_run 3 0 96)) no_page [] a s b t) (same : b ≡ a) where
  module _ (m n : List Sector) (before : Stands a s m) (after : Stands b t n) (k : ℕ) (low : k < layout.first) (x : Sector) (here : slice_get m k ≡ Some x) where
    -- no frame was over a sector before the data that has such a label
    none_over : of_run 3 0 96 k x.0 ≡ true → (i : ℕ) (f : Frame) → Has s i f → f.home.sector ≢ k
    none_over of i f has at =
        let home = before.merged.frames i f has in
        let label : home.label ≡ x.0 = ap (λ (y : Sector). y.0) (same_Some {A = Sector} (home.label, f.bytes) x (sym home.keeps ∙ ap (slice_get m) at ∙ here)) in
        let tables : f.home.id ≡ 3 = sym (names_id home.label (wanted_at f.home) home.named) ∙ ap (λ (l : Label). l.id) label ∙ of_tables k x.0 of in
        let from = ((placed i f has).of_file (λ which q. apart which f.home.id tables q)).0 in
        omega (arith, from, at, low)

    stays : Differs (of_run 3 0 96) m n → (u : Bool) → of_run 3 0 96 k x.0 ≡ u → slice_get n k ≡ Some x
    stays differs true of =
        let disks : after.sectors ≡ before.sectors = same_Some after.sectors before.sectors (sym after.revealed ∙ ap (λ (d : DiskState). d.contents) same ∙ before.revealed) in
        after.merged.clean k (λ i f has dirty. none_over of i f (left i f has)) ∙ ap (λ (d : List Sector). slice_get d k) disks
        ∙ sym (before.merged.clean k (λ i f has dirty. none_over of i f has)) ∙ here
    stays differs false other = differs.pages k x here other

  pub keeps_forgotten : KeepsMap (AreTables s) layout 3 a s kept b t kept
  keeps_forgotten = record {
    faults = goes.makes.went.faults;
    brings = record { homes = λ home held. inl (record { slot = held.slot; frame = held.frame; has = left held.slot held.frame held.has; at = held.at }) };
    unframed = λ tables page there.
        let below = tables page (record { slot = there.slot; frame = there.frame; has = left there.slot there.frame there.has; same_id = there.same_id; same_page = there.same_page }) in
        let at = there.same_page in
        gone there.slot there.frame there.has (there.same_id, omega arith, omega (arith, below, at));
    revealed = λ tables bytes reveals.
        let now = goes.memory reveals.memory reveals.stands in
        record {
          memory = now.0;
          stands = now.1;
          shows = shows_still FileMap layout reveals.memory now.0 bytes (λ k x below here.
              stays reveals.memory now.0 reveals.stands now.1 (1 + layout.vam + k) (let f = first_is layout is in omega (arith, f, below)) x here now.2 (of_run 3 0 96 (1 + layout.vam + k) x.0) refl) reveals.shows;
          size = goes.makes.went.sectors ∙ reveals.size;
        };
    runs_given = λ tables r one. inl one;
  }

  -- what keeps to an initial state still does
  pub forgotten_keeps : {o : InitialState} {runs : List Run} {named : Triples} → o.tables ≡ None → KeepsTo o layout runs a s named → KeepsTo o layout runs b t named
  forgotten_keeps {o = o} {named = named} untold k =
      let now = goes.memory k.memory k.stands in
      keeps_prefix is k goes.makes (λ home held. record { slot = held.slot; frame = held.frame; has = left held.slot held.frame held.has; at = held.at }) now.0 now.1
      (λ i x low here. stays k.memory now.0 k.stands now.1 i low x here now.2 (of_run 3 0 96 i x.0) refl) no_writes none_up (no_roots o.next) (λ revealed. subst (λ (t : Option (List ℕ)). IfSome t (AreTabled layout named now.0)) (sym untold) tt)
