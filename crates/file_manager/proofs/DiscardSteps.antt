-- Frames of a file's pages that are given up, one page after the other.
use Rattle.std.proofs.Common.{◌≡◌, ◌≢◌, ◌⊎◌, inl, inr, ⊎_elim, ℕ, ◌+◌, ◌<◌, ◌≤◌, false, List, [], length, None, refl, sym, ◌∙◌, ap, subst, arith}
use Rattle.std.specs.Prelude.{slice_get, slice_set}
use Rattle.std.proofs.lemmas.Bool.{cases_eq}
use Rattle.std.proofs.lemmas.Bool.Decides.{nat_tests}
use Rattle.std.proofs.lemmas.Option.{none-some, same_Some}
use Rattle.labelled_disk.specs.declared.label.Label.{Label}
use Rattle.labelled_disk.specs.declared.layout.Layout.{Layout}
use Rattle.labelled_disk.specs.Sectors.{Sector}
use Rattle.labelled_disk.specs.State.{DiskState}
use Rattle.frame_pool.specs.declared.home.Home.{Home}
use Rattle.frame_pool.specs.Frames.{Frame, Slots, Has, IsOf, IsNowhere, HasDistinct, IsWithin}
use Rattle.frame_pool.specs.FrameLaws.{has_below, has_set, length_of_set}
use Rattle.frame_pool.specs.ListLaws.{get_other}
use Rattle.swapper_kernel.specs.declared.manager.Manager.{Manager}
use Rattle.swapper_kernel.specs.declared.manager.Manager.TheVariants.{AllocationMap, FileMap}
use Rattle.swapper_kernel.specs.Differs.{Differs}
use Rattle.swapper_kernel.specs.DiffersLaws.{differs_itself, differs_then, names_id, other_sector}
use Rattle.swapper_kernel.specs.Goes.{Goes, no_page}
use Rattle.swapper_kernel.specs.GoesLaws.{went_itself, wrote_none, goes_itself, goes_then}
use Rattle.swapper_kernel.specs.Homes.{ArePlaced, wanted_at}
use Rattle.swapper_kernel.specs.Maps.{id_of}
use Rattle.swapper_kernel.specs.Stands.{Stands}
use Rattle.swapper_kernel.proofs.MoveLemmas.{move_laws}
use Rattle.force_calls.specs.Run.{OnlyRun}
use Rattle.force_calls.proofs.RunLemmas.{within_kept, only_run_itself, only_run_then, cleared_only}
use Rattle.file_manager.specs.Forgetting.{Forgets, on_data_of}

-- no page of a file is one of a map
no_map : (which : Manager) (id : ℕ) → (id ≡ 3) ⊎ (16 ≤ id) → id ≢ id_of which
no_map AllocationMap id file same = ⊎_elim (λ (q : id ≡ 3). omega (arith, same, q)) (λ (q : 16 ≤ id). omega (arith, same, q)) file
no_map FileMap id file same = ⊎_elim (λ (q : id ≡ 3). omega (arith, same, q)) (λ (q : 16 ≤ id). omega (arith, same, q)) file

before : (layout : Layout) (id k : ℕ) (label : Label) → label.id ≡ id → on_data_of layout id k label ≡ false → k < layout.first
before layout id k label same fails = grind (arith, nat_tests)

-- One frame is given up, of a page that stands on a data sector.
module _ (layout : Layout) (disk : DiskState) (s t : Slots) (slot : ℕ) (f : Frame) (has : Has s slot f) (distinct : HasDistinct s) (id : ℕ) (own : f.home.id ≡ id) (from : layout.first ≤ f.home.sector) (is : t ≡ slice_set s slot None) where
  -- each frame that is left was there, in another slot
  one_left : (i : ℕ) (g : Frame) → Has t i g → (i ≢ slot) × Has s i g
  one_left i g g_has = elim (has_set s slot i None g (has_below s slot f has) (record { is = ap (λ (l : Slots). slice_get l i) (sym is) ∙ g_has.is })) [
    | inl (_, empty) ↦ absurd (none-some g empty)
    | inr was ↦ was
  ]

  one_memory : (m : List Sector) → Stands disk s m → (n : List Sector) × Stands disk t n × Differs (on_data_of layout id) m n
  one_memory m stands =
      let home = stands.merged.frames slot f has in
      let there = other_sector stands.sectors m stands.merged.labels f.home.sector (home.label, f.bytes) home.keeps in
      let after = (move_laws stands.sectors s m).dropped slot f there.0 has distinct there.1 stands.merged in (
        slice_set m f.home.sector there.0,
        record { sectors = stands.sectors; revealed = stands.revealed; merged = rw is after },
        record {
          labels = after.labels ∙ sym stands.merged.labels;
          pages = λ k x here fails. get_other m f.home.sector k there.0 (λ at.
              let shown = stands.merged.frames slot f has in
              let label : shown.label ≡ x.0 = ap (λ (y : Sector). y.0) (same_Some {A = Sector} (shown.label, f.bytes) x (sym shown.keeps ∙ ap (slice_get m) (sym at) ∙ here)) in
              let low = before layout id k x.0 (ap (λ (l : Label). l.id) (sym label) ∙ names_id shown.label (wanted_at f.home) shown.named ∙ own) fails in
              omega (arith, low, at, from)) ∙ here;
        },
      )

  one_goes : Goes (Differs (on_data_of layout id)) no_page [] disk s disk t
  one_goes = record {
    makes = record {
      went = went_itself disk;
      dirty = λ id page d. inl (record { slot = d.slot; frame = d.frame; has = (one_left d.slot d.frame d.has).1; dirty = d.dirty; same_id = d.same_id; same_page = d.same_page });
      wrote = wrote_none no_page s (record { contents = refl; writes = refl });
      count = ap (λ (l : Slots). length l) is ∙ length_of_set s slot None;
    };
    memory = one_memory;
  }

-- no page yet
pub forgets_none : (id first : ℕ) (layout : Layout) (disk : DiskState) (s : Slots) → Forgets id first 0 layout disk s s
forgets_none id first layout disk s = record {
  gone = λ i f has within. let a = within.1 in let b = within.2 in omega (arith, a, b);
  run = only_run_itself id first 0 s;
  goes = goes_itself (Differs (on_data_of layout id)) no_page disk s (λ m. differs_itself (on_data_of layout id) m);
}

-- the page is the next one, or it was before
last_or_before : (id first k : ℕ) (home : Home) → IsWithin id first (k + 1) home → ((home.id ≡ id) × (home.page ≡ first + k)) ⊎ IsWithin id first k home
last_or_before id first k home within =
    let a = within.1 in
    let b = within.2 in
    elim (cases_eq home.page (first + k)) [
      | inl same ↦ inl (within.0, same)
      | inr other ↦ inr (within.0, a, omega (arith, b, other))
    ]

wider : (id first k : ℕ) (home : Home) → IsWithin id first k home → IsWithin id first (k + 1) home
wider id first k home within = let a = within.1 in let b = within.2 in (within.0, a, omega (arith, b))

-- slots that are as they were but for a shorter run
only_wider : {id first k : ℕ} {s t : Slots} → OnlyRun id first k s t → OnlyRun id first (k + 1) s t
only_wider {id = id} {first = first} {k = k} h = record {
  others = λ i outside. h.others i (λ f has within. outside f has (wider id first k f.home within));
  frames = h.frames;
}

-- no frame has the next page
pub forgets_on : {id first k : ℕ} {layout : Layout} {disk : DiskState} {s t : Slots} → Forgets id first k layout disk s t → IsNowhere t id (first + k) → Forgets id first (k + 1) layout disk s t
forgets_on {id = id} {first = first} {k = k} h nowhere = record {
  gone = λ i f has within. elim (last_or_before id first k f.home within) [
    | inl (same_id, same_page) ↦ nowhere i f has same_id same_page
    | inr before ↦ h.gone i f has before
  ];
  run = only_wider h.run;
  goes = h.goes;
}

-- a frame has it, and is given up
pub forgets_more : {id first k : ℕ} {layout : Layout} {disk : DiskState} {s t u : Slots} → Forgets id first k layout disk s t → (id ≡ 3) ⊎ (16 ≤ id) → ArePlaced t layout → HasDistinct t
    → (slot : ℕ) (f : Frame) → Has t slot f → IsOf f id (first + k) → u ≡ slice_set t slot None → Forgets id first (k + 1) layout disk s u
forgets_more {id = id} {first = first} {k = k} {layout = layout} {disk = disk} {t = t} {u = u} h file placed distinct slot f has of is =
    let from = ((placed slot f has).of_file (λ which same. no_map which id file (sym of.0 ∙ same))).0 in
    let within : IsWithin id first (k + 1) f.home = (of.0, (let at = of.1 in omega (arith, at)), (let at = of.1 in omega (arith, at))) in
    record {
      gone = λ i g g_has within.
          let was = one_left layout disk t u slot f has distinct id of.0 from is i g g_has in
          elim (last_or_before id first k g.home within) [
            | inl (same_id, same_page) ↦ was.0 (distinct i slot g f was.1 has (same_id ∙ sym of.0) (same_page ∙ sym of.1))
            | inr before ↦ h.gone i g was.1 before
          ];
      run = only_run_then (only_wider h.run) (cleared_only id first (k + 1) t u slot f has (within_kept id first (k + 1) f within) is);
      goes = goes_then (Differs (on_data_of layout id)) (Differs (on_data_of layout id)) (Differs (on_data_of layout id)) (λ m n o one two. differs_then (on_data_of layout id) m n o one two) h.goes (one_goes layout disk t u slot f has distinct id of.0 from is);
    }

-- all pages
pub forgets_all : {id first k pages : ℕ} {layout : Layout} {disk : DiskState} {s t : Slots} → Forgets id first k layout disk s t → k ≡ pages → Forgets id first pages layout disk s t
forgets_all {id = id} {first = first} {layout = layout} {disk = disk} {s = s} {t = t} h same = subst (λ (n : ℕ). Forgets id first n layout disk s t) same h
