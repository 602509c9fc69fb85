-- The elementary moves of frames and disk.
use Rattle.std.proofs.Common.{◌≡◌, ◌≢◌, ◌⊎◌, inl, inr, ℕ, ◌<◌, Bool, true, false, List, length, Option, Some, None, refl, sym, ◌∙◌, ap, subst}
use Rattle.std.specs.Prelude.{slice_get, slice_set, option_map, if◌then◌else◌}
use Rattle.std.specs.Option.{option_map_or}
use Rattle.std.proofs.lemmas.Option.{same_Some, none-some}
use Rattle.std.proofs.lemmas.Bool.{true≢false, cases_eq}
use Rattle.std.proofs.lemmas.List.{map-set}
use Rattle.labelled_disk.specs.declared.label.Label.{Label}
use Rattle.labelled_disk.specs.declared.disk.DiskWrite.TheVariants as write
use Rattle.labelled_disk.specs.Label.{names}
use Rattle.labelled_disk.specs.Sectors.{Sector}
use Rattle.labelled_disk.specs.CrashState.{written}
use Rattle.frame_pool.specs.declared.home.Home.{Home}
use Rattle.frame_pool.specs.Frames.{Frame, Slots, Has, IsNowhere, HasDistinct, frame_at, new_frame, clean, changed, changed_at, cleaned_at}
use Rattle.flat_mem.specs.Memory.{overwritten}
use Rattle.frame_pool.specs.FrameLaws.{has_below, has_set, has_other, frame_of_has}
use Rattle.frame_pool.specs.ListLaws.{get_same, get_other, below_of}
use Rattle.swapper_kernel.specs.Homes.{wanted_at}
use Rattle.swapper_kernel.specs.Stands.{labels_of, IsHome, IsClean, IsMerged}
use Rattle.swapper_kernel.specs.DiffersLaws.{other_sector, names_id, names_page, set_labels}
use Rattle.swapper_kernel.specs.MoveLaws.{MoveLaws}

-- no frame and one at once
empty_has : (slots : Slots) (i : ℕ) (f : Frame) → frame_at slots i ≡ None → Has slots i f → ⊥
empty_has slots i f empty has = none-some f (sym empty ∙ frame_of_has slots i f has)

module _ (sectors : List Sector) (slots : Slots) (memory : List Sector) (m : IsMerged sectors slots memory) where
  -- two frames over one sector have one page
  same_home : (f g : Frame) → IsHome memory f → IsHome memory g → f.home.sector ≡ g.home.sector → (f.home.id ≡ g.home.id) × (f.home.page ≡ g.home.page)
  same_home f g at also same =
      let label : at.label ≡ also.label = ap (λ (s : Sector). s.0) (same_Some {A = Sector} (at.label, f.bytes) (also.label, g.bytes) (sym at.keeps ∙ ap (slice_get memory) same ∙ also.keeps)) in (
        sym (names_id at.label (wanted_at f.home) at.named) ∙ ap (λ (l : Label). l.id) label ∙ names_id also.label (wanted_at g.home) also.named,
        sym (names_page at.label (wanted_at f.home) at.named) ∙ ap (λ (l : Label). l.page) label ∙ names_page also.label (wanted_at g.home) also.named,
      )

  -- the sector of a frame's home, on the disk
  on_disk : (f : Frame) → IsHome memory f → (s : Sector) × (slice_get sectors f.home.sector ≡ Some s) × (names s.0 (wanted_at f.home) ≡ true)
  on_disk f home =
      let s = other_sector sectors memory m.labels f.home.sector (home.label, f.bytes) home.keeps in
      (s.0, s.1, ap (λ (l : Label). names l (wanted_at f.home)) s.2 ∙ home.named)

  -- other frames, and a new one, over the same memory; each sector that becomes clean is as the memory has it
  replaced : (after : Slots) → ((j : ℕ) (g : Frame) → Has after j g → Has slots j g ⊎ IsHome memory g)
      → ((k : ℕ) → IsClean after k → IsClean slots k ⊎ (slice_get memory k ≡ slice_get sectors k)) → IsMerged sectors after memory
  replaced after homes cleans = record {
    labels = m.labels;
    frames = λ j g has. elim (homes j g has) [ inl was ↦ m.frames j g was | inr home ↦ home ];
    clean = λ k free. elim (cleans k free) [ inl was ↦ m.clean k was | inr same ↦ same ];
  }

  -- a frame at the same place over the same slots, but for one
  frees : (i k : ℕ) (x : Option Frame) → IsClean (slice_set slots i x) k → (j : ℕ) (g : Frame) → j ≢ i → Has slots j g → g.dirty ≡ true → g.home.sector ≢ k
  frees i k x free j g other has dirty = free j g (has_other slots i j x g other has) dirty

  cleared : (i : ℕ) → i < length slots → ((f : Frame) → Has slots i f → f.dirty ≡ false) → IsMerged sectors (slice_set slots i None) memory
  cleared i below clean = replaced (slice_set slots i None)
      (λ j g has. elim (has_set slots i j None g below has) [ inl (_, none) ↦ absurd (none-some g none) | inr (_, was) ↦ inl was ])
      (λ k free. inl (λ j g has dirty. elim (cases_eq j i) [
        | inl same ↦ absurd (true≢false (sym dirty ∙ clean g (record { is = ap (slice_get slots) (sym same) ∙ has.is })))
        | inr other ↦ frees i k None free j g other has dirty
      ]))

  put : (i : ℕ) (home : Home) (label : Label) (bytes : List ℕ) → i < length slots → frame_at slots i ≡ None → IsNowhere slots home.id home.page
      → slice_get sectors home.sector ≡ Some (label, bytes) → names label (record { id = home.id; page = home.page }) ≡ true → IsMerged sectors (slice_set slots i (Some (new_frame home bytes))) memory
  put i home label bytes below empty nowhere here named =
      -- no dirty frame is over the home, since it would have the page
      let none_over : IsClean slots home.sector = λ j g has dirty at.
      let its = m.frames j g has in
      let d = on_disk g its in
      let same : (label, bytes) ≡ d.0 = same_Some {A = Sector} (label, bytes) d.0 (sym here ∙ ap (slice_get sectors) (sym at) ∙ d.1) in
      let label_is : label ≡ d.0.0 = ap (λ (s : Sector). s.0) same in
      nowhere j g has
      (sym (names_id d.0.0 (wanted_at g.home) d.2) ∙ ap (λ (l : Label). l.id) (sym label_is) ∙ names_id label (record { id = home.id; page = home.page }) named)
      (sym (names_page d.0.0 (wanted_at g.home) d.2) ∙ ap (λ (l : Label). l.page) (sym label_is) ∙ names_page label (record { id = home.id; page = home.page }) named) in
      let new : IsHome memory (new_frame home bytes) = record { label = label; keeps = m.clean home.sector none_over ∙ here; named = named } in
      replaced (slice_set slots i (Some (new_frame home bytes)))
      (λ j g has. elim (has_set slots i j (Some (new_frame home bytes)) g below has) [ inl (_, same) ↦ inr (subst (IsHome memory) (same_Some (new_frame home bytes) g same) new) | inr (_, was) ↦ inl was ])
      (λ k free. inl (λ j g has dirty. elim (cases_eq j i) [
        | inl same ↦ absurd (empty_has slots i g empty (record { is = ap (slice_get slots) (sym same) ∙ has.is }))
        | inr other ↦ frees i k (Some (new_frame home bytes)) free j g other has dirty
      ]))

  -- what a write out makes of the disk
  written_is : (i : ℕ) (f : Frame) (has : Has slots i f) → written (write.Page f.home.sector (wanted_at f.home) f.bytes) sectors ≡ slice_set sectors f.home.sector ((on_disk f (m.frames i f has)).0.0, f.bytes)
  written_is i f has =
      let d = on_disk f (m.frames i f has) in
      ap (λ (o : Option Sector). option_map_or (λ (old : Sector). if names old.0 (wanted_at f.home) then slice_set sectors f.home.sector (old.0, f.bytes) else sectors) o sectors) d.1
      ∙ ap (λ (b : Bool). if b then slice_set sectors f.home.sector (d.0.0, f.bytes) else sectors) d.2

  set_there : (i : ℕ) (f : Frame) (has : Has slots i f) → slice_get memory f.home.sector ≡ slice_get (slice_set sectors f.home.sector ((on_disk f (m.frames i f has)).0.0, f.bytes)) f.home.sector
  unfolding on_disk
  set_there i f has =
      let d = on_disk f (m.frames i f has) in
      let o = other_sector sectors memory m.labels f.home.sector ((m.frames i f has).label, f.bytes) (m.frames i f has).keeps in
      (m.frames i f has).keeps ∙ ap (λ (l : Label). Some (l, f.bytes)) (sym o.2) ∙ sym (get_same sectors f.home.sector (d.0.0, f.bytes) (below_of sectors f.home.sector d.0 d.1))

  -- then the disk has there what the memory has
  pub written_there : (i : ℕ) (f : Frame) → Has slots i f → slice_get (written (write.Page f.home.sector (wanted_at f.home) f.bytes) sectors) f.home.sector ≡ slice_get memory f.home.sector
  written_there i f has = ap (λ (e : List Sector). slice_get e f.home.sector) (written_is i f has) ∙ sym (set_there i f has)

  written_out : (i : ℕ) (f : Frame) → Has slots i f → IsMerged (written (write.Page f.home.sector (wanted_at f.home) f.bytes) sectors) slots memory
  written_out i f has = subst (λ (e : List Sector). IsMerged e slots memory) (sym (written_is i f has)) now
    where
      now : IsMerged (slice_set sectors f.home.sector ((on_disk f (m.frames i f has)).0.0, f.bytes)) slots memory
      now =
          let d = on_disk f (m.frames i f has) in
          record {
            labels = m.labels ∙ sym (set_labels sectors f.home.sector d.0 f.bytes d.1);
            frames = m.frames;
            clean = λ k free. elim (cases_eq k f.home.sector) [
              | inl same ↦ ap (slice_get memory) same ∙ set_there i f has ∙ ap (slice_get (slice_set sectors f.home.sector (d.0.0, f.bytes))) (sym same)
              | inr other ↦ m.clean k free ∙ sym (get_other sectors f.home.sector k (d.0.0, f.bytes) other)
            ];
          }

  same_frame_at : (j i : ℕ) (g f : Frame) → j ≡ i → Has slots j g → Has slots i f → g ≡ f
  same_frame_at j i g f at gh fh = same_Some g f (same_Some (Some g) (Some f) (sym gh.is ∙ ap (slice_get slots) at ∙ fh.is))

  cleaned : (i : ℕ) (f : Frame) → Has slots i f → slice_get sectors f.home.sector ≡ slice_get memory f.home.sector → IsMerged sectors (cleaned_at slots i) memory
  cleaned i f has same_there =
      let is : cleaned_at slots i ≡ slice_set slots i (Some (clean f)) = ap (λ (o : Option Frame). slice_set slots i (option_map clean o)) (frame_of_has slots i f has) in
      let was = m.frames i f has in
      let now : IsHome memory (clean f) = record { label = was.label; keeps = was.keeps; named = was.named } in
      subst (λ (l : Slots). IsMerged sectors l memory) (sym is)
      (replaced (slice_set slots i (Some (clean f)))
      (λ j g g_has. elim (has_set slots i j (Some (clean f)) g (has_below slots i f has) g_has) [ inl (_, same) ↦ inr (subst (IsHome memory) (same_Some (clean f) g same) now) | inr (_, old) ↦ inl old ])
      (λ k free. elim (cases_eq k f.home.sector) [
        | inl same ↦ inr (ap (slice_get memory) same ∙ sym same_there ∙ ap (slice_get sectors) (sym same))
        | inr other ↦ inl (λ j g g_has dirty. elim (cases_eq j i) [
          | inl at ↦ λ q. other (sym q ∙ ap (λ (x : Frame). x.home.sector) (same_frame_at j i g f at g_has has))
          | inr apart ↦ frees i k (Some (clean f)) free j g apart g_has dirty
        ])
      ]))

  -- the memory with another sector at a home: the other frames stand in it as before
  others_stay : (i : ℕ) (f : Frame) (t : Sector) → Has slots i f → HasDistinct slots → (j : ℕ) (g : Frame) → j ≢ i → Has slots j g → IsHome (slice_set memory f.home.sector t) g
  others_stay i f t has distinct j g apart g_has =
      let was = m.frames i f has in
      let kept = m.frames j g g_has in
      let other : g.home.sector ≢ f.home.sector = λ at. let keys = same_home g f kept was at in apart (distinct j i g f g_has has keys.0 keys.1) in
      record { label = kept.label; keeps = get_other memory f.home.sector g.home.sector t other ∙ kept.keeps; named = kept.named }

  -- the labels stay where the label does
  labels_stay : (k : ℕ) (s : Sector) (page : List ℕ) → slice_get memory k ≡ Some s → labels_of (slice_set memory k (s.0, page)) ≡ labels_of sectors
  labels_stay k s page here = set_labels memory k s page here ∙ m.labels

  changed_bytes : (i : ℕ) (f : Frame) (s : Sector) (at : ℕ) (bytes : List ℕ) → Has slots i f → HasDistinct slots → slice_get memory f.home.sector ≡ Some s
      → IsMerged sectors (changed_at slots i at bytes) (slice_set memory f.home.sector (s.0, overwritten s.1 at bytes))
  changed_bytes i f s at bytes has distinct here =
      let new : Frame = changed f at bytes in
      let is : changed_at slots i at bytes ≡ slice_set slots i (Some (changed f at bytes)) = ap (λ (o : Option Frame). slice_set slots i (option_map (λ g. changed g at bytes) o)) (frame_of_has slots i f has) in
      let was = m.frames i f has in
      let same : (was.label, f.bytes) ≡ s = same_Some {A = Sector} (was.label, f.bytes) s (sym was.keeps ∙ here) in
      let below = below_of memory f.home.sector s here in
      let stored = slice_set memory f.home.sector (s.0, overwritten s.1 at bytes) in
      let now : IsHome stored (changed f at bytes) = record {
        label = s.0;
        keeps = get_same memory f.home.sector (s.0, overwritten s.1 at bytes) below ∙ ap (λ (p : List ℕ). Some (s.0, overwritten p at bytes)) (sym (ap (λ (t : Sector). t.1) same));
        named = ap (λ (t : Sector). names t.0 (wanted_at f.home)) (sym same) ∙ was.named;
      } in
      subst (λ (l : Slots). IsMerged sectors l stored) (sym is)
      (record {
        labels = labels_stay f.home.sector s (overwritten s.1 at bytes) here;
        frames = λ j g g_has. elim (has_set slots i j (Some (changed f at bytes)) g (has_below slots i f has) g_has) [
          | inl (_, own) ↦ subst (IsHome stored) (same_Some (changed f at bytes) g own) now
          | inr (apart, old) ↦ others_stay i f (s.0, overwritten s.1 at bytes) has distinct j g apart old
        ];
        clean = λ k free.
            let own : f.home.sector ≢ k = λ q. free i (changed f at bytes) (record { is = get_same slots i (Some (changed f at bytes)) (has_below slots i f has) }) refl q in
            get_other memory f.home.sector k (s.0, overwritten s.1 at bytes) (λ q. own (sym q))
            ∙ m.clean k (λ j g g_has dirty q. elim (cases_eq j i) [
              | inl also ↦ own (ap (λ (x : Frame). x.home.sector) (sym (same_frame_at j i g f also g_has has)) ∙ q)
              | inr apart ↦ frees i k (Some (changed f at bytes)) free j g apart g_has dirty q
            ]);
      })

  dropped : (i : ℕ) (f : Frame) (s : Sector) → Has slots i f → HasDistinct slots → slice_get sectors f.home.sector ≡ Some s → IsMerged sectors (slice_set slots i None) (slice_set memory f.home.sector s)
  dropped i f s has distinct here =
      let was = m.frames i f has in
      let o = other_sector sectors memory m.labels f.home.sector (was.label, f.bytes) was.keeps in
      let same : s ≡ o.0 = same_Some s o.0 (sym here ∙ o.1) in
      let label : s.0 ≡ was.label = ap (λ (t : Sector). t.0) same ∙ o.2 in
      let below = below_of memory f.home.sector (was.label, f.bytes) was.keeps in
      record {
        labels = ap (λ (l : Label). labels_of (slice_set memory f.home.sector (l, s.1))) label ∙ labels_stay f.home.sector (was.label, f.bytes) s.1 was.keeps;
        frames = λ j g g_has. elim (has_set slots i j None g (has_below slots i f has) g_has) [
          | inl (_, none) ↦ absurd (none-some g none)
          | inr (apart, old) ↦ others_stay i f s has distinct j g apart old
        ];
        clean = λ k free. elim (cases_eq k f.home.sector) [
          | inl at ↦ ap (slice_get (slice_set memory f.home.sector s)) at ∙ get_same memory f.home.sector s below ∙ sym here ∙ ap (slice_get sectors) (sym at)
          | inr other ↦ get_other memory f.home.sector k s other
              ∙ m.clean k (λ j g g_has dirty q. elim (cases_eq j i) [
                | inl also ↦ other (sym q ∙ ap (λ (x : Frame). x.home.sector) (same_frame_at j i g f also g_has has))
                | inr apart ↦ frees i k None free j g apart g_has dirty q
              ])
        ];
      }

  relabelled : (k : ℕ) (old new : Sector) → slice_get sectors k ≡ Some old → ((i : ℕ) (f : Frame) → Has slots i f → f.home.sector ≢ k) → IsMerged (slice_set sectors k new) slots (slice_set memory k new)
  relabelled k old new was free =
      let here = m.clean k (λ i f has dirty. free i f has) in
      record {
        labels = map-set (λ (s : Sector). s.0) memory k new ∙ ap (λ (ls : List Label). slice_set ls k new.0) m.labels ∙ sym (map-set (λ (s : Sector). s.0) sectors k new);
        frames = λ i f has. let home = m.frames i f has in record { label = home.label; keeps = get_other memory k f.home.sector new (free i f has) ∙ home.keeps; named = home.named };
        clean = λ n clean_n. elim (cases_eq n k) [
          | inl at ↦ ap (slice_get (slice_set memory k new)) at ∙ get_same memory k new (below_of memory k old (here ∙ was)) ∙ sym (get_same sectors k new (below_of sectors k old was)) ∙ ap (slice_get (slice_set sectors k new)) (sym at)
          | inr other ↦ get_other memory k n new other ∙ m.clean n clean_n ∙ sym (get_other sectors k n new other)
        ];
      }

pub move_laws : (sectors : List Sector) (slots : Slots) (memory : List Sector) → MoveLaws sectors slots memory
move_laws sectors slots memory = record {
  cleared = λ i below none m. cleared sectors slots memory m i below none;
  put = λ i home label bytes below empty nowhere here named m. put sectors slots memory m i home label bytes below empty nowhere here named;
  written_out = λ i f has m. written_out sectors slots memory m i f has;
  cleaned = λ i f has same m. cleaned sectors slots memory m i f has same;
  changed = λ i f s at bytes has distinct here m. changed_bytes sectors slots memory m i f s at bytes has distinct here;
  dropped = λ i f s has distinct here m. dropped sectors slots memory m i f s has distinct here;
  relabelled = λ k old new was free m. relabelled sectors slots memory m k old new was free;
}
