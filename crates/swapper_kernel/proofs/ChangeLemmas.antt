-- The bytes of a frame change, or a frame is given up.
use Rattle.std.specs.Prelude.{◌≡◌, ℕ, true, List, [], length, Some, None, slice_get, slice_set}
use Rattle.std.proofs.Common.{refl, sym, ◌∙◌, ap, arith, inl, inr, length-set}
use Rattle.std.proofs.lemmas.Bool.{cases_eq, true≢false}
use Rattle.std.proofs.lemmas.Bool.Decides.{nat_tests}
use Rattle.std.proofs.lemmas.Option.{same_Some, none-some}
use Rattle.labelled_disk.specs.declared.label.Label.{Label}
use Rattle.labelled_disk.specs.Label.{names}
use Rattle.labelled_disk.specs.Sectors.{Sector}
use Rattle.labelled_disk.specs.State.{DiskState}
use Rattle.frame_pool.specs.Frames.{Frame, Slots, Has, HasDistinct, changed}
use Rattle.flat_mem.specs.Memory.{overwritten}
use Rattle.frame_pool.specs.FrameLaws.{has_below, has_set, changed_is}
use Rattle.frame_pool.specs.ListLaws.{get_other}
use Rattle.swapper_kernel.specs.Homes.{Homes, wanted_at}
use Rattle.swapper_kernel.specs.Stands.{labels_of}
use Rattle.swapper_kernel.specs.DiffersLaws.{other_sector, set_labels, names_id, names_page}
use Rattle.swapper_kernel.specs.Goes.{Goes, no_page, this_page}
use Rattle.swapper_kernel.specs.GoesLaws.{makes_nothing, went_itself}
use Rattle.swapper_kernel.specs.Differs.{ChangesAt, Differs, of_run}
use Rattle.swapper_kernel.specs.Steps.{Steps}
use Rattle.swapper_kernel.specs.CourseLaws.{steps_altered}
use Rattle.swapper_kernel.proofs.MoveLemmas.{move_laws}

module _ (disk : DiskState) (slots after : Slots) (i : ℕ) (f : Frame) (at : ℕ) (bytes : List ℕ) (has : Has slots i f) (distinct : HasDistinct slots) (is : after ≡ slice_set slots i (Some (changed f at bytes))) where
  -- the memory changes at the frame's home
  pub frame_changes : Goes (ChangesAt f.home at bytes) (this_page f.home.id f.home.page) [] disk slots disk after
  frame_changes = record {
    makes = record {
      went = went_itself disk;
      dirty = λ id page d.
          let now : Has (slice_set slots i (Some (changed f at bytes))) d.slot d.frame = record { is = ap (λ (l : Slots). slice_get l d.slot) (sym is) ∙ d.has.is } in
          elim (has_set slots i d.slot (Some (changed f at bytes)) d.frame (has_below slots i f has) now) [
            | inl (_, own) ↦
                let same : changed f at bytes ≡ d.frame = same_Some (changed f at bytes) d.frame own in
                inr (sym d.same_id ∙ ap (λ (g : Frame). g.home.id) (sym same), sym d.same_page ∙ ap (λ (g : Frame). g.home.page) (sym same))
            | inr (_, was) ↦ inl (record { slot = d.slot; frame = d.frame; has = was; dirty = d.dirty; same_id = d.same_id; same_page = d.same_page })
          ];
      wrote = (makes_nothing (this_page f.home.id f.home.page) disk slots).wrote;
      count = ap (λ (l : Slots). length l) is ∙ length-set slots i (Some (changed f at bytes));
    };
    memory = λ m stands.
        let home = stands.merged.frames i f has in
        let s : Sector = (home.label, f.bytes) in (
          slice_set m f.home.sector (home.label, overwritten f.bytes at bytes),
          record {
            sectors = stands.sectors;
            revealed = stands.revealed;
            merged = rw (is ∙ sym (changed_is slots i f at bytes has)) ((move_laws stands.sectors slots m).changed i f (home.label, f.bytes) at bytes has distinct home.keeps stands.merged);
          },
          record { s = s; here = home.keeps; named = home.named; is = refl },
        );
  }

  pub frame_altered : {come : Homes} → Steps come (λ h. h ≡ f.home) disk slots disk after
  frame_altered = steps_altered slots after i f (changed f at bytes) (record { may = refl; has = has; home = refl; dirty = refl; same = record { contents = refl; writes = refl }; is = is })

-- whether a label that names the page is one of the run of this page alone
in_run : (l : Label) (id page : ℕ) → l.id ≡ id → l.page ≡ page → of_run id page 1 0 l ≡ true
in_run l id page ids pages = grind (arith, nat_tests)

-- A frame is given up, dirty or not: the memory may lose its page's bytes.
module _ (disk : DiskState) (slots : Slots) (i : ℕ) (f : Frame) (has : Has slots i f) (distinct : HasDistinct slots) where
  pub frame_dropped : Goes (Differs (of_run f.home.id f.home.page 1)) no_page [] disk slots disk (slice_set slots i None)
  frame_dropped = record {
    makes = record {
      went = went_itself disk;
      dirty = λ id page d. elim (has_set slots i d.slot None d.frame (has_below slots i f has) d.has) [
        | inl (_, empty) ↦ absurd (none-some d.frame empty)
        | inr (_, was) ↦ inl (record { slot = d.slot; frame = d.frame; has = was; dirty = d.dirty; same_id = d.same_id; same_page = d.same_page })
      ];
      wrote = (makes_nothing no_page disk slots).wrote;
      count = length-set slots i None;
    };
    memory = λ m stands.
        let home = stands.merged.frames i f has in
        let d = other_sector stands.sectors m stands.merged.labels f.home.sector (home.label, f.bytes) home.keeps in (
          slice_set m f.home.sector d.0,
          record {
            sectors = stands.sectors;
            revealed = stands.revealed;
            merged = (move_laws stands.sectors slots m).dropped i f d.0 has distinct d.1 stands.merged;
          },
          differs_there m f.home.sector home.label f.bytes d.0 home.keeps d.2 home.named,
        );
  }
    where
      differs_there : (m : List Sector) (k : ℕ) (label : Label) (page : List ℕ) (s : Sector) → slice_get m k ≡ Some (label, page) → s.0 ≡ label → names label (wanted_at f.home) ≡ true
          → Differs (of_run f.home.id f.home.page 1) m (slice_set m k s)
      differs_there m k label page s here same named = record {
        labels = ap (λ (l : Label). labels_of (slice_set m k (l, s.1))) same ∙ set_labels m k (label, page) s.1 here;
        pages = λ j t at fails. elim (cases_eq j k) [
          | inl own ↦
              let is : t ≡ (label, page) = same_Some {A = Sector} t (label, page) (sym at ∙ ap (slice_get m) own ∙ here) in
              let t_label : t.0 ≡ label = ap (λ (x : Sector). x.0) is in
              absurd (true≢false (sym (in_run t.0 f.home.id f.home.page (ap (λ (l : Label). l.id) t_label ∙ names_id label (wanted_at f.home) named) (ap (λ (l : Label). l.page) t_label ∙ names_page label (wanted_at f.home) named)) ∙ fails))
          | inr other ↦ get_other m k j s other ∙ at
        ];
      }
