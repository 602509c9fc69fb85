-- Where pages could not be made since no data sector was left: what is said of it after other calls.
use Rattle.std.proofs.Common.{◌≡◌, inl, inr, ℕ, List, sym, ◌∙◌, ap, subst}
use Rattle.std.proofs.lemmas.Option.{same_Some}
use Rattle.labelled_disk.specs.declared.evidence.Evidence.TheVariants.{Mismatch, Malformed, Missing}
use Rattle.labelled_disk.specs.declared.evidence.Halt.{Halt}
use Rattle.labelled_disk.specs.declared.evidence.Halt.TheVariants.{Disk, Damaged}
use Rattle.labelled_disk.specs.declared.label.Label.{Label}
use Rattle.labelled_disk.specs.declared.layout.Layout.{Layout}
use Rattle.labelled_disk.specs.Label.{is_free}
use Rattle.labelled_disk.specs.Sectors.{Sector}
use Rattle.labelled_disk.specs.State.{DiskState}
use Rattle.frame_pool.specs.Frames.{Slots}
use Rattle.swapper_kernel.specs.Homes.{Brings}
use Rattle.swapper_kernel.specs.Stands.{Stands}
use Rattle.file_manager.specs.Grounds.{IsMapsHome, IsUnframed, HasNoRoom}
use Rattle.file_manager.specs.Taking.{AreOfPages, TakesSectors}
use Rattle.file_manager.proofs.MadeRun.{unframed_still}
use Rattle.file_manager.proofs.TakingLemmas.{taken_then, taken_before, labels_then}
use Rattle.file_manager.specs.Grounds.{CreateHalts}

-- no room for one of these pages, none of which the call before made
module _ {layout : Layout} {id : ℕ} {a b : DiskState} {s t : Slots} (made before wanted : ℕ → Type 0) (of : (page : ℕ) → before page → wanted page) (apart : (page : ℕ) → before page → made page → ⊥) (come : Brings (IsMapsHome layout) s t)
    (since : IsUnframed s 0 → (m : List Sector) → Stands a s m → (n : List Sector) × Stands b t n × (TakesSectors layout id m n × AreOfPages layout id made m n)) where
  pub room_before : (c : DiskState) (u : Slots) → HasNoRoom layout id before b t c u → HasNoRoom layout id wanted a s c u
  room_before c u full none m marks stands bits =
      let now = since none m stands in
      let labels = now.2.0.labels in
      let later = now.2.0.bits marks bits in
      let took = full (unframed_still come none) now.0 later.0 now.1 later.1 in
      record {
        memory = took.memory;
        stands = took.stands;
        labels = labels_then labels took.labels;
        all = λ sector from below free. elim (later.2 sector from) [
          | inl same ↦ taken_before sector from labels (took.all sector from below (same ∙ free))
          | inr (used, taken) ↦ taken_then sector from taken took.labels
        ];
        missing_page = λ other. let page = took.missing_page other in (
          page.0,
          of page.0 page.1,
          λ sector from taken has. elim (labels.each sector taken.was.0 from taken.was.1) [
            | inl same ↦ page.2 sector from (record { was = (same.0, same.1, ap is_free same.2 ∙ taken.was.2); now = taken.now }) has
            | inr earlier ↦
                let own = now.2.1 other sector from earlier in
                elim (took.labels.each sector own.0 from own.1) [
                  | inl again ↦
                      let one : again.0 ≡ has.0 = same_Some again.0 has.0 (sym again.1 ∙ has.1) in
                      let at : own.0.0.page ≡ page.0 = ap (λ (l : Label). l.page) (sym again.2) ∙ ap (λ (x : Sector). x.0.page) one ∙ has.2 in
                      apart page.0 page.1 (subst made at own.2)
                  | inr more ↦ page.2 sector from more has
                ]
          ],
        );
      }

-- where more pages are said to be wanted
more_wanted : (layout : Layout) (id : ℕ) (before wanted : ℕ → Type 0) → ((page : ℕ) → before page → wanted page) → (a b : DiskState) (s t : Slots) → HasNoRoom layout id before a s b t → HasNoRoom layout id wanted a s b t
more_wanted layout id before wanted of a b s t full none m marks stands bits =
    let took = full none m marks stands bits in
    record { memory = took.memory; stands = took.stands; labels = took.labels; all = took.all; missing_page = λ other. let page = took.missing_page other in (page.0, of page.0 page.1, page.2) }

pub create_wider : (layout : Layout) (id : ℕ) (before wanted : ℕ → Type 0) → ((page : ℕ) → before page → wanted page) → (a b : DiskState) (s t : Slots) (halt : Halt) → CreateHalts layout id before a s b t halt → CreateHalts layout id wanted a s b t halt
create_wider layout id before wanted of a b s t Disk is = is
create_wider layout id before wanted of a b s t (Damaged (Mismatch sector label found)) is = is
create_wider layout id before wanted of a b s t (Damaged (Malformed structure page)) is = is
create_wider layout id before wanted of a b s t (Damaged (Missing missing page)) is = (is.0, is.1, more_wanted layout id before wanted of a b s t is.2)
