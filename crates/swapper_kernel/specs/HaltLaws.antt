-- Causes of a halt, and the homes that frames had, over calls in a row.
use Rattle.std.specs.Prelude.{◌≡◌, ◌≤◌, ℕ, not, Bool, true, false, if◌then◌else◌, List, [], ◌∷◌, filter, Option, Some, None, slice_get, slice_set, option_map}
use Rattle.std.specs.Option.{option_map_or}
use Rattle.std.proofs.Common.{refl, sym, ◌∙◌, ap, inl, inr, arith}
use Rattle.std.proofs.lemmas.Option.{none-some, slice_get-map}
use Rattle.labelled_disk.specs.declared.label.Label.{Label}
use Rattle.labelled_disk.specs.declared.label.Wanted.{Wanted}
use Rattle.labelled_disk.specs.declared.disk.DiskWrite.{DiskWrite}
use Rattle.labelled_disk.specs.declared.disk.DiskWrite.TheVariants as write
use Rattle.labelled_disk.specs.declared.evidence.Evidence.{Evidence}
use Rattle.labelled_disk.specs.declared.evidence.Evidence.TheVariants.{Mismatch, Malformed, Missing}
use Rattle.labelled_disk.specs.declared.evidence.Halt.{Halt}
use Rattle.labelled_disk.specs.declared.evidence.Halt.TheVariants.{Disk, Damaged}
use Rattle.labelled_disk.specs.Calls.{Rose}
use Rattle.labelled_disk.specs.Label.{names}
use Rattle.labelled_disk.specs.CrashState.{written}
use Rattle.labelled_disk.specs.Sectors.{Sector}
use Rattle.labelled_disk.specs.State.{DiskState, HasLabel}
use Rattle.labelled_disk.specs.WriteRuns.{after_writes}
use Rattle.frame_pool.specs.declared.home.Home.{Home}
use Rattle.frame_pool.specs.Frames.{Slots, Frame, Has}
use Rattle.swapper_kernel.specs.Homes.{Homes, Brings}
use Rattle.swapper_kernel.specs.Stands.{labels_of}
use Rattle.swapper_kernel.specs.Goes.{Pages, Wrote, Went, is_page_write, no_page}
use Rattle.swapper_kernel.specs.GoesLaws.{went_itself, wrote_none}
use Rattle.swapper_kernel.specs.DiffersLaws.{set_labels}
use Rattle.swapper_kernel.specs.Halts.{IsMismatch, Halts, held_or}

-- a page that is written leaves the labels
tested : (sectors : List Sector) (sector : ℕ) (wanted : Wanted) (bytes : List ℕ) (old : Sector) (b : Bool) → slice_get sectors sector ≡ Some old
    → labels_of (if b then slice_set sectors sector (old.0, bytes) else sectors) ≡ labels_of sectors
tested sectors sector wanted bytes old true here = set_labels sectors sector old bytes here
tested sectors sector wanted bytes old false here = refl

page_written : (sectors : List Sector) (sector : ℕ) (wanted : Wanted) (bytes : List ℕ) (o : Option Sector) → slice_get sectors sector ≡ o
    → labels_of (option_map_or (λ (old : Sector). if names old.0 wanted then slice_set sectors sector (old.0, bytes) else sectors) o sectors) ≡ labels_of sectors
page_written sectors sector wanted bytes None here = refl
page_written sectors sector wanted bytes (Some old) here = tested sectors sector wanted bytes old (names old.0 wanted) here

-- writes of pages alone leave the labels
pub pages_written : (writes : List DiskWrite) (sectors : List Sector) → filter (λ w. not (is_page_write w)) writes ≡ [] → labels_of (after_writes writes sectors) ≡ labels_of sectors
pages_written [] sectors none = refl
pages_written (write.Whole sector label bytes ∷ writes) sectors none = absurd (none-some (write.Whole sector label bytes) (sym (ap (λ (l : List DiskWrite). slice_get l 0) none)))
pages_written (write.LabelOnly sector label ∷ writes) sectors none = absurd (none-some (write.LabelOnly sector label) (sym (ap (λ (l : List DiskWrite). slice_get l 0) none)))
pages_written (write.Page sector wanted bytes ∷ writes) sectors none =
    pages_written writes (written (write.Page sector wanted bytes) sectors) none ∙ page_written sectors sector wanted bytes (slice_get sectors sector) refl

-- a label that stands after writes of pages stood before them
pub label_before : {pages : Pages} {a b : DiskState} {s : Slots} → Wrote pages [] a s b → (sector : ℕ) (label : Label) → HasLabel b sector label → HasLabel a sector label
label_before wrote sector label there d revealed =
    let now = after_writes wrote.writes d in
    let after = there now (wrote.appended.contents ∙ ap (option_map (after_writes wrote.writes)) revealed) in
    sym (slice_get-map (λ (x : Sector). x.0) d sector) ∙ ap (λ (l : List Label). slice_get l sector) (sym (pages_written wrote.writes d wrote.labels)) ∙ slice_get-map (λ (x : Sector). x.0) now sector ∙ after

pub rose_wider : (a b c d : ℕ) → a ≤ b → c ≤ d → Rose b c → Rose a d
rose_wider a b c d first last rose = omega (arith, first, last, rose)

pub brings_itself : (come : Homes) (s : Slots) → Brings come s s
brings_itself come s = record { homes = λ home held. inl held }

pub brings_then : {come : Homes} {s t u : Slots} → Brings come s t → Brings come t u → Brings come s u
brings_then h k = record { homes = λ home held. elim (k.homes home held) [ inl was ↦ h.homes home was | inr new ↦ inr new ] }

pub brings_wider : {come : Homes} (more : Homes) {s t : Slots} → ((home : Home) → come home → more home) → Brings come s t → Brings more s t
brings_wider more all h = record { homes = λ home held. elim (h.homes home held) [ inl was ↦ inl was | inr new ↦ inr (all home new) ] }

-- A halt that comes after swapping, in a call to which more homes were given.
mismatch_later : {pages : Pages} (given more : Homes) {a b : DiskState} {s t : Slots} → ((home : Home) → given home → more home) → Wrote pages [] a s b → Brings more s t
    → (e : Evidence) → IsMismatch (held_or t given) b e → IsMismatch (held_or s more) a e
mismatch_later given more all wrote brings (Mismatch sector wanted found) is = record {
  there = label_before wrote sector found is.there;
  other = is.other;
  reason = elim is.reason [ inl held ↦ brings.homes _ held | inr new ↦ inr (all _ new) ];
}
mismatch_later given more all wrote brings (Malformed structure page) is = is
mismatch_later given more all wrote brings (Missing id page) is = is

pub halts_later : {pages : Pages} (given more : Homes) {a b c d : DiskState} {s t : Slots} → ((home : Home) → given home → more home) → Went a b → Wrote pages [] a s b → Brings more s t → Went c d
    → (halt : Halt) → Halts given b t c halt → Halts more a s d halt
halts_later given more all first wrote brings last Disk is = rose_wider _ _ _ _ first.faults last.faults is
halts_later given more all first wrote brings last (Damaged e) is = mismatch_later given more all wrote brings e is

-- more homes may be given
pub halts_wider : (given more : Homes) (a b : DiskState) (s : Slots) → ((home : Home) → given home → more home) → (halt : Halt) → Halts given a s b halt → Halts more a s b halt
halts_wider given more a b s all halt is = halts_later given more all (went_itself a) (wrote_none no_page s (record { contents = refl; writes = refl })) (brings_itself more s) (went_itself b) halt is

-- frames whose homes were there
pub brings_same : (come : Homes) {s t : Slots} → ((i : ℕ) (f : Frame) → Has t i f → (g : Frame) × Has s i g × (g.home ≡ f.home) × (g.bytes ≡ f.bytes)) → Brings come s t
brings_same come each = record {
  homes = λ home held.
      let was = each held.slot held.frame held.has in
      inl (record { slot = held.slot; frame = was.0; has = was.1; at = was.2 ∙ held.at });
}
