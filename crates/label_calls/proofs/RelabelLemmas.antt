-- A label that was read, and one that was written over it.
use Rattle.std.proofs.Common.{◌≡◌, ◌⊎◌, inl, inr, ℕ, ◌≤◌, ◌<◌, ◌^◌, ◌+◌, true, List, [], ◌∷◌, ◌++◌, length, Option, Some, None, refl, sym, ◌∙◌, ap, subst, arith}
use Rattle.std.specs.Prelude.{slice_get, option_map, All}
use Rattle.std.proofs.lemmas.Bool.Decides.{nat_tests}
use Rattle.std.proofs.lemmas.List.Elements.{All-replicate}
use Rattle.std.proofs.lemmas.Option.{same_Some, none-some}
use Rattle.labelled_disk.specs.declared.label.Label.{Label}
use Rattle.labelled_disk.specs.declared.disk.DiskWrite.{DiskWrite}
use Rattle.labelled_disk.specs.declared.disk.DiskWrite.TheVariants as write
use Rattle.labelled_disk.specs.declared.layout.Layout.{Layout}
use Rattle.labelled_disk.specs.Layout.{first_data, vam, vfm}
use Rattle.labelled_disk.specs.Label.{is_free, names, leader_page}
use Rattle.labelled_disk.specs.declared.label.Wanted.{Wanted}
use Rattle.labelled_disk.specs.CrashState.{written}
use Rattle.labelled_disk.specs.Permitted.{Permitted, IsNextLabel}
use Rattle.labelled_disk.specs.Runs.{IsWriteInForm, zero_bytes}
use Rattle.labelled_disk.specs.Sectors.{Sector, IsSector, free_label}
use Rattle.labelled_disk.specs.State.{DiskState, HasLabel}
use Rattle.labelled_disk.specs.Calls.{RevealsSame, RevealsWrite, Moves}
use Rattle.labelled_disk.specs.WriteLaws.{HasData}
use Rattle.labelled_disk.proofs.WriteRunLemmas.{appended_one, appended_then, appended_none}
use Rattle.frame_pool.specs.Frames.{Slots}
use Rattle.swapper_kernel.specs.Goes.{Change, Goes, Makes, Same, Swaps, Went, no_page}
use Rattle.swapper_kernel.specs.GoesLaws.{goes_then, makes_then, wrote_none}
use Rattle.swapper_kernel.specs.Homes.{IsLayout}
use Rattle.swapper_kernel.specs.DiffersLaws.{other_sector}
use Rattle.swapper_kernel.specs.Stands.{Stands}
use Rattle.swapper_kernel.specs.StepLaws.{IsLabelled}
use Rattle.swapper_kernel.proofs.BesideLemmas.{label_written, beside_frames}
use Rattle.label_calls.specs.declared.page.Mark.{Mark}
use Rattle.label_calls.specs.declared.page.Mark.TheVariants.{Permanent, Immutable}
use Rattle.label_calls.specs.Labels.{Labels, free_ones, ones_of, with_mark, IsFresh, HasOne, Relabels, MayHaveWritten}

-- the sector of a label that was read
label_there : (o : Option Sector) (label : Label) → option_map (λ s. s.0) o ≡ Some label → (s : Sector) × (o ≡ Some s) × (s.0 ≡ label)
label_there None label is = absurd (none-some label is)
label_there (Some s) label is = (s, refl, same_Some s.0 label is)

-- the label that the memory has is the disk's
pub in_memory : (labels : Labels) (disk : DiskState) (slots : Slots) (sector : ℕ) (found : Label) (m : List Sector) → HasLabel disk sector found → Stands disk slots m → HasOne labels m sector → labels found
in_memory labels disk slots sector found m there stands one =
    let on_disk = other_sector stands.sectors m stands.merged.labels sector one.0 one.1 in
    let is = label_there (slice_get stands.sectors sector) found (there stands.sectors stands.revealed) in
    let same : on_disk.0 ≡ is.0 = same_Some on_disk.0 is.0 (sym on_disk.1 ∙ is.1) in
    subst labels (sym on_disk.2 ∙ ap (λ (s : Sector). s.0) same ∙ is.2) one.2

-- a call that wrote nothing
pub same_swaps : {old mid : DiskState} (slots : Slots) → RevealsSame old mid → Went old mid → Swaps old slots mid slots
same_swaps slots same went = record {
  makes = record { went = went; dirty = λ id page is. inl is; wrote = wrote_none no_page slots same; count = refl };
  memory = λ m stands. (m, record { sectors = stands.sectors; revealed = same.contents ∙ stands.revealed; merged = stands.merged }, refl);
}

-- the disk right after a write, before it was synced
abbrev made_by : DiskState → DiskState → DiskState
made_by mid new = record {
  sectors = mid.sectors;
  contents = new.contents;
  writes = new.writes;
  syncs = mid.syncs;
  transfers = mid.transfers;
  faults = mid.faults;
  synced = mid.synced;
  lent = mid.lent;
}

moves_by : (mid new : DiskState) → Moves mid (made_by mid new)
moves_by mid new = record { sectors = refl; lent = refl; syncs = refl; transfers = record { later = omega arith; by_one = omega arith }; faults = omega arith }

then_synced : (mid new : DiskState) (slots : Slots) → Went mid new → Swaps (made_by mid new) slots new slots
then_synced mid new slots went = same_swaps slots (record { contents = refl; writes = refl })
    (record { sectors = went.sectors; lent = went.lent; syncs = went.syncs; faults = went.faults; transfers = went.transfers })

append_none : (run : List DiskWrite) → run ++ [] ≡ run
append_none [] = refl
append_none (w ∷ run) = ap (λ (l : List DiskWrite). w ∷ l) (append_none run)

-- a call that wrote nothing after another
then_quiet : {run : List DiskWrite} {a b c : DiskState} {s t u : Slots} → Makes no_page run a s b t → Makes no_page [] b t c u → Makes no_page run a s c u
then_quiet {run = run} {a = a} {c = c} {s = s} {u = u} first next = subst (λ (l : List DiskWrite). Makes no_page l a s c u) (append_none run) (makes_then first next)

goes_quiet : {P : Change} {run : List DiskWrite} {a b c : DiskState} {s t u : Slots} → Goes P no_page run a s b t → Swaps b t c u → Goes P no_page run a s c u
goes_quiet {P = P} {run = run} {a = a} {c = c} {s = s} {u = u} first next =
    subst (λ (l : List DiskWrite). Goes P no_page l a s c u) (append_none run) (goes_then P Same P (λ m n o made stays. subst (P m) (sym stays) made) first next)

module _ (old mid : DiskState) (slots : Slots) (sector : ℕ) (found : Label) (there : HasLabel old sector found) (same : RevealsSame old mid) (read : Went old mid) where
  pub was_read : Swaps old slots mid slots
  was_read = same_swaps slots same read

  -- where the label was one of these, the disk has such a one
  pub had_one : (labels : Labels) → labels found → (d : List Sector) → old.contents ≡ Some d → HasOne labels d sector
  had_one labels is d revealed = let s = label_there (slice_get d sector) found (there d revealed) in (s.0, s.1, subst labels (sym s.2) is)

  module _ (new : DiskState) (w : DiskWrite) (is : IsLabelled w sector) (form : IsWriteInForm w) (moves : Went mid new)
      (permitted : (d : List Sector) → old.contents ≡ Some d → (s : Sector) → slice_get d sector ≡ Some s → s.0 ≡ found → Permitted d w) where
    law : (d : List Sector) → mid.contents ≡ Some d → Permitted d w
    law d revealed =
        let before : old.contents ≡ Some d = sym same.contents ∙ revealed in
        let s = label_there (slice_get d sector) found (there d before) in
        permitted d before s.0 s.1 s.2

    makes : RevealsWrite w mid new → Makes no_page (w ∷ []) old slots new slots
    makes made = makes_then was_read.makes
        (then_quiet (label_written mid (made_by mid new) slots w sector is form (record { contents = made.contents; writes = made.writes }) (moves_by mid new) law) (then_synced mid new slots moves).makes)

    pub relabels : (labels : Labels) → labels found → RevealsWrite w mid new → Relabels labels sector w old slots new
    relabels labels one made = record {
      found = had_one labels one;
      appended = appended_then [] (w ∷ []) (appended_none same) (appended_one w made);
      makes = makes made;
      goes = λ free. goes_then Same (λ m n. n ≡ written w m) (λ m n. n ≡ written w m) (λ m n o stays now. now ∙ ap (written w) stays) was_read
          (goes_quiet (beside_frames mid (made_by mid new) slots w sector is form (record { contents = made.contents; writes = made.writes }) (moves_by mid new) (λ d revealed. (law d revealed, let s = label_there (slice_get d sector) found (there d (sym same.contents ∙ revealed)) in (s.0, s.1))) free)
          (then_synced mid new slots moves));
    }

    pub may_have : RevealsSame mid new ⊎ RevealsWrite w mid new → MayHaveWritten w old slots new
    may_have (inl nothing) = inl (makes_then was_read.makes (same_swaps slots nothing moves).makes)
    may_have (inr made) = inr (makes made)

-- a sector after the layout's first data sector is one of the disk's
from_first : (layout : Layout) (n sector : ℕ) → IsLayout layout → n ≡ layout.sectors → layout.first ≤ sector → first_data n ≤ sector
unfolding first_data
from_first layout n sector is long after =
    let first : layout.first ≡ 1 + vam n + vfm n = ap (λ (l : Layout). l.first) is.1 ∙ ap (λ (k : ℕ). 1 + vam k + vfm k) (sym long) in
    subst (λ (k : ℕ). k ≤ sector) first after

module _ (layout : Layout) (d : List Sector) (sector : ℕ) (s : Sector) (is : IsLayout layout) (long : length d ≡ layout.sectors) (after : layout.first ≤ sector) (here : slice_get d sector ≡ Some s) where
  there_is : HasData d sector s
  there_is = record { is_data = from_first layout (length d) sector is long after; here = here }

  -- the labels that a page may be made with are permitted over a free one
  pub fresh_is_permitted : (label : Label) → IsFresh label → is_free s.0 ≡ true → Permitted d (write.Whole sector label zero_bytes)
  unfolding zero_bytes
  fresh_is_permitted label fresh free = inr (record { old = (s, there_is, free); of_file = fresh.of_file; no_flags = fresh.no_flags; zero_page = refl })

  -- a free label, and a leader's mark, over that of a page
  pub next_is_permitted : (label : Label) → (s.0.id ≡ 3) ⊎ (16 ≤ s.0.id) → IsNextLabel s.0 label → Permitted d (write.LabelOnly sector label)
  next_is_permitted label of_file next = record { old = (s, there_is, of_file, next) }

-- a label that names a page has its file and its number
page_of : (label : Label) (wanted : Wanted) → names label wanted ≡ true → label.page ≡ wanted.page
page_of label wanted named = grind (arith, nat_tests)

of_wanted : (wanted : Wanted) (label : Label) → (wanted.id ≡ 3) ⊎ (16 ≤ wanted.id) → names label wanted ≡ true → (label.id ≡ 3) ⊎ (16 ≤ label.id)
of_wanted wanted label of_file named =
    let same : label.id ≡ wanted.id = grind (arith, nat_tests) in
    subst (λ (k : ℕ). (k ≡ 3) ⊎ (16 ≤ k)) (sym same) of_file

-- a leader's label with a mark more may follow
next_mark : (mark : Mark) (label found : Label) → label ≡ found → found.page ≡ leader_page → IsNextLabel label (with_mark mark found)
next_mark Permanent label found same page = subst (λ (l : Label). IsNextLabel l (with_mark Permanent found)) (sym same) (inr (page, inl refl))
next_mark Immutable label found same page = subst (λ (l : Label). IsNextLabel l (with_mark Immutable found)) (sym same) (inr (page, inr refl))

-- a free label may stand over any page
free_in_form : (page : List ℕ) → length page ≡ 512 → All (λ b. b < 256) page → IsSector (free_label, page)
free_in_form page whole bytes = record { id_fits = omega arith; page_fits = omega arith; kind_fits = omega arith; flags_fit = omega arith; last_fits = omega arith; whole_page = whole; bytes = bytes }

-- a label in form, with a page of zeros
pub fresh_in_form : (label : Label) → label.id < 2 ^ 64 → label.page < 2 ^ 32 → label.kind < 2 ^ 16 → label.flags < 256 → label.last < 256 → IsSector (label, zero_bytes)
unfolding zero_bytes
fresh_in_form label id page kind flags last = record {
  id_fits = id;
  page_fits = page;
  kind_fits = kind;
  flags_fit = flags;
  last_fits = last;
  whole_page = refl;
  bytes = All-replicate (λ b. b < 256) 512 0 (omega arith);
}

-- what a write makes of a label that was read, once it was made, and where it failed
pub record WriteLaws (labels : Labels) (sector : ℕ) (w : DiskWrite) (old : DiskState) (slots : Slots) (mid new : DiskState) : Type 0 where
  pub made : RevealsWrite w mid new → Relabels labels sector w old slots new
  pub stopped : RevealsSame mid new ⊎ RevealsWrite w mid new → MayHaveWritten w old slots new

module _ (layout : Layout) (old mid new : DiskState) (slots : Slots) (sector : ℕ) (found : Label) (is : IsLayout layout) (long : (d : List Sector) → old.contents ≡ Some d → length d ≡ layout.sectors)
    (after : layout.first ≤ sector) (there : HasLabel old sector found) (same : RevealsSame old mid) (read : Went old mid) (moves : Went mid new) where
  pub fresh_laws : (label : Label) → IsFresh label → IsSector (label, zero_bytes) → is_free found ≡ true → WriteLaws free_ones sector (write.Whole sector label zero_bytes) old slots mid new
  fresh_laws label fresh form free =
      let law = λ (d : List Sector) (revealed : old.contents ≡ Some d) (s : Sector) (here : slice_get d sector ≡ Some s) (at : s.0 ≡ found).
      fresh_is_permitted layout d sector s is (long d revealed) after here label fresh (ap is_free at ∙ free) in
      record {
        made = λ made. relabels old mid slots sector found there same read new (write.Whole sector label zero_bytes) refl form moves law free_ones free made;
        stopped = λ either. may_have old mid slots sector found there same read new (write.Whole sector label zero_bytes) refl form moves law either;
      }

  pub freed_laws : (wanted : Wanted) → (wanted.id ≡ 3) ⊎ (16 ≤ wanted.id) → names found wanted ≡ true → WriteLaws (ones_of wanted) sector (write.LabelOnly sector free_label) old slots mid new
  freed_laws wanted of_file named =
      let law = λ (d : List Sector) (revealed : old.contents ≡ Some d) (s : Sector) (here : slice_get d sector ≡ Some s) (at : s.0 ≡ found).
      next_is_permitted layout d sector s is (long d revealed) after here free_label (of_wanted wanted s.0 of_file (ap (λ (l : Label). names l wanted) at ∙ named)) (inl refl) in
      record {
        made = λ made. relabels old mid slots sector found there same read new (write.LabelOnly sector free_label) refl free_in_form moves law (ones_of wanted) named made;
        stopped = λ either. may_have old mid slots sector found there same read new (write.LabelOnly sector free_label) refl free_in_form moves law either;
      }

  pub marked_laws : (mark : Mark) (id : ℕ) → 16 ≤ id → IsSector (with_mark mark found, zero_bytes) → names found (record { id = id; page = leader_page }) ≡ true
      → WriteLaws (λ l. (l ≡ found) × ones_of (record { id = id; page = leader_page }) l) sector (write.LabelOnly sector (with_mark mark found)) old slots mid new
  marked_laws mark id some form named =
      let wanted : Wanted = record { id = id; page = leader_page } in
      let law = λ (d : List Sector) (revealed : old.contents ≡ Some d) (s : Sector) (here : slice_get d sector ≡ Some s) (at : s.0 ≡ found).
      next_is_permitted layout d sector s is (long d revealed) after here (with_mark mark found) (of_wanted wanted s.0 (inr some) (ap (λ (l : Label). names l wanted) at ∙ named)) (next_mark mark s.0 found at (page_of found wanted named)) in
      let in_form : IsWriteInForm (write.LabelOnly sector (with_mark mark found)) = λ page whole bytes. record { id_fits = form.id_fits; page_fits = form.page_fits; kind_fits = form.kind_fits; flags_fit = form.flags_fit; last_fits = form.last_fits; whole_page = whole; bytes = bytes } in
      record {
        made = λ made. relabels old mid slots sector found there same read new (write.LabelOnly sector (with_mark mark found)) refl in_form moves law (λ l. (l ≡ found) × ones_of wanted l) (refl, named) made;
        stopped = λ either. may_have old mid slots sector found there same read new (write.LabelOnly sector (with_mark mark found)) refl in_form moves law either;
      }
