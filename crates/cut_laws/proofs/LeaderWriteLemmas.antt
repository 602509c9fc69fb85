-- Which writes change a permanent file's leader.
use Rattle.std.proofs.Common.{◌≡◌, ◌≢◌, ◌⊎◌, inl, inr, ℕ, ◌≤◌, Bool, true, false, ◌&&◌, ◌||◌, List, [], length, Some, refl, sym, ◌∙◌, ap, arith, eqb, bit_or}
use Rattle.std.specs.Prelude.{slice_get}
use Rattle.std.proofs.lemmas.Bool.{and_from, and_parts, true≢false}
use Rattle.std.proofs.lemmas.Option.{same_Some}
use Rattle.labelled_disk.specs.declared.label.Label.{Label}
use Rattle.labelled_disk.specs.declared.label.Wanted.{Wanted}
use Rattle.labelled_disk.specs.declared.disk.DiskWrite.{DiskWrite}
use Rattle.labelled_disk.specs.declared.disk.DiskWrite.TheVariants.{Whole, LabelOnly, Page}
use Rattle.labelled_disk.specs.CrashState.{written}
use Rattle.labelled_disk.specs.FilesOn.{leads_file}
use Rattle.labelled_disk.specs.Label.{is_file, is_free, is_permanent, leader_page}
use Rattle.labelled_disk.specs.Layout.{data_sectors, first_data}
use Rattle.labelled_disk.specs.Permitted.{IsNextLabel, Permitted}
use Rattle.labelled_disk.specs.Marks.{has_permanent}
use Rattle.labelled_disk.specs.Runs.{sector_of}
use Rattle.labelled_disk.specs.Sectors.{Sector, free_label}
use Rattle.labelled_disk.proofs.SectorWrites as w
use Rattle.labelled_disk.proofs.WriteLemmas as laws
use Rattle.label_laws.proofs.FileLemmas.{marks_are_added}
use Rattle.label_laws.proofs.MixedLemmas.{written_long}
use Rattle.cut_laws.specs.LeaderWrites.{KeepsLeader, LeadersChangeByLabels, WritesLeader}
use Rattle.cut_laws.proofs.PairLemmas.{Alike, leader_pairs}
use Rattle.cut_laws.proofs.SteadyLemmas.{data_pairs, not_of-not_leader}
use Rattle.cut_laws.proofs.StayLemmas.{free_fails}
use Rattle.cut_laws.proofs.TurnLemmas.{Turn, stays, bytes, fresh, freed, marked, turn}

abbrev kind_of : DiskWrite → ℕ
kind_of (Whole sector label page) = 0
kind_of (LabelOnly sector label) = 1
kind_of (Page sector wanted page) = 2

abbrev label_in : Label → DiskWrite → Label
label_in other (Whole sector label page) = label
label_in other (LabelOnly sector label) = label
label_in other (Page sector wanted page) = other

-- what a leader of a permanent file is
pub record Leads (id : ℕ) (l : Label) : Type 0 where
  pub file : is_file l ≡ true
  pub page : eqb l.page leader_page ≡ true
  pub permanent : is_permanent l ≡ true
  pub own : eqb l.id id ≡ true

pub leads : (id : ℕ) (s : Sector) → leads_file false id s ≡ true → Leads id s.0
leads id s is =
    let a = and_parts (is_file s.0 && eqb s.0.page leader_page && (false || is_permanent s.0)) (eqb s.0.id id) is in
    let b = and_parts (is_file s.0 && eqb s.0.page leader_page) (false || is_permanent s.0) a.0 in
    let c = and_parts (is_file s.0) (eqb s.0.page leader_page) b.0 in
    record { file = c.0; page = c.1; permanent = b.1; own = a.1 }

leads_from : (id : ℕ) (s : Sector) → Leads id s.0 → leads_file false id s ≡ true
leads_from id s has =
    and_from (is_file s.0 && eqb s.0.page leader_page && is_permanent s.0) (eqb s.0.id id)
    (and_from (is_file s.0 && eqb s.0.page leader_page) (is_permanent s.0) (and_from (is_file s.0) (eqb s.0.page leader_page) has.file has.page) has.permanent) has.own

-- with a mark more it leads the file still
marked_leads : (id : ℕ) (l : Label) (page : List ℕ) (new : Label) → leads_file false id (l, page) ≡ true → (new ≡ record l { flags = bit_or l.flags 1 }) ⊎ (new ≡ record l { flags = bit_or l.flags 2 }) → leads_file false id (new, page) ≡ true
marked_leads id l page new is (inl permanent) =
    let old = leads id (l, page) is in
    let m = marks_are_added l old.file in
    ap (λ (x : Label). leads_file false id (x, page)) permanent ∙ leads_from id (record l { flags = bit_or l.flags 1 }, page) (record { file = m.file; page = old.page; permanent = m.is_now_permanent; own = old.own })
marked_leads id l page new is (inr immutable) =
    let old = leads id (l, page) is in
    let m = marks_are_added l old.file in
    ap (λ (x : Label). leads_file false id (x, page)) immutable ∙ leads_from id (record l { flags = bit_or l.flags 2 }, page) (record { file = m.file_too; page = old.page; permanent = m.permanent_as_before ∙ old.permanent; own = old.own })

module _ (now : List Sector) (id : ℕ) where
  abbrev Same : Sector → Sector → Type 0
  Same s t = Alike (λ l. leads_file false id (l, [])) s.0 t.0

  keeps : (write : DiskWrite) → ((i : ℕ) (s t : Sector) → first_data (length now) ≤ i → slice_get now i ≡ Some s → slice_get (written write now) i ≡ Some t → Same s t) → KeepsLeader id now write
  keeps write each = leader_pairs false id (data_sectors now) (data_sectors (written write now)) (data_pairs Same now (written write now) (written_long now write) each)

  free_leads : (l : Label) → is_free l ≡ true → leads_file false id (l, []) ≡ false
  free_leads l free = not_of-not_leader false id l (free_fails id l free)

  -- a label without flags is that of no permanent file's leader
  no_flags : (l : Label) → l.flags ≡ 0 → leads_file false id (l, []) ≡ false
  no_flags l none = either (leads_file false id (l, [])) refl
    where
      either : (b : Bool) → leads_file false id (l, []) ≡ b → leads_file false id (l, []) ≡ false
      either false is = is
      either true is = absurd (true≢false (sym (leads id (l, []) is).permanent ∙ ap has_permanent none))

  -- a write of one kind is none of another
  whole_only : {A : Type 0} (sector i : ℕ) (label new : Label) (page : List ℕ) → Whole sector label page ≡ LabelOnly i new → A
  whole_only sector i label new page is = absurd (omega (arith, ap kind_of is))

  label_only : {A : Type 0} (sector i : ℕ) (label new : Label) (page : List ℕ) → LabelOnly sector label ≡ Whole i new page → A
  label_only sector i label new page is = absurd (omega (arith, ap kind_of is))

  page_whole : {A : Type 0} (sector i : ℕ) (wanted : Wanted) (new : Label) (page other : List ℕ) → Page sector wanted page ≡ Whole i new other → A
  page_whole sector i wanted new page other is = absurd (omega (arith, ap kind_of is))

  page_label : {A : Type 0} (sector i : ℕ) (wanted : Wanted) (new : Label) (page : List ℕ) → Page sector wanted page ≡ LabelOnly i new → A
  page_label sector i wanted new page is = absurd (omega (arith, ap kind_of is))

  by_whole : (sector : ℕ) (label : Label) (page : List ℕ) → Permitted now (Whole sector label page) → (i : ℕ) (s t : Sector) → first_data (length now) ≤ i → Turn (Whole sector label page) i s t → Same s t
  by_whole sector label page permitted i s t low (stays e) = inl (ap (λ (v : Sector). v.0) (sym e))
  by_whole sector label page permitted i s t low (bytes wanted eq named same) = inl (sym same)
  by_whole sector label page (inl root) i s t low (fresh eq free taken zeros) = absurd (omega (arith, ap sector_of eq, root.place, low, laws.first_positive true 0 0 (length now)))
  by_whole sector label page (inr new) i s t low (fresh eq free taken zeros) = inr (free_leads s.0 free, no_flags t.0 (ap (λ (l : Label). l.flags) (sym (ap (label_in label) eq)) ∙ new.no_flags))
  by_whole sector label page permitted i s t low (freed eq new) = whole_only sector i label free_label page eq
  by_whole sector label page permitted i s t low (marked eq same old new zeros) = whole_only sector i label t.0 page eq

  by_page : (sector : ℕ) (wanted : Wanted) (page : List ℕ) (i : ℕ) (s t : Sector) → Turn (Page sector wanted page) i s t → Same s t
  by_page sector wanted page i s t (stays e) = inl (ap (λ (v : Sector). v.0) (sym e))
  by_page sector wanted page i s t (bytes other eq named same) = inl (sym same)
  by_page sector wanted page i s t (fresh eq free taken zeros) = page_whole sector i wanted t.0 page t.1 eq
  by_page sector wanted page i s t (freed eq new) = page_label sector i wanted free_label page eq
  by_page sector wanted page i s t (marked eq same old new zeros) = page_label sector i wanted t.0 page eq

  -- a label that neither stands over a leader nor is one
  by_label : (sector : ℕ) (label : Label) (old : Sector) → slice_get now sector ≡ Some old → leads_file false id old ≡ false → leads_file false id (label, old.1) ≡ false
      → (i : ℕ) (s t : Sector) → slice_get now i ≡ Some s → Turn (LabelOnly sector label) i s t → Same s t
  by_label sector label old at was is i s t here (stays e) = inl (ap (λ (v : Sector). v.0) (sym e))
  by_label sector label old at was is i s t here (bytes other eq named same) = inl (sym same)
  by_label sector label old at was is i s t here (fresh eq free taken zeros) = label_only sector i label t.0 t.1 eq
  by_label sector label old at was is i s t here (freed eq new) =
      let same : s ≡ old = same_Some s old (sym here ∙ ap (λ (n : ℕ). slice_get now n) (sym (ap sector_of eq)) ∙ at) in
      inr (ap (λ (v : Sector). leads_file false id v) same ∙ was, ap (λ (v : Sector). leads_file false id (v.0, [])) new)
  by_label sector label old at was is i s t here (marked eq same_id page_was page_is bytes_same) =
      let same : s ≡ old = same_Some s old (sym here ∙ ap (λ (n : ℕ). slice_get now n) (sym (ap sector_of eq)) ∙ at) in
      inr (ap (λ (v : Sector). leads_file false id v) same ∙ was, ap (λ (l : Label). leads_file false id (l, [])) (sym (ap (label_in label) eq)) ∙ is)

  label_changes : (sector : ℕ) (label : Label) → Permitted now (LabelOnly sector label) → KeepsLeader id now (LabelOnly sector label) ⊎ WritesLeader id now (LabelOnly sector label)
  label_changes sector label permitted = either (leads_file false id (label, old.1)) refl (leads_file false id old) refl next
    where
      old : Sector
      old = permitted.old.0

      next : IsNextLabel permitted.old.0.0 label
      next = permitted.old.3

      either : (b : Bool) → leads_file false id (label, permitted.old.0.1) ≡ b → (c : Bool) → leads_file false id permitted.old.0 ≡ c → IsNextLabel permitted.old.0.0 label
          → KeepsLeader id now (LabelOnly sector label) ⊎ WritesLeader id now (LabelOnly sector label)
      either true new c was (inl free) = absurd (true≢false (sym new ∙ ap (λ (l : Label). leads_file false id (l, permitted.old.0.1)) free))
      either true new c was (inr mark) = inr (permitted.old.0, permitted.old.1, mark.0, inr new)
      either false not true was (inl free) = inr (permitted.old.0, permitted.old.1, w.leader_number false id permitted.old.0 was, inl (free, was))
      either false not true was (inr mark) = absurd (true≢false (sym (marked_leads id permitted.old.0.0 permitted.old.0.1 label was mark.1) ∙ not))
      either false not false was other =
          inl (keeps (LabelOnly sector label) (λ i s t low here there. by_label sector label permitted.old.0 permitted.old.1.here was not i s t here (turn now (LabelOnly sector label) i s t permitted low here there)))

pub leaders_change : LeadersChangeByLabels
leaders_change now (Whole sector label page) id permitted =
    inl (keeps now id (Whole sector label page) (λ i s t low here there. by_whole now id sector label page permitted i s t low (turn now (Whole sector label page) i s t permitted low here there)))
leaders_change now (LabelOnly sector label) id permitted = label_changes now id sector label permitted
leaders_change now (Page sector wanted page) id permitted =
    inl (keeps now id (Page sector wanted page) (λ i s t low here there. by_page now id sector wanted page i s t (turn now (Page sector wanted page) i s t permitted low here there)))
