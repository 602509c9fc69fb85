-- A mark on the leader of a file.
use Rattle.std.proofs.Common.{◌≡◌, ℕ, ◌-◌, Bool, true, ◌&&◌, ◌||◌, List, length, Some, refl, sym, ◌∙◌, ap, subst, eqb, bit_or}
use Rattle.std.specs.Prelude.{slice_get, slice_set}
use Rattle.std.proofs.lemmas.Option.{same_Some}
use Rattle.std.proofs.lemmas.Bool.{and_parts, and_from, or_right}
use Rattle.labelled_disk.specs.declared.label.Label.{Label}
use Rattle.labelled_disk.specs.Label.{is_file, is_permanent, is_immutable, leader_page}
use Rattle.labelled_disk.specs.Sectors.{Sector}
use Rattle.labelled_disk.specs.Layout.{data_sectors, first_data}
use Rattle.labelled_disk.specs.File.{File}
use Rattle.labelled_disk.specs.FilesOn.{is_of, leads, leads_file, disk_file}
use Rattle.labelled_disk.specs.Right.{FilesRight, IsWhole}
use Rattle.labelled_disk.specs.WriteLaws.{HasData, Changed}
use Rattle.labelled_disk.proofs.SectorWrites as w
use Rattle.labelled_disk.proofs.WriteLemmas as laws
use Rattle.labelled_disk.proofs.LowestLemmas as lowest
use Rattle.label_laws.specs.Marks.{MarkLaws, MarksOfFiles, permanent_label, immutable_label}
use Rattle.label_laws.proofs.FileLemmas.{label_written, marks_are_added}

module _ (with_temporary : Bool) (serial counter : ℕ) where
  -- the marks of a file are those of its leader
  marks_of : (d : List Sector) (i : ℕ) (s : Sector) (id : ℕ) (f : File) → FilesRight with_temporary serial counter d → HasData d i s → leads_file with_temporary id s ≡ true → disk_file with_temporary d id ≡ Some f
      → (f.permanent ≡ is_permanent s.0) × (f.immutable ≡ is_immutable s.0)
  marks_of d i s id f right holds led is =
      let revealed = (lowest.files_are_as_revealed with_temporary d).revealed id f is in
      let low = revealed.0.leader in
      let here = laws.data_get with_temporary serial counter d i s holds.is_data holds.here in
      let whole : IsWhole (data_sectors d) f = laws.of_file with_temporary serial counter (IsWhole (data_sectors d)) d right.whole_files id f is in
      let mine : is_of f.id s ≡ true = ap (λ (n : ℕ). is_of n s) revealed.1 ∙ laws.leader_of with_temporary serial counter id s led in
      let theirs : is_of f.id low.1 ≡ true = laws.leader_of with_temporary serial counter f.id low.1 low.2.passes in
      let place : low.0 ≡ i - first_data (length d) =
      whole.once low.0 (i - first_data (length d)) low.1 s low.2.here here theirs mine (w.leader_number with_temporary f.id low.1 low.2.passes ∙ sym (w.leader_number with_temporary id s led)) in
      let same : low.1 ≡ s = same_Some low.1 s (sym low.2.here ∙ ap (λ (j : ℕ). slice_get (data_sectors d) j) place ∙ here) in
      (low.4 ∙ ap (λ (u : Sector). is_permanent u.0) same, low.5 ∙ ap (λ (u : Sector). is_immutable u.0) same)

  -- the label of a leader with a mark more leads
  leads_still : (id : ℕ) (l : Label) (flags : ℕ) (page : List ℕ) → leads_file with_temporary id (l, page) ≡ true → is_file (record l { flags = flags }) ≡ true
      → (with_temporary || is_permanent (record l { flags = flags })) ≡ true → leads_file with_temporary id (record l { flags = flags }, page) ≡ true
  leads_still id l flags page led file mark =
      let p = and_parts (leads with_temporary (l, page)) (eqb l.id id) led in
      let q = and_parts (is_file l && eqb l.page leader_page) (with_temporary || is_permanent l) p.0 in
      let r = and_parts (is_file l) (eqb l.page leader_page) q.0 in
      and_from (leads with_temporary (record l { flags = flags }, page)) (eqb l.id id)
      (and_from (is_file (record l { flags = flags }) && eqb l.page leader_page) (with_temporary || is_permanent (record l { flags = flags }))
      (and_from (is_file (record l { flags = flags })) (eqb l.page leader_page) file r.1) mark)
      p.1

  pub marks_of_files : MarksOfFiles with_temporary serial counter
  marks_of_files d i s id f right holds led is =
      let p = and_parts (leads with_temporary s) (eqb s.0.id id) led in
      let q = and_parts (is_file s.0 && eqb s.0.page leader_page) (with_temporary || is_permanent s.0) p.0 in
      let file : is_file s.0 ≡ true = (and_parts (is_file s.0) (eqb s.0.page leader_page) q.0).0 in
      let m : MarkLaws s.0 = marks_are_added s.0 file in
      let marks = marks_of d i s id f right holds led is in
      record {
        permanent = subst (λ (e : List Sector). Changed with_temporary serial counter d e id (Some (record f { permanent = true }))) (sym (label_written d i s (permanent_label s.0) holds.here))
            (subst (λ (g : File). Changed with_temporary serial counter d (slice_set d i (permanent_label s.0, s.1)) id (Some g))
            (λ x. record f { permanent = m.is_now_permanent x; immutable = (m.immutable_as_before ∙ sym marks.1) x })
            (laws.leader_marked with_temporary serial counter d i s (permanent_label s.0, s.1) id f right holds led
            (leads_still id s.0 (bit_or s.0.flags 1) s.1 led m.file (or_right with_temporary (is_permanent (permanent_label s.0)) m.is_now_permanent)) refl is));
        immutable = subst (λ (e : List Sector). Changed with_temporary serial counter d e id (Some (record f { immutable = true }))) (sym (label_written d i s (immutable_label s.0) holds.here))
            (subst (λ (g : File). Changed with_temporary serial counter d (slice_set d i (immutable_label s.0, s.1)) id (Some g))
            (λ x. record f { permanent = (m.permanent_as_before ∙ sym marks.0) x; immutable = m.is_now_immutable x })
            (laws.leader_marked with_temporary serial counter d i s (immutable_label s.0, s.1) id f right holds led
            (leads_still id s.0 (bit_or s.0.flags 2) s.1 led m.file_too (ap (λ (b : Bool). with_temporary || b) m.permanent_as_before ∙ q.1)) refl is));
      }
