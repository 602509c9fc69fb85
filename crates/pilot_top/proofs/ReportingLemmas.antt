-- Lines that are put one after the other.
use Rattle.std.proofs.Common.{◌≡◌, ℕ, ◌+◌, ◌<◌, List, ◌++◌, [], ◌∷◌, Option, Result, Ok, Err, OnErr, sym, ◌∙◌, ap, subst, append_assoc, append-nil, length, take, drop, get_or, false, refl}
use Rattle.std.specs.Io.KnownBytes.{Appends}
use Rattle.std.proofs.KnownBytes.{Appends-trans}
use Rattle.std.proofs.lemmas.Grind.{flat_map-append}
use Rattle.std.proofs.lemmas.List.{take_more, take-append-drop, length-map}
use Rattle.labelled_disk.specs.Sectors.{Sector}
use Rattle.label_laws.specs.Counts.{lost_sectors}
use Rattle.trace_io.specs.Stream.{AppendsPrefix}
use Rattle.trace_io.specs.declared.stream.SinkFault.{SinkFault}
use Rattle.scavenger.specs.declared.report.Lost.{Lost}
use Rattle.scavenger.specs.declared.report.Report.{Report}
use Rattle.scavenger.specs.Reported.{lost_at, lost_in, Reports}
use Rattle.pilot_top.specs.Reporting.{IsReport, lost_line, lost_lines, count_line, report_text, restored_text}

-- a prefix of what comes next, after what was put
pub prefix_after : (a b c : Option (List ℕ)) (first next : List ℕ) → Appends a b first → AppendsPrefix b c next → AppendsPrefix a c (first ++ next)
prefix_after a b c first next put more =
    (first ++ more.0, (more.1.0, ap (λ s. first ++ s) more.1.1 ∙ sym (append_assoc first more.0 more.1.0)), Appends-trans a b c first more.0 put more.2)

-- a prefix of what was begun
pub prefix_longer : (a b : Option (List ℕ)) (first next : List ℕ) → AppendsPrefix a b first → AppendsPrefix a b (first ++ next)
prefix_longer a b first next put = (put.0, (put.1.0 ++ next, ap (λ s. s ++ next) put.1.1 ∙ append_assoc put.0 put.1.0 next), put.2)

-- the lines of the first sectors, and one line more
lines_more : (lost : List Lost) (i : ℕ) (d : Lost) → i < length lost → lost_lines (take (i + 1) lost) ≡ lost_lines (take i lost) ++ lost_line (get_or lost i d)
lines_more lost i d inside =
    ap lost_lines (take_more lost i d inside) ∙ flat_map-append lost_line (take i lost) (get_or lost i d ∷ [])
    ∙ ap (λ t. lost_lines (take i lost) ++ t) (append-nil (lost_line (get_or lost i d)))

-- the lines of all sectors begin with those of the first
lines_begin : (lost : List Lost) (i : ℕ) → lost_lines lost ≡ lost_lines (take i lost) ++ lost_lines (drop i lost)
lines_begin lost i = ap lost_lines (sym (take-append-drop i lost)) ∙ flat_map-append lost_line (take i lost) (drop i lost)

module _ (a b c : Option (List ℕ)) (lost : List Lost) (i : ℕ) (d : Lost) (inside : i < length lost) (line piece : List ℕ)
    (is_line : line ≡ lost_line (get_or lost i d)) (is_piece : piece ≡ line) (first : Appends a b (lost_lines (take i lost))) where
  pub line_put : Appends b c piece → Appends a c (lost_lines (take (i + 1) lost))
  line_put put =
      subst (λ t. Appends a c t) (ap (λ t. lost_lines (take i lost) ++ t) (is_piece ∙ is_line) ∙ sym (lines_more lost i d inside))
      (Appends-trans a b c (lost_lines (take i lost)) piece first put)

  pub line_begun : AppendsPrefix b c piece → AppendsPrefix a c (lost_lines lost)
  line_begun put =
      let more : AppendsPrefix a c (lost_lines (take (i + 1) lost)) =
      subst (λ t. AppendsPrefix a c t) (ap (λ t. lost_lines (take i lost) ++ t) (is_piece ∙ is_line) ∙ sym (lines_more lost i d inside))
      (prefix_after a b c (lost_lines (take i lost)) piece first put) in
      subst (λ t. AppendsPrefix a c t) (sym (lines_begin lost (i + 1))) (prefix_longer a c (lost_lines (take (i + 1) lost)) (lost_lines (drop (i + 1) lost)) more)

-- the counts after the lines, or a prefix of them
pub counts_begun : (a b c : Option (List ℕ)) (put lost : List Lost) (files pages freed : ℕ) (line piece : List ℕ) (result : Result (Unit {0}) SinkFault) → put ≡ lost → Appends a b (lost_lines put)
    → line ≡ count_line files pages freed (length put) → piece ≡ line → OnErr result (AppendsPrefix b c piece)
    → OnErr result (AppendsPrefix a c (lost_lines lost ++ count_line files pages freed (length lost)))
counts_begun a b c put lost files pages freed line piece (Ok done) are first is_line is_piece more = tt
counts_begun a b c put lost files pages freed line piece (Err fault) are first is_line is_piece more =
    subst (λ (l : List Lost). AppendsPrefix a c (lost_lines l ++ count_line files pages freed (length l))) are
    (prefix_after a b c (lost_lines put) (count_line files pages freed (length put)) first (subst (λ t. AppendsPrefix b c t) (is_piece ∙ is_line) more))

-- the lines of a report are those of one
pub of_report : {A : Type 0} (report : Report A) → IsReport (report_text report)
of_report report = record { lost = lost_in report; files = report.files; pages = report.pages; freed = report.freed; text_is = refl }

-- the lines of a report that reveals of a disk are those about the disk
pub text_is : {A : Type 0} (g : List Sector) (report : Report A) → Reports g report → report_text report ≡ restored_text g
text_is g report reports =
    let lost = lost_sectors false g in
    let many : length (lost_in report) ≡ length lost = ap length reports.lost ∙ length-map lost (lost_at g) in
    rw (reports.files, reports.pages, reports.freed, many, reports.lost) refl
