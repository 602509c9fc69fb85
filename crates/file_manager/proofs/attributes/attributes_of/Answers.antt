use Rattle.std.proofs.Common.{◌≡◌, ◌<◌, ◌≤◌, ℕ, inr, true, Option, ap, arith, subst, sym, rules}
use Rattle.std.specs.Prelude.{IfSome}
use Rattle.labelled_disk.specs.Label.{leader_page, names}
use Rattle.labelled_disk.specs.State.{HasLabel}
use Rattle.labelled_disk.specs.declared.label.Wanted.{Wanted}
use Rattle.labelled_disk.specs.declared.layout.Layout.{Layout}
use Rattle.swapper_kernel.specs.DiffersLaws.{names_id, names_page}
use Rattle.swapper_kernel.specs.Homes.{IsLayout}
use Rattle.file_map.specs.FileMap.{IsSize}
use Rattle.swapper_kernel.specs.Stands.{labels_of}
use Rattle.filer_kernel.specs.Cached.{runs_of}
use Rattle.file_manager.specs.declared.finding.FoundFile.{FoundFile}
use Rattle.file_manager.specs.Finding.{IsFoundFile}
use Rattle.file_manager.proofs.LookLemmas.{looks_nothing, looks_searched}
use Rattle.file_manager.proofs.attributes.attributes_of.Goals as goal
use Rattle.filer_kernel.specs.View.{accepted, view_of}

pub returns-in-Ok-Some-clause-revealed : goal.returns-in-Ok-Some-clause-revealed
returns-in-Ok-Some-clause-revealed g c = rw (← c.frames_of.ensures.same, c.marks-marks.ensures.permanent, c.marks-marks.ensures.immutable) (λ tables x shapes spaces books.
    let found = c.in-Ok-Some.ensures.revealed tables x shapes spaces books in
    ((subst (IsFoundFile (labels_of x) shapes c.args.id) c.in-Ok-Some.field-0-is found.0).1, found.1))

pub returns-in-Ok-None-clause-revealed : goal.returns-in-Ok-None-clause-revealed
returns-in-Ok-None-clause-revealed g c = rw (← c.frames_of.ensures.same) (λ tables x shapes spaces books.
    let found = c.in-Ok-None.ensures.revealed tables x shapes spaces books in
    (subst (IsFoundFile (labels_of x) shapes c.args.id) c.in-Ok-None.field-0-is found.0, found.1))

pub returns-in-Err-clause-revealed : goal.returns-in-Err-clause-revealed
returns-in-Err-clause-revealed g c = rw (← c.frames_of.ensures.same) c.in-Err.ensures.revealed

pub returns-in-Err-clause-fails : goal.returns-in-Err-clause-fails
returns-in-Err-clause-fails g c = rw (← c.frames_of.ensures.same) c.in-Err.ensures.fails

pub returns-in-Ok-None-clause-none : goal.returns-in-Ok-None-clause-none
returns-in-Ok-None-clause-none g c none = rw (← c.frames_of.ensures.same) (inr (c.in-Ok-None.ensures.missing (search rules)))

-- a file that is found has the size that the map names, and a leader that it names
pub returns-in-Ok-Some-clause-named : goal.returns-in-Ok-Some-clause-named
returns-in-Ok-Some-clause-named g c = rw (← c.frames_of.ensures.same) (λ m named stands map.
    let found = c.in-Ok-Some.ensures.named m named stands map in (
      subst (λ (found : Option FoundFile). IfSome found (λ file. IsSize named c.args.id file.pages)) c.in-Ok-Some.field-0-is found.0,
      λ are. (_, subst (λ (found : Option FoundFile). IfSome found (λ file. named c.args.id leader_page file.sector ≡ true)) c.in-Ok-Some.field-0-is (found.1 are)),
    ))

-- ---- What the look leaves.

pub returns-then-id-lt-FIRST_CLIENT-clause-stays : goal.returns-then-id-lt-FIRST_CLIENT-clause-stays
returns-then-id-lt-FIRST_CLIENT-clause-stays g c = record { makes = search rules; looks = looks_nothing _ _ _ _; brings = search rules; layout = search rules }

pub returns-in-Ok-Some-clause-stays : goal.returns-in-Ok-Some-clause-stays
returns-in-Ok-Some-clause-stays g c = record {
  makes = search rules;
  looks =
      let f = c.frames_of.new.filer in
      let found = c.find_file.ensures.stays in
      rw (← c.frames_of.ensures.same) (looks_searched {kept = runs_of (view_of f).layout.sectors f.runs} {runs = runs_of (view_of f).layout.sectors c.find_file.new.filer.runs} found.looked found.runs_given found.runs_are);
  brings = search rules;
  layout = search rules;
}

pub returns-in-Ok-None-clause-stays : goal.returns-in-Ok-None-clause-stays
returns-in-Ok-None-clause-stays g c = record {
  makes = search rules;
  looks =
      let f = c.frames_of.new.filer in
      let found = c.find_file.ensures.stays in
      rw (← c.frames_of.ensures.same) (looks_searched {kept = runs_of (view_of f).layout.sectors f.runs} {runs = runs_of (view_of f).layout.sectors c.find_file.new.filer.runs} found.looked found.runs_given found.runs_are);
  brings = search rules;
  layout = search rules;
}

pub returns-in-Err-clause-stays : goal.returns-in-Err-clause-stays
returns-in-Err-clause-stays g c = record {
  makes = search rules;
  looks =
      let f = c.frames_of.new.filer in
      let found = c.find_file.ensures.stays in
      rw (← c.frames_of.ensures.same) (looks_searched {kept = runs_of (view_of f).layout.sectors f.runs} {runs = runs_of (view_of f).layout.sectors c.find_file.new.filer.runs} found.looked found.runs_given found.runs_are);
  brings = search rules;
  layout = search rules;
}

-- ---- What it keeps to, and the reasons of its halts.

pub returns-in-Ok-Some-clause-accounts : goal.returns-in-Ok-Some-clause-accounts
returns-in-Ok-Some-clause-accounts g c = rw (← c.frames_of.ensures.same) c.in-Ok-Some.ensures.accounts

pub returns-in-Ok-None-clause-accounts : goal.returns-in-Ok-None-clause-accounts
returns-in-Ok-None-clause-accounts g c = rw (← c.frames_of.ensures.same) c.in-Ok-None.ensures.accounts

pub returns-in-Err-clause-accounts : goal.returns-in-Err-clause-accounts
returns-in-Err-clause-accounts g c = rw (← c.frames_of.ensures.same) c.in-Err.ensures.accounts

-- ---- The label of the leader, whatever the maps say.

first_after_root : (layout : Layout) → IsLayout layout → (sector : ℕ) → layout.first ≤ sector → 0 < sector
first_after_root layout accepted sector above = let first = ap (λ (l : Layout). l.first) accepted.1 in omega (arith, first, above)

pub returns-in-Ok-Some-clause-marked : goal.returns-in-Ok-Some-clause-marked
returns-in-Ok-Some-clause-marked g c =
    let f = c.frames_of.new.filer in
    let file = c.in-Ok-Some.file in
    let disk = (view_of c.find_file.new.filer).disk in
    let wanted : Wanted = record { id = c.args.id; page = leader_page } in
    let label = subst (λ (o : Option FoundFile). IfSome o (λ x. HasLabel disk x.sector x.leader × (names x.leader wanted ≡ true))) c.in-Ok-Some.field-0-is c.in-Ok-Some.ensures.found.1 in
    let place = subst (λ (o : Option FoundFile). IfSome o (λ x. ((view_of f).layout.first ≤ x.sector) × (x.sector < (view_of f).layout.sectors))) c.in-Ok-Some.field-0-is c.in-Ok-Some.ensures.found.0 in
    record {
      sector = file.sector;
      after_root = first_after_root (view_of f).layout (accepted f) file.sector place.0;
      label = file.leader;
      there = label.0;
      own = names_id file.leader wanted label.1;
      leads = names_page file.leader wanted label.1;
      marked = sym c.marks-marks.ensures.permanent;
    }
