use Rattle.std.proofs.Common.{◌≡◌, ◌≤◌, ◌<◌, true, ℕ, Option, refl, sym, ◌∙◌, ap, subst, rules, arith, inl, inr}
use Rattle.std.specs.Prelude.{IfSome}
use Rattle.labelled_disk.specs.declared.layout.Layout.{Layout}
use Rattle.swapper_kernel.specs.declared.manager.Manager.TheVariants.{FileMap}
use Rattle.swapper_kernel.specs.GoesLaws.{makes_then}
use Rattle.swapper_kernel.specs.HaltLaws.{brings_then}
use Rattle.swapper_kernel.specs.Homes.{IsLayout, home_at}
use Rattle.labelled_disk.specs.Label.{leader_page}
use Rattle.filer_kernel.specs.Causes.{IsRunHome}
use Rattle.swapper_kernel.specs.Stands.{labels_of}
use Rattle.filer_kernel.specs.declared.cached.CachedRuns.{CachedRuns}
use Rattle.filer_kernel.specs.Cached.{runs_of}
use Rattle.filer_kernel.specs.Triples.{AreOf, IsOneOf}
use Rattle.file_manager.specs.Answer.{IsLeaderOf}
use Rattle.file_manager.proofs.BookLemmas.{map_is, kept_are, map_named, own_maps, books_stay}
use Rattle.file_manager.proofs.FreedRun.{map_makes, map_brings}
use Rattle.file_manager.proofs.MarkLemmas.{leader_one}
use Rattle.file_manager.proofs.FindingLemmas.{shape_by_leader, leader_halts, no_leader_before, map_halts_before, books_read, read_makes, read_map_brings, read_bytes, read_brings}
use Rattle.file_manager.proofs.SoLemmas.{file_may}
use Rattle.filer_kernel.specs.EvidenceLaws.{fits, label_after, so_of_map}
use Rattle.labelled_disk.specs.State.{HasLabel}
use Rattle.file_manager.proofs.MadeRun.{made_read, made_look, reads_then}
use Rattle.swapper_kernel.specs.WindowLaws.{beside_then, looked_then}
use Rattle.file_manager.proofs.LookLemmas.{beside_read, looked_read}
use Rattle.file_manager.proofs.Keeping.{keeps_read, keeps_look, keeps_then}
use Rattle.file_manager.proofs.KeepSteps.{keeps_asked}
use Rattle.file_manager.specs.ReasonLaws.{map_reasons}
use Rattle.file_manager.specs.Reasons.{ShowsReason}
use Rattle.file_manager.proofs.SyncSteps.{quiet_first, quiet_last}
use Rattle.file_manager.proofs.Faults.{counted}
use Rattle.file_manager.proofs.finding.find_file.Goals as goal
use Rattle.filer_kernel.specs.View.{accepted, swapper_of, view_of}

pub returns-in-Ok-None-clause-revealed : goal.returns-in-Ok-None-clause-revealed
returns-in-Ok-None-clause-revealed g c = λ tables x shapes spaces books. (subst (IsLeaderOf (labels_of x) shapes c.args.id) c.in-Ok-None.field-0-is ((c.in-Ok-None.ensures.revealed tables x shapes spaces books).0), (c.leader_of.ensures.revealed tables x shapes spaces books).1)

pub returns-in-Err-clause-revealed : goal.returns-in-Err-clause-revealed
returns-in-Err-clause-revealed g c = λ tables x shapes spaces books. ((c.in-Err.ensures.revealed tables x shapes spaces books).0, (c.leader_of.ensures.revealed tables x shapes spaces books).1)

pub returns-in-Err-clause-fails : goal.returns-in-Err-clause-fails
returns-in-Err-clause-fails g c = record {
  cause = leader_halts _ (runs_of (view_of c.args.filer.now).layout.sectors c.args.filer.now.runs) c.args.id (view_of c.args.filer.now).disk (view_of c.leader_of.new.filer).disk _ _ c.in-Err.ensures.fails.cause;
  counted = search rules;
  evidence_seen = search rules;
}

pub leader_label-requires : goal.leader_label-requires
leader_label-requires g c =
    let at = subst (λ (o : Option ℕ). IfSome o (λ sector. ((view_of c.args.filer.now).layout.first ≤ sector) × (sector < (view_of c.args.filer.now).layout.sectors))) c.in-Ok-Some.field-0-is c.in-Ok-Some.ensures.found.0 in
    let below = at.1 in
    let size = c.leader_of.ensures.stays.makes.went.sectors ∙ c.requires.size in
    omega (arith, below, size)

pub returns-in-Err-leader_label-clause-revealed : goal.returns-in-Err-leader_label-clause-revealed
returns-in-Err-leader_label-clause-revealed g c = λ tables x shapes spaces books.
    let now = (c.leader_of.ensures.revealed tables x shapes spaces books).1 in
    let triple = subst (IsLeaderOf (labels_of x) shapes c.args.id) c.in-Ok-Some.field-0-is ((c.in-Ok-Some.ensures.revealed tables x shapes spaces books).0) in (
      c.in-Err-leader_label.ensures.sound x now.stands (leader_one _ _ shapes x books.booked c.args.id c.in-Ok-Some.sector c.requires.client triple),
      books_read c.leader_label.ensures.stays.same c.leader_label.ensures.stays.frames c.leader_label.ensures.stays.runs ((c.leader_of.ensures.revealed tables x shapes spaces books).1),
    )

pub returns-in-Err-leader_label-clause-stays : goal.returns-in-Err-leader_label-clause-stays
returns-in-Err-leader_label-clause-stays g c = record {
  same_bytes = read_bytes c.leader_of.ensures.stays.beside c.leader_label.ensures.stays.same c.leader_label.ensures.stays.makes c.leader_label.ensures.stays.frames c.leader_of.ensures.stays.same_bytes;
  beside = beside_read c.leader_of.ensures.stays.beside c.leader_label.ensures.stays.same c.leader_label.ensures.stays.makes c.leader_label.ensures.stays.frames c.leader_label.ensures.stays.layout;
  looked = looked_read c.leader_of.ensures.stays.looked c.leader_label.ensures.stays.same c.leader_label.ensures.stays.makes c.leader_label.ensures.stays.frames c.leader_label.ensures.stays.layout;
  runs_given = rw c.leader_label.ensures.stays.runs c.leader_of.ensures.stays.runs_given;
  runs_are = rw c.leader_label.ensures.stays.runs c.leader_of.ensures.stays.runs_are;
  makes = read_makes c.leader_of.ensures.stays.beside c.leader_label.ensures.stays.same c.leader_label.ensures.stays.makes c.leader_label.ensures.stays.frames;
  brings = read_brings c.leader_of.ensures.stays.beside c.leader_label.ensures.stays.same c.leader_label.ensures.stays.makes c.leader_label.ensures.stays.frames;
  keeps =
      let layout = (view_of c.args.filer.now).layout in
      let look = keeps_look c.leader_label.ensures.stays.same c.leader_label.ensures.stays.makes c.leader_label.ensures.stays.frames (ap (runs_of layout.sectors) c.leader_label.ensures.stays.runs) in
      keeps_then c.leader_of.ensures.stays.keeps look;
  layout = search rules;
}

pub returns-in-Err-leader_label-clause-fails : goal.returns-in-Err-leader_label-clause-fails
returns-in-Err-leader_label-clause-fails g c = record {
  cause =
      let at = subst (λ (o : Option ℕ). IfSome o (λ sector. ((view_of c.args.filer.now).layout.first ≤ sector) × (sector < (view_of c.args.filer.now).layout.sectors))) c.in-Ok-Some.field-0-is c.in-Ok-Some.ensures.found.0 in
      let layout = (view_of c.args.filer.now).layout in
      let kept = runs_of layout.sectors c.args.filer.now.runs in
      let old = (view_of c.args.filer.now).disk in
      let given = subst (λ (o : Option ℕ). IfSome o (λ sector. IsRunHome layout old (view_of c.args.filer.now).slots kept (home_at sector (record { id = c.args.id; page = leader_page })))) c.in-Ok-Some.field-0-is c.in-Ok-Some.ensures.found.1 in
      no_leader_before layout c.leader_of.ensures.stays.makes kept c.args.id c.in-Ok-Some.sector at.0 at.1 given (view_of c.leader_label.new.filer).disk _ c.in-Err-leader_label.ensures.cause;
  counted = counted _ _ (view_of c.leader_of.new.filer).disk (view_of c.leader_label.new.filer).disk _ c.leader_of.ensures.stays.makes.went.faults c.in-Err-leader_label.ensures.cause;
  evidence_seen =
      let layout = (view_of c.args.filer.now).layout in
      let size = c.leader_of.ensures.stays.makes.went.sectors ∙ c.requires.size in
      let place = subst (λ (o : Option ℕ). IfSome o (λ sector. (layout.first ≤ sector) × (sector < layout.sectors))) c.in-Ok-Some.field-0-is c.in-Ok-Some.ensures.found.0 in
      c.in-Err-leader_label.ensures.evidence_seen (file_may layout (view_of c.leader_of.new.filer).disk (accepted c.args.filer.now) size c.in-Ok-Some.sector (record { id = c.args.id; page = leader_page }) (inr c.requires.client) place.0 place.1);
}

pub size-requires : goal.size-requires
size-requires g c =
    let lay : (view_of c.leader_label.new.filer).layout.sectors ≡ (view_of c.args.filer.now).layout.sectors = ap (λ (l : Layout). l.sectors) (c.leader_label.ensures.stays.layout ∙ c.leader_of.ensures.stays.layout) in
    record { sectors = c.leader_label.ensures.stays.makes.went.sectors ∙ c.leader_of.ensures.stays.makes.went.sectors ∙ c.requires.size ∙ sym lay }

pub returns-in-Ok-size-clause-revealed : goal.returns-in-Ok-size-clause-revealed
returns-in-Ok-size-clause-revealed g c = λ tables x shapes spaces books.
    let layout = (view_of c.args.filer.now).layout in
    let is : IsLayout layout = (accepted c.args.filer.now) in
    let lay : (view_of c.leader_label.new.filer).layout ≡ layout = c.leader_label.ensures.stays.layout ∙ c.leader_of.ensures.stays.layout in
    let mid = (c.leader_of.ensures.revealed tables x shapes spaces books).1 in
    let now = books_read c.leader_label.ensures.stays.same c.leader_label.ensures.stays.frames c.leader_label.ensures.stays.runs mid in
    let triple = subst (IsLeaderOf (labels_of x) shapes c.args.id) c.in-Ok-Some.field-0-is ((c.in-Ok-Some.ensures.revealed tables x shapes spaces books).0) in
    let size = (rw lay at c.in-Ok-size.ensures.size) x now.booked.named now.stands (map_is _ _ shapes x is now.booked) in
    let map = map_is _ _ shapes x is now.booked in (
      (triple, shape_by_leader layout _ shapes x now.booked c.args.id c.requires.client _ _ c.in-Ok-Some.sector _ _ mid.stands triple c.in-Ok.ensures.found.0 size),
      books_stay _ _ _ _ _ _ _ shapes spaces x now ((rw lay at c.size.ensures.same) x now.booked.named now.stands map) (own_maps FileMap layout _ _ (rw lay at c.size.ensures.beside).brings) (subst (λ (r : CachedRuns). AreOf now.booked.named (runs_of layout.sectors r)) (sym c.size.ensures.runs) (kept_are _ _ shapes x is now.booked)),
    )

pub returns-in-Ok-size-clause-found : goal.returns-in-Ok-size-clause-found
returns-in-Ok-size-clause-found g c =
    let read : HasLabel (view_of c.leader_label.new.filer).disk c.in-Ok-Some.sector c.in-Ok.leader = λ d revealed. c.in-Ok.ensures.found.0 d (sym c.leader_label.ensures.stays.same.contents ∙ revealed) in (
      subst (λ (o : Option ℕ). IfSome o (λ sector. ((view_of c.args.filer.now).layout.first ≤ sector) × (sector < (view_of c.args.filer.now).layout.sectors))) c.in-Ok-Some.field-0-is c.in-Ok-Some.ensures.found.0,
      (label_after (map_makes c.size.ensures.beside).wrote c.in-Ok-Some.sector c.in-Ok.leader read, c.in-Ok.ensures.found.1),
    )

pub returns-in-Ok-size-clause-stays : goal.returns-in-Ok-size-clause-stays
returns-in-Ok-size-clause-stays g c = record {
  same_bytes = λ bytes reveals.
      let layout = (view_of c.args.filer.now).layout in
      let lay : (view_of c.leader_label.new.filer).layout ≡ layout = c.leader_label.ensures.stays.layout ∙ c.leader_of.ensures.stays.layout in
      (rw lay at c.size.ensures.same_bytes) bytes (read_bytes c.leader_of.ensures.stays.beside c.leader_label.ensures.stays.same c.leader_label.ensures.stays.makes c.leader_label.ensures.stays.frames c.leader_of.ensures.stays.same_bytes bytes reveals);
  beside = beside_then refl (beside_read c.leader_of.ensures.stays.beside c.leader_label.ensures.stays.same c.leader_label.ensures.stays.makes c.leader_label.ensures.stays.frames c.leader_label.ensures.stays.layout) c.size.ensures.beside;
  looked = looked_then refl (looked_read c.leader_of.ensures.stays.looked c.leader_label.ensures.stays.same c.leader_label.ensures.stays.makes c.leader_label.ensures.stays.frames c.leader_label.ensures.stays.layout) c.size.ensures.looked;
  runs_given = rw (c.size.ensures.runs, c.leader_label.ensures.stays.runs) c.leader_of.ensures.stays.runs_given;
  runs_are = rw (c.size.ensures.runs, c.leader_label.ensures.stays.runs) c.leader_of.ensures.stays.runs_are;
  makes = makes_then (read_makes c.leader_of.ensures.stays.beside c.leader_label.ensures.stays.same c.leader_label.ensures.stays.makes c.leader_label.ensures.stays.frames) (map_makes c.size.ensures.beside);
  brings = brings_then (read_brings c.leader_of.ensures.stays.beside c.leader_label.ensures.stays.same c.leader_label.ensures.stays.makes c.leader_label.ensures.stays.frames) (map_brings c.size.ensures.beside);
  keeps =
      let layout = (view_of c.args.filer.now).layout in
      let look = keeps_look c.leader_label.ensures.stays.same c.leader_label.ensures.stays.makes c.leader_label.ensures.stays.frames (ap (runs_of layout.sectors) c.leader_label.ensures.stays.runs) in
      let keep = keeps_then c.leader_of.ensures.stays.keeps look in
      let lay : (view_of c.leader_label.new.filer).layout ≡ layout = c.leader_label.ensures.stays.layout ∙ c.leader_of.ensures.stays.layout in
      let same : runs_of layout.sectors c.size.new.self.runs ≡ runs_of layout.sectors c.leader_label.new.filer.runs = ap (runs_of layout.sectors) c.size.ensures.runs in
      keeps_then keep (keeps_read (inr c.requires.client) (rw lay at c.size.ensures.beside) (rw lay at c.size.ensures.same_bytes) (λ r one. inl (subst (IsOneOf r) same one)));
  layout = search rules;
}

pub returns-in-Err-size-clause-revealed : goal.returns-in-Err-size-clause-revealed
returns-in-Err-size-clause-revealed g c = λ tables x shapes spaces books.
    let layout = (view_of c.args.filer.now).layout in
    let is : IsLayout layout = (accepted c.args.filer.now) in
    let lay : (view_of c.leader_label.new.filer).layout ≡ layout = c.leader_label.ensures.stays.layout ∙ c.leader_of.ensures.stays.layout in
    let mid = (c.leader_of.ensures.revealed tables x shapes spaces books).1 in
    let now = books_read c.leader_label.ensures.stays.same c.leader_label.ensures.stays.frames c.leader_label.ensures.stays.runs mid in
    let b = now.booked in
    let map = map_is _ _ shapes x is now.booked in (
      (rw lay at c.in-Err-size.ensures.sound) x b.named now.stands (map_is _ _ shapes x is b) (map_named _ x is b.long b.map_labels),
      books_stay _ _ _ _ _ _ _ shapes spaces x now ((rw lay at c.size.ensures.same) x now.booked.named now.stands map) (own_maps FileMap layout _ _ (rw lay at c.size.ensures.beside).brings) (subst (λ (r : CachedRuns). AreOf now.booked.named (runs_of layout.sectors r)) (sym c.size.ensures.runs) (kept_are _ _ shapes x is now.booked)),
    )

pub returns-in-Err-size-clause-stays : goal.returns-in-Err-size-clause-stays
returns-in-Err-size-clause-stays g c = record {
  same_bytes = λ bytes reveals.
      let layout = (view_of c.args.filer.now).layout in
      let lay : (view_of c.leader_label.new.filer).layout ≡ layout = c.leader_label.ensures.stays.layout ∙ c.leader_of.ensures.stays.layout in
      (rw lay at c.size.ensures.same_bytes) bytes (read_bytes c.leader_of.ensures.stays.beside c.leader_label.ensures.stays.same c.leader_label.ensures.stays.makes c.leader_label.ensures.stays.frames c.leader_of.ensures.stays.same_bytes bytes reveals);
  beside = beside_then refl (beside_read c.leader_of.ensures.stays.beside c.leader_label.ensures.stays.same c.leader_label.ensures.stays.makes c.leader_label.ensures.stays.frames c.leader_label.ensures.stays.layout) c.size.ensures.beside;
  looked = looked_then refl (looked_read c.leader_of.ensures.stays.looked c.leader_label.ensures.stays.same c.leader_label.ensures.stays.makes c.leader_label.ensures.stays.frames c.leader_label.ensures.stays.layout) c.size.ensures.looked;
  runs_given = rw (c.size.ensures.runs, c.leader_label.ensures.stays.runs) c.leader_of.ensures.stays.runs_given;
  runs_are = rw (c.size.ensures.runs, c.leader_label.ensures.stays.runs) c.leader_of.ensures.stays.runs_are;
  makes = makes_then (read_makes c.leader_of.ensures.stays.beside c.leader_label.ensures.stays.same c.leader_label.ensures.stays.makes c.leader_label.ensures.stays.frames) (map_makes c.size.ensures.beside);
  brings = brings_then (read_brings c.leader_of.ensures.stays.beside c.leader_label.ensures.stays.same c.leader_label.ensures.stays.makes c.leader_label.ensures.stays.frames) (map_brings c.size.ensures.beside);
  keeps =
      let layout = (view_of c.args.filer.now).layout in
      let look = keeps_look c.leader_label.ensures.stays.same c.leader_label.ensures.stays.makes c.leader_label.ensures.stays.frames (ap (runs_of layout.sectors) c.leader_label.ensures.stays.runs) in
      let keep = keeps_then c.leader_of.ensures.stays.keeps look in
      let lay : (view_of c.leader_label.new.filer).layout ≡ layout = c.leader_label.ensures.stays.layout ∙ c.leader_of.ensures.stays.layout in
      let same : runs_of layout.sectors c.size.new.self.runs ≡ runs_of layout.sectors c.leader_label.new.filer.runs = ap (runs_of layout.sectors) c.size.ensures.runs in
      keeps_then keep (keeps_read (inr c.requires.client) (rw lay at c.size.ensures.beside) (rw lay at c.size.ensures.same_bytes) (λ r one. inl (subst (IsOneOf r) same one)));
  layout = search rules;
}

pub returns-in-Err-size-clause-fails : goal.returns-in-Err-size-clause-fails
returns-in-Err-size-clause-fails g c = record {
  cause =
      let layout = (view_of c.args.filer.now).layout in
      let lay : (view_of c.leader_label.new.filer).layout ≡ layout = c.leader_label.ensures.stays.layout ∙ c.leader_of.ensures.stays.layout in
      let beside = c.leader_of.ensures.stays.beside in
      let revealed = c.leader_label.ensures.stays.same in
      let read = c.leader_label.ensures.stays.makes in
      let frames = c.leader_label.ensures.stays.frames in
      map_halts_before layout (read_makes beside revealed read frames) (read_map_brings beside revealed read frames) (read_bytes beside revealed read frames c.leader_of.ensures.stays.same_bytes) (runs_of layout.sectors c.args.filer.now.runs) c.args.id (view_of c.size.new.self).disk _ (rw lay at c.in-Err-size.ensures.cause);
  counted =
      let first = c.leader_of.ensures.stays.makes.went.faults in
      let second = c.leader_label.ensures.stays.makes.went.faults in
      counted _ _ (view_of c.leader_label.new.filer).disk (view_of c.size.new.self).disk _ (omega (arith, first, second)) c.in-Err-size.ensures.cause;
  evidence_seen = so_of_map (fits (swapper_of c.leader_label.new.filer) (search rules)) c.size.ensures.beside.goes.makes c.in-Err-size.halt c.in-Err-size.ensures.cause;
}

pub returns-in-Ok-None-clause-missing : goal.returns-in-Ok-None-clause-missing
returns-in-Ok-None-clause-missing g c none = c.in-Ok-None.ensures.missing (search rules)

pub returns-in-Err-clause-stays : goal.returns-in-Err-clause-stays
returns-in-Err-clause-stays g c = c.leader_of.ensures.stays

pub returns-in-Ok-None-clause-stays : goal.returns-in-Ok-None-clause-stays
returns-in-Ok-None-clause-stays g c = c.leader_of.ensures.stays

pub returns-in-Ok-size-clause-named : goal.returns-in-Ok-size-clause-named
returns-in-Ok-size-clause-named g c = λ m named stands map.
    let layout = (view_of c.args.filer.now).layout in
    let lay : (view_of c.leader_label.new.filer).layout ≡ layout = c.leader_label.ensures.stays.layout ∙ c.leader_of.ensures.stays.layout in
    let now = read_bytes c.leader_of.ensures.stays.beside c.leader_label.ensures.stays.same c.leader_label.ensures.stays.makes c.leader_label.ensures.stays.frames c.leader_of.ensures.stays.same_bytes map.bytes (record { memory = m; stands = stands; shows = map.shows; size = c.requires.size }) in (
      (rw lay at c.in-Ok-size.ensures.size) now.memory named now.stands (record { bytes = map.bytes; shows = now.shows; names = map.names }),
      λ are. subst (λ (o : Option ℕ). IfSome o (λ sector. named c.args.id leader_page sector ≡ true)) c.in-Ok-Some.field-0-is (c.in-Ok-Some.ensures.names m named stands map are),
    )

pub returns-in-Ok-None-clause-takes : goal.returns-in-Ok-None-clause-takes
returns-in-Ok-None-clause-takes g c = made_read c.args.id c.requires.size c.leader_of.ensures.stays.beside c.leader_of.ensures.stays.same_bytes

pub returns-in-Ok-size-clause-takes : goal.returns-in-Ok-size-clause-takes
returns-in-Ok-size-clause-takes g c =
    let layout = (view_of c.args.filer.now).layout in
    let lay : (view_of c.leader_label.new.filer).layout ≡ layout = c.leader_label.ensures.stays.layout ∙ c.leader_of.ensures.stays.layout in
    let size = c.leader_label.ensures.stays.makes.went.sectors ∙ c.leader_of.ensures.stays.makes.went.sectors ∙ c.requires.size in
    reads_then (made_read c.args.id c.requires.size c.leader_of.ensures.stays.beside c.leader_of.ensures.stays.same_bytes)
    (reads_then (made_look layout c.args.id c.leader_label.ensures.stays.same c.leader_label.ensures.stays.frames) (made_read c.args.id size (rw lay at c.size.ensures.beside) (rw lay at c.size.ensures.same_bytes)))

-- ---- What it keeps to, and the reasons of its halts.

pub returns-in-Ok-None-clause-accounts : goal.returns-in-Ok-None-clause-accounts
returns-in-Ok-None-clause-accounts g c = c.in-Ok-None.ensures.accounts

pub returns-in-Err-clause-accounts : goal.returns-in-Err-clause-accounts
returns-in-Err-clause-accounts g c = c.in-Err.ensures.accounts

pub returns-in-Err-leader_label-clause-accounts : goal.returns-in-Err-leader_label-clause-accounts
returns-in-Err-leader_label-clause-accounts g c =
    let led = c.in-Ok-Some.ensures.names in
    λ o named k.
    let now = c.in-Ok-Some.ensures.accounts o named k in
    let named_there = subst (λ (o : Option ℕ). IfSome o (λ sector. named c.args.id leader_page sector ≡ true)) c.in-Ok-Some.field-0-is (led k.memory named k.stands k.map k.kept) in
    subst (λ (l : Layout). ShowsReason o l (view_of c.leader_label.new.filer).disk c.in-Err-leader_label.halt) c.leader_of.ensures.stays.layout (c.in-Err-leader_label.ensures.reasons o named now named_there)

pub returns-in-Err-size-clause-accounts : goal.returns-in-Err-size-clause-accounts
returns-in-Err-size-clause-accounts g c = λ o named k.
    let found = c.in-Ok-Some.ensures.accounts o named k in
    let now = c.in-Ok.ensures.keeps_to o named found in
    subst (λ (l : Layout). ShowsReason o l (view_of c.size.new.self).disk c.in-Err-size.halt) (c.leader_label.ensures.stays.layout ∙ c.leader_of.ensures.stays.layout)
    (map_reasons {k = runs_of (view_of c.leader_label.new.filer).layout.sectors c.leader_label.new.filer.runs} now c.size.ensures.beside.goes.makes (accepted c.leader_label.new.filer) c.in-Err-size.halt c.in-Err-size.ensures.cause)

pub returns-in-Ok-size-clause-accounts : goal.returns-in-Ok-size-clause-accounts
returns-in-Ok-size-clause-accounts g c = λ o named k.
    let found = c.in-Ok-Some.ensures.accounts o named k in
    let now = c.in-Ok.ensures.keeps_to o named found in
    keeps_asked c.leader_label.new.filer.runs c.size.new.self.runs c.size.ensures.runs now c.size.ensures.beside c.size.ensures.same

pub returns-in-Ok-size-clause-synced : goal.returns-in-Ok-size-clause-synced
returns-in-Ok-size-clause-synced g c = λ syncs permanent. quiet_last (quiet_first c.leader_of.ensures.stays.makes (c.in-Ok.ensures.synced syncs permanent)) (map_makes c.size.ensures.beside)
