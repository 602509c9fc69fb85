use Rattle.std.proofs.Common.{arith, inl, inr, rules}
use Rattle.documents.proofs.CourseLemmas.{marked_after}
use Rattle.documents.proofs.CourseLemmas.{stays_stopped}
use Rattle.documents.proofs.StoppedLemmas.{stopped_code, stopped_fault, stopped_undone}
use Rattle.std.proofs.Common.{◌∙◌, ap, subst, sym, ℕ, List}
use Rattle.labelled_disk.specs.declared.evidence.Halt.TheVariants as halt
use Rattle.embedded.specs.declared.code.Code.{Code}
use Rattle.documents.specs.declared.fault.Fault.TheVariants as fault
use Rattle.documents.specs.Stands.{IsFresh, IsPut}
use Rattle.documents.proofs.AddingLemmas.{fresh}
use Rattle.documents.proofs.MachineLemmas.{machine_of}
use Rattle.documents.proofs.PutLemmas.{undone_by}
use Rattle.std.specs.Int.{div_ceil}
use Rattle.documents.proofs.CauseLemmas.{blamed_code, blamed_undone, fault_since}
use Rattle.embedded.proofs.SpendLemmas.{later_itself, later_then, spends_called, spends_none, spends_then, spends_within}
use Rattle.documents.specs.Spent.{windows}
use Rattle.std.proofs.Common.{◌+◌, ◌*◌, length, Err}
use Rattle.flat_machine.specs.Next.{new_id}
use Rattle.flat_machine.proofs.KeepNew.{none_new}
use Rattle.embedded.specs.Stops.{Leaves}
use Rattle.session_words.specs.StandsFor.{RevealsSettled}
use Rattle.documents.specs.Stops.{WholeOrAbsent}
use Rattle.documents.proofs.LooksLemmas.{looks_itself}
use Rattle.documents.proofs.UnseenLemmas.{leaves_less}
use Rattle.documents.proofs.WholeLemmas.{marks_err, marks_ok, undone_leaves}
use Rattle.documents.specs.declared.fault.Fault.{Fault}
use Rattle.documents.proofs.RefusedLemmas.{kept_other}
use Rattle.std.proofs.Common.{[]}
use Rattle.std.proofs.KnownBytes.{Consumes-nil}
use Rattle.documents.proofs.LastsLemmas.{whole_now}
use Rattle.documents.proofs.RoomLemmas.{back_fault}
use Rattle.documents.proofs.putting.put.Goals as goal

pub returns-in_default-clause-document : goal.returns-in_default-clause-document
returns-in_default-clause-document g c = λ m stands. record {
  document = search rules;
  kept = inr (m.counter, omega arith, stands);
  full = search rules;
  stops = search rules;
  lasts = search rules;
}

pub returns-in_default-clause-fails : goal.returns-in_default-clause-fails
returns-in_default-clause-fails g c = record {
  named = search rules;
  long = search rules;
  other = search rules;
  input = search rules;
  stopped = search rules;
  cause = search rules;
}

pub returns-in-Err-clause-document : goal.returns-in-Err-clause-document
returns-in-Err-clause-document g c = λ m stands. record {
  document = search rules;
  kept =
      elim (c.in-Err.ensures.made m stands) [
        | inl bad ↦ inl (ap (λ (x : Code). fault.Call x) bad)
        | inr st ↦ inr (m.counter, omega arith, st)
      ];
  full =
      λ is. record {
        bytes = [];
        read = Consumes-nil (g.S.Source.left c.args.source.now);
        misses = c.new_file.ensures.full m stands (c.in-Err.is ∙ ap (λ (x : Code). Err x) (cc is));
      };
  stops =
      let h = machine_of c.args.engine.now m stands in
      let unseen = c.new_file.ensures.stops (new_id m) m (inr (m, looks_itself m (new_id m) h (none_new m h), stands)) in
      leaves_less (λ d. RevealsSettled d m) (WholeOrAbsent m c.args.name.now (g.S.Source.left c.args.source.now)) (λ d r. inl r) c.args.engine.now c.new_file.new.engine unseen.leaves;
  lasts = search rules;
}

pub returns-in-Err-clause-fails : goal.returns-in-Err-clause-fails
returns-in-Err-clause-fails g c = record {
  named = search rules;
  long = search rules;
  other = search rules;
  input = search rules;
  stopped =
      λ why is.
      stopped_code why _ c.in-Err.code c.new_file.new.engine c.new_file.ensures.stopped c.in-Err.is (cc is);
  cause =
      λ is.
      blamed_code _ c.in-Err.code c.args.engine.now c.new_file.new.engine c.new_file.ensures.cause c.in-Err.is (cc is);
}

pub returns-in-Ok-fill_file-clause-document : goal.returns-in-Ok-fill_file-clause-document
returns-in-Ok-fill_file-clause-document g c = λ m stands.
    let h = machine_of c.args.engine.now m stands in
    let id = c.in-Ok-new_file.id in
    let left = g.S.Source.left c.args.source.now in
    let made = c.in-Ok-new_file.ensures.made m stands in
    let is_fresh = subst (λ (id : ℕ). IsFresh m id) (sym made.0) (fresh m h) in
    record {
      document =
          subst (λ (name : List ℕ). IsPut m c.in-Ok-new_file.id name (g.S.Source.left c.args.source.now) c.fill_file.new.engine) c.in-Ok.ensures.ok
          (c.in-Ok-fill_file.ensures.document m is_fresh made.0 made.1);
      kept = search rules;
      full = search rules;
      stops =
          let unseen = c.new_file.ensures.stops id m (inr (m, looks_itself m id h is_fresh.none, stands)) in
          let marks = subst (λ (name : List ℕ). Leaves (WholeOrAbsent m name left) c.new_file.new.engine c.fill_file.new.engine) c.in-Ok.ensures.ok
          (c.in-Ok-fill_file.ensures.stops m h is_fresh made.0 made.1) in
          marks_ok (WholeOrAbsent m c.args.name.now left) m id c.args.engine.now c.new_file.new.engine c.fill_file.new.engine (λ d r. inl r) unseen marks;
      lasts =
          λ d reveals.
          whole_now g.met.D.Disk.in_form m c.in-Ok-new_file.id c.args.name.now (g.S.Source.left c.args.source.now) c.fill_file.new.engine d
          (subst (λ (name : List ℕ). IsPut m c.in-Ok-new_file.id name (g.S.Source.left c.args.source.now) c.fill_file.new.engine) c.in-Ok.ensures.ok
          (c.in-Ok-fill_file.ensures.document m is_fresh made.0 made.1)) reveals;
    }

pub returns-in-Ok-fill_file-clause-fails : goal.returns-in-Ok-fill_file-clause-fails
returns-in-Ok-fill_file-clause-fails g c = record {
  named = search rules;
  long = search rules;
  other = search rules;
  input = search rules;
  stopped = search rules;
  cause = search rules;
}

pub returns-in-Err-fill_file-clause-document : goal.returns-in-Err-fill_file-clause-document
returns-in-Err-fill_file-clause-document g c = λ m stands.
    let h = machine_of c.args.engine.now m stands in
    let id = c.in-Ok-new_file.id in
    let left = g.S.Source.left c.args.source.now in
    let made = c.in-Ok-new_file.ensures.made m stands in
    let is_fresh = subst (λ (id : ℕ). IsFresh m id) (sym made.0) (fresh m h) in
    record {
      document = search rules;
      kept =
          undone_by m c.in-Ok-new_file.id c.in-Err-fill_file.fault c.fault_after.result c.delete.result c.fill_file.new.engine c.delete.new.self is_fresh c.delete.ensures
          (λ bad. stopped_fault halt.Disk _ c.in-Err-fill_file.fault c.fill_file.new.engine c.fill_file.ensures.stopped c.in-Err-fill_file.is bad)
          c.fault_after.ensures.which (c.fault_after.ensures.halted halt.Disk)
          (c.in-Err-fill_file.ensures.document m is_fresh made.0 made.1);
      full =
          λ is.
          c.fill_file.ensures.full m h is_fresh made.0 made.1
          (c.in-Err-fill_file.is ∙ ap (λ (x : Fault). Err x) (back_fault c.in-Err-fill_file.fault c.fault_after.result c.delete.result c.fault_after.ensures.which (cc is)));
      stops =
          let unseen = c.new_file.ensures.stops id m (inr (m, looks_itself m id h is_fresh.none, stands)) in
          let fails = marks_err (WholeOrAbsent m c.in-Ok.name.bytes left) m id c.args.engine.now c.new_file.new.engine c.fill_file.new.engine (λ d r. inl r) unseen
          (c.in-Err-fill_file.ensures.stops m h is_fresh made.0 made.1) in
          subst (λ (name : List ℕ). Leaves (WholeOrAbsent m name left) c.args.engine.now c.delete.new.self) c.in-Ok.ensures.ok
          (undone_leaves (WholeOrAbsent m c.in-Ok.name.bytes left) m id c.args.engine.now c.fill_file.new.engine c.delete.new.self _ (λ d r. inl r) fails c.delete.ensures);
      lasts = search rules;
    }

pub returns-in-Err-fill_file-clause-fails : goal.returns-in-Err-fill_file-clause-fails
returns-in-Err-fill_file-clause-fails g c = record {
  named = search rules;
  long =
      λ is.
      absurd (kept_other fault.LongName c.in-Err-fill_file.fault c.fault_after.result c.delete.result (λ k e. cc e)
      (λ e. c.fill_file.ensures.long (c.in-Err-fill_file.is ∙ ap (λ (x : Fault). Err x) e)) c.fault_after.ensures.which (cc is));
  other =
      λ is.
      kept_other fault.NoDocument c.in-Err-fill_file.fault c.fault_after.result c.delete.result (λ k e. cc e)
      (λ e. c.fill_file.ensures.other (c.in-Err-fill_file.is ∙ ap (λ (x : Fault). Err x) e)) c.fault_after.ensures.which (cc is);
  input = search rules;
  stopped =
      λ why is.
      stopped_undone why c.in-Err-fill_file.fault c.fault_after.result c.delete.result c.fill_file.new.engine c.delete.new.self
      (stopped_fault why _ c.in-Err-fill_file.fault c.fill_file.new.engine c.fill_file.ensures.stopped c.in-Err-fill_file.is)
      (λ stopped. stays_stopped why _ c.fill_file.new.engine c.delete.new.self _ stopped c.delete.ensures)
      c.delete.ensures.stopped c.fault_after.ensures.which (cc is);
  cause =
      λ is.
      blamed_undone c.in-Err-fill_file.fault c.fault_after.result c.delete.result c.args.engine.now c.fill_file.new.engine c.delete.new.self
      (fault_since _ c.in-Err-fill_file.fault c.args.engine.now c.new_file.new.engine c.fill_file.new.engine c.new_file.ensures.spends.later c.fill_file.ensures.cause
      c.in-Err-fill_file.is)
      (later_then _ _ _ c.new_file.ensures.spends.later c.fill_file.ensures.later) c.delete.ensures.later c.delete.ensures.cause c.fault_after.ensures.which (cc is);
}

pub returns-in-Err-clause-undone : goal.returns-in-Err-clause-undone
returns-in-Err-clause-undone g c = inr (inl c.new_file.ensures.created)

pub returns-in-Ok-fill_file-clause-marked : goal.returns-in-Ok-fill_file-clause-marked
returns-in-Ok-fill_file-clause-marked g c =
    marked_after _ c.args.engine.now c.new_file.new.engine c.fill_file.new.engine
    c.in-Ok-new_file.ensures.led c.in-Ok-fill_file.ensures.marked

pub returns-in-Err-fill_file-clause-undone : goal.returns-in-Err-fill_file-clause-undone
returns-in-Err-fill_file-clause-undone g c =
    inr (inr (c.in-Ok-new_file.id, (c.fill_file.new.engine, c.delete.result, c.delete.ensures)))

-- one call, the windows, and five calls; or one more
pub returns-in_default-clause-spends : goal.returns-in_default-clause-spends
returns-in_default-clause-spends g c = λ xs told. spends_none _ _ c.args.engine.now

pub returns-in-Err-clause-spends : goal.returns-in-Err-clause-spends
returns-in-Err-clause-spends g c = λ xs told.
    spends_within 1 0 _ _ c.args.engine.now c.new_file.new.engine (omega arith) (omega arith) c.new_file.ensures.spends

pub returns-in-Ok-fill_file-clause-spends : goal.returns-in-Ok-fill_file-clause-spends
returns-in-Ok-fill_file-clause-spends g c = λ xs told.
    spends_then 1 0 (5 + 5 * windows (length c.args.buffer.now) (length xs)) (1 + div_ceil (length xs) 512) _ _ c.args.engine.now c.new_file.new.engine c.fill_file.new.engine
    (omega arith) (omega arith) c.new_file.ensures.spends (c.fill_file.ensures.spends xs told)

pub returns-in-Err-fill_file-clause-spends : goal.returns-in-Err-fill_file-clause-spends
returns-in-Err-fill_file-clause-spends g c = λ xs told.
    let count = windows (length c.args.buffer.now) (length xs) in
    let pages = div_ceil (length xs) 512 in
    spends_then (6 + 5 * count) (1 + pages) 1 0 _ _ c.args.engine.now c.fill_file.new.engine c.delete.new.self (omega arith) (omega arith)
    (spends_then 1 0 (5 + 5 * count) (1 + pages) (6 + 5 * count) (1 + pages) c.args.engine.now c.new_file.new.engine c.fill_file.new.engine
    (omega arith) (omega arith) c.new_file.ensures.spends (c.fill_file.ensures.spends xs told))
    (spends_called _ c.fill_file.new.engine c.delete.new.self _ c.delete.ensures)

pub returns-in_default-clause-later : goal.returns-in_default-clause-later
returns-in_default-clause-later g c = later_itself _

pub returns-in-Err-clause-later : goal.returns-in-Err-clause-later
returns-in-Err-clause-later g c = c.new_file.ensures.spends.later

pub returns-in-Ok-fill_file-clause-later : goal.returns-in-Ok-fill_file-clause-later
returns-in-Ok-fill_file-clause-later g c = later_then _ _ _ c.new_file.ensures.spends.later c.fill_file.ensures.later

pub returns-in-Err-fill_file-clause-later : goal.returns-in-Err-fill_file-clause-later
returns-in-Err-fill_file-clause-later g c =
    later_then _ _ _ (later_then _ _ _ c.new_file.ensures.spends.later c.fill_file.ensures.later) c.delete.ensures.later
