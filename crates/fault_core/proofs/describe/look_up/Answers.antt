use Rattle.std.proofs.Common.{rules, subst, refl, inr}
use Rattle.space_tables.specs.Answer.{IfMem, IfMalformed, FromMemory}
use Rattle.space_tables.specs.Form.{BreaksLookUp}
use Rattle.filer_kernel.specs.Tables.{IsTableAccounted}
use Rattle.filer_kernel.specs.View.{view_of, TablesAre}
use Rattle.fault_core.proofs.ReachLemmas.{tables_of}
use Rattle.fault_core.proofs.RevealedLemmas.{spaces_in}
use Rattle.fault_core.proofs.TurnLemmas.{tables_halt}
use Rattle.fault_core.proofs.OutcomeLemmas.{alone_itself, asked_alone}
use Rattle.fault_core.proofs.describe.look_up.Goals as goal

pub returns-in-Ok-clause-brings : goal.returns-in-Ok-clause-brings
returns-in-Ok-clause-brings g c = asked_alone (view_of c.args.filer.now) (view_of c.ask.new.filer) c.ask.ensures.kept c.ask.ensures.same

pub returns-in-Ok-clause-comes : goal.returns-in-Ok-clause-comes
returns-in-Ok-clause-comes g c = record {
  none = search rules;
  form = search rules;
  interval = λ b ss revealed t. c.in-Ok.ensures.interval ss (spaces_in (TablesAre (view_of c.args.filer.now)) c.args.intervals ss b revealed t);
}

pub returns-in-Err-Malformed-clause-cause : goal.returns-in-Err-Malformed-clause-cause
returns-in-Err-Malformed-clause-cause g c =
    inr (
      refl,
      record {
        in_root = c.if-page-ge-ROOT_PAGES.false;
        breaks = λ b reveals. subst (IfMalformed (BreaksLookUp c.args.page c.args.intervals b)) c.in-Err-Malformed.field-0-is (c.in-Err-Malformed.ensures.fails.malformed b reveals);
      },
    )

pub returns-in-Err-Malformed-clause-sound : goal.returns-in-Err-Malformed-clause-sound
returns-in-Err-Malformed-clause-sound g c = λ m named b ss known t.
    absurd (subst FromMemory c.in-Err-Malformed.field-0-is (c.in-Err-Malformed.ensures.fails.right ss (spaces_in (TablesAre (view_of c.args.filer.now)) c.args.intervals ss b (tables_of (view_of c.args.filer.now) m named b known) t)))

pub returns-in-Err-Malformed-clause-brings : goal.returns-in-Err-Malformed-clause-brings
returns-in-Err-Malformed-clause-brings g c = asked_alone (view_of c.args.filer.now) (view_of c.ask.new.filer) c.ask.ensures.kept c.ask.ensures.same

pub returns-in-Err-Mem-clause-cause : goal.returns-in-Err-Mem-clause-cause
returns-in-Err-Mem-clause-cause g c =
    let filer = c.args.filer.now in
    let fault = subst (IfMem (IsTableAccounted (view_of filer).disk (view_of filer).slots (view_of filer).layout filer.runs (view_of c.ask.new.filer).disk)) c.in-Err-Mem.field-0-is c.in-Err-Mem.ensures.fails.cause in
    tables_halt (view_of filer) (view_of c.ask.new.filer) _ c.in-Err-Mem.halt fault

pub returns-in-Err-Mem-clause-sound : goal.returns-in-Err-Mem-clause-sound
returns-in-Err-Mem-clause-sound g c = λ m named b ss known t.
    let filer = c.args.filer.now in
    let fault = subst (IfMem (IsTableAccounted (view_of filer).disk (view_of filer).slots (view_of filer).layout filer.runs (view_of c.ask.new.filer).disk)) c.in-Err-Mem.field-0-is c.in-Err-Mem.ensures.fails.cause in
    fault.sound m b known.stands known.map_labels (tables_of (view_of filer) m named b known)

pub returns-in-Err-Mem-clause-brings : goal.returns-in-Err-Mem-clause-brings
returns-in-Err-Mem-clause-brings g c = asked_alone (view_of c.args.filer.now) (view_of c.ask.new.filer) c.ask.ensures.kept c.ask.ensures.same

-- ---- Frames stay, or give way.

pub returns-then-page-ge-ROOT_PAGES-clause-brings : goal.returns-then-page-ge-ROOT_PAGES-clause-brings
returns-then-page-ge-ROOT_PAGES-clause-brings g c = alone_itself (view_of c.args.filer.now)
