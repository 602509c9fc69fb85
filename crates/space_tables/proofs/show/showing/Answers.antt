use Rattle.std.proofs.Common.{List, Some, refl, sym, ◌∙◌, ap, arith}
use Rattle.flat_machine.specs.declared.space.Space.{Space}
use Rattle.space_tables.specs.declared.scan.Test.TheVariants.{Shows}
use Rattle.space_tables.specs.Scan.{passes, HaveAll}
use Rattle.space_tables.specs.Stored.{RevealSpaces}
use Rattle.space_tables.proofs.Right.{right_reads}
use Rattle.space_tables.proofs.Passes.{still_hold}
use Rattle.space_tables.proofs.NamedLemmas.{showing_named}
use Rattle.space_tables.proofs.Outs.{handed, cause_on, no_page, not_refused}
use Rattle.space_tables.specs.Form.{BreaksHierarchy}
use Rattle.space_tables.proofs.show.showing.Given as given
use Rattle.space_tables.proofs.show.showing.Goals as goal
use Rattle.space_tables.proofs.show.showing.Goals.{In_ok-handles}

-- the handles of all spaces that show the file were found
all_named : (g : given.Over) (c : In_ok-handles g) (ss : List Space) (t : RevealSpaces (g.M.FlatMem.reveals c.args.mem.now) c.args.count ss)
    → HaveAll (passes (Shows c.args.id c.args.writable_only)) t.slots c.in_ok-handles.handles
all_named g c ss t = showing_named t.hold.bytes t.slots t.xs t.hold.are t.right c.args.id c.args.writable_only c.args.count c.in_ok-handles.handles t.counted (c.in_ok-handles.ensures.named t.hold.bytes t.hold.revealed)

pub returns-in_err-found-clause-right : goal.returns-in_err-found-clause-right
returns-in_err-found-clause-right g c = λ ss t.
    let all = all_named g (goal.at.returns-in_err-found-clause-right g c).In_ok-handles ss t in
    let now = still_hold g.M.FlatMem.reveals c.args.mem.now c.named_handles.new.mem c.named_handles.ensures.unchanged t.slots t.xs t.hold in
    let m = c.in_err-found.ensures.found t.slots t.xs now (right_reads t.slots t.xs t.right) all in handed _ _ _ _ c.from_residual-in_err-found.ensures.1 m

pub returns-in_default-clause-answer : goal.returns-in_default-clause-answer
returns-in_default-clause-answer g c = λ ss t.
    let all = all_named g (goal.at.returns-in_default-clause-answer g c).In_ok-handles ss t in
    let now = still_hold g.M.FlatMem.reveals c.args.mem.now c.named_handles.new.mem c.named_handles.ensures.unchanged t.slots t.xs t.hold in
    let found = rw t.spaces at (c.in_ok-found.ensures.found t.slots t.xs now (right_reads t.slots t.xs t.right) all) in sym found ∙ c.in_default.is

pub returns-in-Some-window-clause-answer : goal.returns-in-Some-window-clause-answer
returns-in-Some-window-clause-answer g c = λ ss t.
    let all = all_named g (goal.at.returns-in-Some-window-clause-answer g c).In_ok-handles ss t in
    let now = still_hold g.M.FlatMem.reveals c.args.mem.now c.named_handles.new.mem c.named_handles.ensures.unchanged t.slots t.xs t.hold in
    let found = rw t.spaces at (c.in_ok-found.ensures.found t.slots t.xs now (right_reads t.slots t.xs t.right) all) in
    (c.in-Some.found, sym found ∙ c.in-Some.is, refl, c.in-Some-window.is ∙ ap Some (sym c.shown_in.ensures))

pub returns-in_err-handles-clause-looks : goal.returns-in_err-handles-clause-looks
returns-in_err-handles-clause-looks g c = record {
  unchanged = λ b h. c.named_handles.ensures.unchanged b h;
  kept = c.named_handles.ensures.kept;
  looked = c.named_handles.ensures.looked;
  cause = handed _ _ _ _ c.from_residual.ensures.1 c.in_err-handles.ensures.cause;
  cost = omega (arith, c.named_handles.ensures.cost);
}

pub returns-in_err-handles-clause-answer : goal.returns-in_err-handles-clause-answer
returns-in_err-handles-clause-answer g c = λ ss t. handed _ _ _ _ c.from_residual.ensures.1 tt

pub returns-in_err-handles-clause-form : goal.returns-in_err-handles-clause-form
returns-in_err-handles-clause-form g c = handed _ _ _ _ c.from_residual.ensures.1 tt

pub returns-in_err-handles-clause-read : goal.returns-in_err-handles-clause-read
returns-in_err-handles-clause-read g c = λ b h. handed _ _ _ _ c.from_residual.ensures.1 tt

pub returns-in_err-handles-clause-right : goal.returns-in_err-handles-clause-right
returns-in_err-handles-clause-right g c = λ ss t. handed _ _ _ _ c.from_residual.ensures.1 c.in_err-handles.ensures.memory

pub returns-in_err-handles-clause-malformed : goal.returns-in_err-handles-clause-malformed
returns-in_err-handles-clause-malformed g c = λ b h. handed _ _ _ _ c.from_residual.ensures.1 (no_page (BreaksHierarchy b) _ c.in_err-handles.ensures.memory)

pub returns-in_err-handles-clause-refused : goal.returns-in_err-handles-clause-refused
returns-in_err-handles-clause-refused g c = handed _ _ _ _ c.from_residual.ensures.1 (not_refused _ c.in_err-handles.ensures.memory)

pub returns-in_err-found-clause-looks : goal.returns-in_err-found-clause-looks
returns-in_err-found-clause-looks g c = record {
  unchanged = λ b h. c.find_space.ensures.unchanged b (c.named_handles.ensures.unchanged b h);
  kept = g.met.M.FlatMem.beside_through _ _ _ c.named_handles.ensures.kept c.find_space.ensures.kept;
  looked = g.met.M.FlatMem.only_reads_through _ _ _ c.named_handles.ensures.looked c.find_space.ensures.looked;
  cause = handed _ _ _ _ c.from_residual-in_err-found.ensures.1 (cause_on g.M.FlatMem g.met.M.FlatMem.beside_itself g.met.M.FlatMem.accounted_wider _ _ _ c.named_handles.ensures.kept c.find_space.ensures.kept _ c.in_err-found.ensures.cause);
  cost = omega (arith, c.named_handles.ensures.cost, c.find_space.ensures.cost);
}

pub returns-in_err-found-clause-answer : goal.returns-in_err-found-clause-answer
returns-in_err-found-clause-answer g c = λ ss t. handed _ _ _ _ c.from_residual-in_err-found.ensures.1 tt

pub returns-in_err-found-clause-form : goal.returns-in_err-found-clause-form
returns-in_err-found-clause-form g c = handed _ _ _ _ c.from_residual-in_err-found.ensures.1 tt

pub returns-in_err-found-clause-read : goal.returns-in_err-found-clause-read
returns-in_err-found-clause-read g c = λ b h. handed _ _ _ _ c.from_residual-in_err-found.ensures.1 tt

pub returns-in_err-found-clause-malformed : goal.returns-in_err-found-clause-malformed
returns-in_err-found-clause-malformed g c = λ b h. handed _ _ _ _ c.from_residual-in_err-found.ensures.1 (c.in_err-found.ensures.malformed b (c.named_handles.ensures.unchanged b h))

pub returns-in_err-found-clause-refused : goal.returns-in_err-found-clause-refused
returns-in_err-found-clause-refused g c = handed _ _ _ _ c.from_residual-in_err-found.ensures.1 c.in_err-found.ensures.refused

pub returns-in_default-clause-looks : goal.returns-in_default-clause-looks
returns-in_default-clause-looks g c = record {
  unchanged = λ b h. c.find_space.ensures.unchanged b (c.named_handles.ensures.unchanged b h);
  kept = g.met.M.FlatMem.beside_through _ _ _ c.named_handles.ensures.kept c.find_space.ensures.kept;
  looked = g.met.M.FlatMem.only_reads_through _ _ _ c.named_handles.ensures.looked c.find_space.ensures.looked;
  cause = tt;
  cost = omega (arith, c.named_handles.ensures.cost, c.find_space.ensures.cost);
}

pub returns-in_default-clause-right : goal.returns-in_default-clause-right
returns-in_default-clause-right g c = λ ss t. tt

pub returns-in_default-clause-malformed : goal.returns-in_default-clause-malformed
returns-in_default-clause-malformed g c = λ b h. tt

pub returns-in_default-clause-refused : goal.returns-in_default-clause-refused
returns-in_default-clause-refused g c = tt

pub returns-in-Some-window-clause-looks : goal.returns-in-Some-window-clause-looks
returns-in-Some-window-clause-looks g c = record {
  unchanged = λ b h. c.find_space.ensures.unchanged b (c.named_handles.ensures.unchanged b h);
  kept = g.met.M.FlatMem.beside_through _ _ _ c.named_handles.ensures.kept c.find_space.ensures.kept;
  looked = g.met.M.FlatMem.only_reads_through _ _ _ c.named_handles.ensures.looked c.find_space.ensures.looked;
  cause = tt;
  cost = omega (arith, c.named_handles.ensures.cost, c.find_space.ensures.cost);
}

pub returns-in-Some-window-clause-right : goal.returns-in-Some-window-clause-right
returns-in-Some-window-clause-right g c = λ ss t. tt

pub returns-in-Some-window-clause-malformed : goal.returns-in-Some-window-clause-malformed
returns-in-Some-window-clause-malformed g c = λ b h. tt

pub returns-in-Some-window-clause-refused : goal.returns-in-Some-window-clause-refused
returns-in-Some-window-clause-refused g c = tt

pub returns-in-None-clause-looks : goal.returns-in-None-clause-looks
returns-in-None-clause-looks g c = record {
  unchanged = λ b h. c.find_space.ensures.unchanged b (c.named_handles.ensures.unchanged b h);
  kept = g.met.M.FlatMem.beside_through _ _ _ c.named_handles.ensures.kept c.find_space.ensures.kept;
  looked = g.met.M.FlatMem.only_reads_through _ _ _ c.named_handles.ensures.looked c.find_space.ensures.looked;
  cause = tt;
  cost = omega (arith, c.named_handles.ensures.cost, c.find_space.ensures.cost);
}

pub returns-in-None-clause-right : goal.returns-in-None-clause-right
returns-in-None-clause-right g c = λ ss t. tt

pub returns-in-None-clause-malformed : goal.returns-in-None-clause-malformed
returns-in-None-clause-malformed g c = λ b h. tt

pub returns-in-None-clause-refused : goal.returns-in-None-clause-refused
returns-in-None-clause-refused g c = tt
