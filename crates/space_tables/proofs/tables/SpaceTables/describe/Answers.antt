use Rattle.std.proofs.Common.{◌<◌, refl, arith}
use Rattle.flat_machine.specs.Space.{root_pages}
use Rattle.space_tables.proofs.Outs.{handed}
use Rattle.space_tables.proofs.tables.SpaceTables.describe.Goals as goal

pub returns-then-page-ge-ROOT_PAGES-clause-none : goal.returns-then-page-ge-ROOT_PAGES-clause-none
returns-then-page-ge-ROOT_PAGES-clause-none g c = (λ e. omega (arith, c.if-page-ge-ROOT_PAGES.true), λ l. refl)

pub returns-then-page-ge-ROOT_PAGES-clause-looks : goal.returns-then-page-ge-ROOT_PAGES-clause-looks
returns-then-page-ge-ROOT_PAGES-clause-looks g c = record {
  unchanged = λ b h. h;
  kept = g.met.M.FlatMem.beside_itself _;
  looked = g.met.M.FlatMem.only_reads_itself _;
  cause = tt;
  cost = omega arith;
}

pub returns-in_err-interval-clause-interval : goal.returns-in_err-interval-clause-interval
returns-in_err-interval-clause-interval g c = λ ss t. handed _ _ _ _ c.from_residual.ensures.1 tt

pub returns-in_err-interval-clause-right : goal.returns-in_err-interval-clause-right
returns-in_err-interval-clause-right g c = λ ss t.
    let inside : c.args.page < root_pages = omega (arith, c.if-page-ge-ROOT_PAGES.false) in
    handed _ _ _ _ c.from_residual.ensures.1 (c.in_err-interval.ensures.found t.slots t.xs t.hold t.right t.counted inside)

pub returns-in_err-interval-clause-none : goal.returns-in_err-interval-clause-none
returns-in_err-interval-clause-none g c = handed _ _ _ _ c.from_residual.ensures.1 tt

pub returns-in_err-interval-clause-form : goal.returns-in_err-interval-clause-form
returns-in_err-interval-clause-form g c = handed _ _ _ _ c.from_residual.ensures.1 tt

pub returns-in_err-interval-clause-read : goal.returns-in_err-interval-clause-read
returns-in_err-interval-clause-read g c = λ b h. handed _ _ _ _ c.from_residual.ensures.1 tt

pub returns-in_err-interval-clause-malformed : goal.returns-in_err-interval-clause-malformed
returns-in_err-interval-clause-malformed g c = λ b h. handed _ _ _ _ c.from_residual.ensures.1 (c.in_err-interval.ensures.malformed b h)

pub returns-in_err-interval-clause-refused : goal.returns-in_err-interval-clause-refused
returns-in_err-interval-clause-refused g c = handed _ _ _ _ c.from_residual.ensures.1 c.in_err-interval.ensures.refused

pub returns-in_err-interval-clause-looks : goal.returns-in_err-interval-clause-looks
returns-in_err-interval-clause-looks g c = record {
  unchanged = λ b h. c.find.ensures.looks.unchanged b h;
  kept = c.find.ensures.looks.kept;
  looked = c.find.ensures.looks.looked;
  cause = handed _ _ _ _ c.from_residual.ensures.1 c.in_err-interval.ensures.looks.cause;
  cost = c.find.ensures.looks.cost;
}

pub returns-clause-form : goal.returns-clause-form
returns-clause-form g c = (c.in_ok-interval.ensures.form.1, c.in_ok-interval.ensures.form.2)

pub returns-clause-looks : goal.returns-clause-looks
returns-clause-looks g c = record {
  unchanged = λ b h. c.find.ensures.looks.unchanged b h;
  kept = c.find.ensures.looks.kept;
  looked = c.find.ensures.looks.looked;
  cause = tt;
  cost = c.find.ensures.looks.cost;
}
