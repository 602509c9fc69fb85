use Rattle.std.proofs.Common.{rules, refl, inl, ◌≡◌, ◌<◌, arith, ◌≤◌}
use Rattle.file_manager.proofs.TablesMade.{tables_none, tables_more, tables_sound, tables_all, tables_made, tables_cost}
use Rattle.file_manager.proofs.UpTo.{up_cause, up_cost, up_stopped}
use Rattle.file_manager.proofs.Faults.{counted_then}
use Rattle.file_manager.proofs.RootCalls.{grew_root, grown_root}
use Rattle.file_manager.proofs.tables.make_pages.Goals as goal
use Rattle.filer_kernel.specs.View.{accepted, view_of}

pub loop-page-init : goal.loop-page-init
loop-page-init g c = tables_none _ _ _ _ c.requires.size

pub loop-page-preserved : goal.loop-page-preserved
loop-page-preserved g c =
    let below : c.loop-page.page < 96 = search rules in
    tables_more c.loop-page.page _ _ _ (accepted c.args.filer.now) _ _ _ _ _ c.loop-page.invariant below c.in-Ok.run' _ _ _ _ c.in-Ok.ensures.run.0 c.in-Ok.ensures.writes c.in-Ok.ensures.made c.in-Ok.ensures.stays.layout c.in-Ok.ensures.stays.runs c.in-Ok.ensures.cost.1 c.make_run.ensures.stays.come c.in-Ok.ensures.run.2 c.in-Ok.ensures.run.1 (λ o named h may untold none. c.in-Ok.ensures.accounts o named h none may untold) c.in-Ok.ensures.tables

pub make_run-requires-clause-to_make : goal.make_run-requires-clause-to_make
make_run-requires-clause-to_make g c =
    let below : c.loop-page.page < 96 = search rules in
    record { pages = (omega (arith, below), omega (arith, below)); of_file = inl (refl, refl, omega (arith, below)) }

pub returns-in-Err-clause-made : goal.returns-in-Err-clause-made
returns-in-Err-clause-made g c =
    let below : c.loop-page.page < 96 = search rules in
    tables_sound c.loop-page.page _ _ _ (accepted c.args.filer.now) _ _ _ _ _ c.loop-page.invariant below c.in-Err.halt c.in-Err.ensures.made

pub returns-in-Err-clause-writes : goal.returns-in-Err-clause-writes
returns-in-Err-clause-writes g c =
    up_stopped 3 0 0 96 c.loop-page.page _ _ _ (accepted c.args.filer.now) _ _ _ _ _ c.loop-page.invariant.up (omega arith) _ _ c.loop-page.invariant.up.below c.in-Err.ensures.writes

pub returns-in-Err-clause-cost : goal.returns-in-Err-clause-cost
returns-in-Err-clause-cost g c =
    let below : c.loop-page.page < 96 = search rules in
    up_cost 3 0 0 96 c.loop-page.page _ _ _ (accepted c.args.filer.now) _ _ _ _ _ c.loop-page.invariant.up (omega arith) (view_of c.make_run.new.filer).disk below c.in-Err.ensures.cost.0

pub returns-clause-made : goal.returns-clause-made
returns-clause-made g c =
    let all : c.loop-page.page ≡ 96 = search rules in
    tables_all c.loop-page.page _ _ _ _ _ _ _ _ all c.loop-page.invariant

pub returns-clause-writes : goal.returns-clause-writes
returns-clause-writes g c =
    let all : c.loop-page.page ≡ 96 = search rules in
    tables_made c.loop-page.page _ _ _ _ _ _ _ _ all c.loop-page.invariant

pub returns-clause-cost : goal.returns-clause-cost
returns-clause-cost g c =
    let all : c.loop-page.page ≡ 96 = search rules in
    tables_cost c.loop-page.page _ _ _ _ _ _ _ _ all c.loop-page.invariant

pub returns-in-Err-clause-fails : goal.returns-in-Err-clause-fails
returns-in-Err-clause-fails g c = record {
  cause =
      let below : c.loop-page.page < 96 = search rules in
      up_cause 3 0 0 96 c.loop-page.page _ _ _ (accepted c.args.filer.now) _ _ _ _ _ c.loop-page.invariant.up (omega arith) (λ p. p < 96) (λ p own. own.1) (view_of c.make_run.new.filer).disk (view_of c.make_run.new.filer).slots c.in-Err.halt below (rw c.loop-page.invariant.up.same_layout at c.in-Err.ensures.fails.cause);
  counted = counted_then _ _ _ c.loop-page.invariant.up.makes.makes.went.faults c.in-Err.ensures.fails.counted;
  evidence_seen = search rules;
}

pub returns-in-Err-clause-stays : goal.returns-in-Err-clause-stays
returns-in-Err-clause-stays g c = record { root = grew_root {id = 3} (λ same. omega (arith, same)) (returns-in-Err-clause-writes g c); layout = search rules; runs = search rules }

pub returns-clause-stays : goal.returns-clause-stays
returns-clause-stays g c = record { root = grown_root {id = 3} (λ same. omega (arith, same)) (returns-clause-writes g c); layout = search rules; runs = search rules }

pub returns-clause-accounts : goal.returns-clause-accounts
returns-clause-accounts g c = λ o named h untold none.
    let all : 96 ≤ c.loop-page.page = search rules in
    let now = c.loop-page.invariant.up.keeps o named h (λ client. absurd (omega (arith, client))) (λ same. untold) (λ p sector own. none p sector own.1) in
    (now.0, (now.1, (λ page below. now.4 page (omega arith) (omega (arith, below, all)), untold)))

pub returns-in-Err-clause-accounts : goal.returns-in-Err-clause-accounts
returns-in-Err-clause-accounts g c = λ o named h untold none.
    let below : c.loop-page.page < 96 = search rules in
    let now = c.loop-page.invariant.up.keeps o named h (λ client. absurd (omega (arith, client))) (λ same. untold) (λ p sector own. none p sector own.1) in
    rw c.loop-page.invariant.up.same_layout at (c.in-Err.ensures.accounts o now.0 now.1 (λ p sector own. let last = own.1 in now.2 p sector (own.0, omega (arith, last, below))))

pub returns-clause-tables : goal.returns-clause-tables
returns-clause-tables g c = λ o named h none.
    let all : c.loop-page.page ≡ 96 = search rules in
    let now = c.loop-page.invariant.revealed o named h none in
    let long = now.3 in
    (now.0, (now.1, (now.2, (omega (arith, long, all), λ page below. now.5 page (omega arith) (omega (arith, below, all))))))
