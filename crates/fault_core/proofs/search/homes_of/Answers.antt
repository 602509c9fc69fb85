use Rattle.std.proofs.Common.{rules, ◌≡◌, subst, arith, ◌+◌}
use Rattle.std.proofs.lemmas.List.{length-replicate}
use Rattle.filer_kernel.specs.View.{accepted, view_of}
use Rattle.fault_core.proofs.FindLemmas.{IsFinding, finding_none, finding_more, finding_run, finding_halt, finding_sound, finding_came, finding_room, finding_stay, finding_stopped, finding_cost, found_are, found_each, found_named}
use Rattle.fault_core.proofs.search.homes_of.Given as given
use Rattle.fault_core.specs.Lack.{run_pages}
use Rattle.fault_core.proofs.LackLemmas.{misses_wider}
use Rattle.swapper_kernel.specs.Goes.{this_page}
use Rattle.fault_core.proofs.search.homes_of.Goals as goal
use Rattle.fault_core.proofs.search.homes_of.Goals.{After-loop-k}

pub loop-k-init : goal.loop-k-init
loop-k-init g c = (finding_none (view_of c.args.filer.now) c.args.id c.args.first c.args.pages _ c.requires.size (simp length-replicate), search rules)

pub run_at-requires-clause-size : goal.run_at-requires-clause-size
run_at-requires-clause-size g c = c.loop-k.invariant.0.size

pub returns-in-Err-clause-fails : goal.returns-in-Err-clause-fails
returns-in-Err-clause-fails g c = record {
  cause = finding_halt (accepted c.args.filer.now) c.loop-k.invariant.0 (view_of c.run_at.new.filer) c.in-Err.halt c.in-Err.ensures.cause;
  misses =
      let below = c.loop-k-test.true in
      misses_wider (this_page c.args.id (c.args.first + c.loop-k.k)) (run_pages c.args.id c.args.first c.args.pages) (λ i p own. let at = own.1 in (own.0, omega (arith, at), omega (arith, at, below))) c.in-Err.halt c.in-Err.ensures.misses;
  sound = finding_sound (accepted c.args.filer.now) c.loop-k.invariant.0 c.in-Err.halt c.loop-k-test.true c.in-Err.ensures.sound;
}

pub returns-in-Err-clause-brings : goal.returns-in-Err-clause-brings
returns-in-Err-clause-brings g c = record {
  reaches = finding_stopped (accepted c.args.filer.now) c.loop-k.invariant.0 (view_of c.run_at.new.filer) c.run_at.ensures.brings.reaches;
  came = finding_came (accepted c.args.filer.now) c.loop-k.invariant.0 (view_of c.run_at.new.filer).slots c.run_at.ensures.brings.came;
  room = finding_room (accepted c.args.filer.now) c.loop-k.invariant.0 (view_of c.run_at.new.filer).slots c.run_at.ensures.brings.room;
  stay = finding_stay (accepted c.args.filer.now) c.loop-k.invariant.0 (view_of c.run_at.new.filer).slots c.run_at.ensures.brings.stay;
}

pub returns-in-Err-clause-cost : goal.returns-in-Err-clause-cost
returns-in-Err-clause-cost g c = finding_cost (accepted c.args.filer.now) c.loop-k.invariant.0 (view_of c.run_at.new.filer) c.loop-k-test.true c.run_at.ensures.cost

pub loop-k-preserved : goal.loop-k-preserved
loop-k-preserved g c =
    let is = accepted c.args.filer.now in
    let found = c.loop-k.invariant.0 in
    let brings = c.run_at.ensures.brings in
    let run = finding_run is found c.loop-k.hand c.in-Ok.run' c.loop-k.invariant.1 c.in-Ok.ensures.which in
    (finding_more is found (view_of c.run_at.new.filer) c.in-Ok.run' c.requires.few c.loop-k-test.true c.requires.client run c.in-Ok.ensures.holds brings.reaches brings.came brings.room brings.stay c.run_at.ensures.cost, run)

-- ---- All were found.

all : (g : given.Over) (c : After-loop-k g) → IsFinding (view_of c.args.filer.now) c.args.id c.args.first c.args.pages (view_of c.loop-k.filer) c.loop-k.homes c.args.pages
all g c =
    let below = c.loop-k.invariant.0.below in
    let past = c.loop-k-test.false in
    let same : c.loop-k.k ≡ c.args.pages = omega (arith, below, past) in
    subst (IsFinding (view_of c.args.filer.now) c.args.id c.args.first c.args.pages (view_of c.loop-k.filer) c.loop-k.homes) same c.loop-k.invariant.0

pub returns-clause-comes : goal.returns-clause-comes
returns-clause-comes g c =
    let done = all g (goal.at.returns-clause-comes g c).After-loop-k in
    record { are = found_are c.requires.few done; found = found_each c.requires.few done; named = found_named c.requires.few done }

pub returns-clause-brings : goal.returns-clause-brings
returns-clause-brings g c =
    let done = all g (goal.at.returns-clause-brings g c).After-loop-k in
    record { reaches = done.reaches; came = done.came; room = done.room; stay = done.stay }

pub returns-clause-cost : goal.returns-clause-cost
returns-clause-cost g c = (all g (goal.at.returns-clause-cost g c).After-loop-k).cost
