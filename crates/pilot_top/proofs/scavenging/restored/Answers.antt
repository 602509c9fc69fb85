use Rattle.std.proofs.Common.{rules, ◌≡◌, inl, inr, Err, ◌∙◌}
use Rattle.scavenger.specs.declared.fault.ScavengeFault.TheVariants as why
use Rattle.scavenger.specs.Orders.{scavenge_writes}
use Rattle.scavenger.proofs.BetweenLemmas.{crash_states_of_none, reads_same}
use Rattle.scavenger.specs.Restored.{Survives}
use Rattle.scavenger.proofs.TopLemmas.{cuts_after, none_cut}
use Rattle.pilot_top.proofs.ScavengingLemmas.{no_volume, refuses, no_other, made_after, part_after, carried}
use Rattle.pilot_top.proofs.scavenging.restored.Goals as goal

-- the root is refused, or the disk failed there
pub returns-in_err-look_at_root-clause-crash_states : goal.returns-in_err-look_at_root-clause-crash_states
returns-in_err-look_at_root-clause-crash_states g c d before writes revealed earlier later k =
    crash_states_of_none d (g.D.Disk.state c.args.disk.now) (g.D.Disk.state c.look_at_root.new.disk) before writes earlier later k (reads_same c.look_at_root.ensures.only_reads)

pub returns-in_err-look_at_root-clause-refusal : goal.returns-in_err-look_at_root-clause-refusal
returns-in_err-look_at_root-clause-refusal g c f is d revealed =
    let same : c.from_residual.result ≡ Err c.in_err-look_at_root.field-0.0 = search rules in
    no_volume (g.D.Disk.state c.args.disk.now).sectors d (g.met.D.Disk.whole c.args.disk.now d revealed) c.look_at_root.result c.look_at_root.ensures.count (λ n. c.look_at_root.ensures.judged n d revealed) f
    (carried c.in_err-look_at_root.field-0.0 (why.Root f) c.from_residual.result c.look_at_root.result same c.in_err-look_at_root.was is)

pub returns-in_err-look_at_root-clause-refused : goal.returns-in_err-look_at_root-clause-refused
returns-in_err-look_at_root-clause-refused g c d f revealed none =
    let same : c.from_residual.result ≡ Err c.in_err-look_at_root.field-0.0 = search rules in
    elim (refuses (g.D.Disk.state c.args.disk.now).sectors d (g.met.D.Disk.whole c.args.disk.now d revealed) c.look_at_root.result c.look_at_root.ensures.count (λ n. c.look_at_root.ensures.judged n d revealed) f none) [
      | inl root ↦ inl (carried c.in_err-look_at_root.field-0.0 (why.Root f) c.look_at_root.result c.from_residual.result c.in_err-look_at_root.was same root)
      | inr disk ↦ inr (carried c.in_err-look_at_root.field-0.0 why.Disk c.look_at_root.result c.from_residual.result c.in_err-look_at_root.was same disk)
    ]

-- there is no memory for the report
pub returns-in_err-report-clause-crash_states : goal.returns-in_err-report-clause-crash_states
returns-in_err-report-clause-crash_states g c d before writes revealed earlier later k =
    crash_states_of_none d (g.D.Disk.state c.args.disk.now) (g.D.Disk.state c.look_at_root.new.disk) before writes earlier later k (reads_same c.look_at_root.ensures.only_reads)

-- the restoration failed
pub returns-in_err-scavenge-clause-part : goal.returns-in_err-scavenge-clause-part
returns-in_err-scavenge-clause-part g c is d revealed =
    let same : c.from_residual-in_err-scavenge.result ≡ Err c.in_err-scavenge.field-0.0 = search rules in
    part_after d (g.D.Disk.state c.args.disk.now) (g.D.Disk.state c.look_at_root.new.disk) (g.D.Disk.state c.scavenge.new.disk) c.look_at_root.ensures.only_reads
    (c.scavenge.ensures.part (carried c.in_err-scavenge.field-0.0 why.Disk c.from_residual-in_err-scavenge.result c.scavenge.result same c.in_err-scavenge.was is) d
    (c.look_at_root.ensures.only_reads.contents ∙ revealed))

pub returns-in_err-scavenge-clause-crash_states : goal.returns-in_err-scavenge-clause-crash_states
returns-in_err-scavenge-clause-crash_states g c d before writes revealed earlier later k =
    c.scavenge.ensures.crash_states d before writes (c.look_at_root.ensures.only_reads.contents ∙ revealed) (c.look_at_root.ensures.only_reads.writes ∙ earlier) later k

pub returns-in_err-scavenge-clause-refusal : goal.returns-in_err-scavenge-clause-refusal
returns-in_err-scavenge-clause-refusal g c f is d revealed =
    let same : c.from_residual-in_err-scavenge.result ≡ Err c.in_err-scavenge.field-0.0 = search rules in
    let later = c.look_at_root.ensures.only_reads.contents ∙ revealed in
    no_volume (g.D.Disk.state c.look_at_root.new.disk).sectors d (g.met.D.Disk.whole c.look_at_root.new.disk d later) c.scavenge.result c.scavenge.ensures.root.count (λ n. c.scavenge.ensures.root.judged n d later) f
    (carried c.in_err-scavenge.field-0.0 (why.Root f) c.from_residual-in_err-scavenge.result c.scavenge.result same c.in_err-scavenge.was is)

-- the volume is restored
pub returns-clause-restored : goal.returns-clause-restored
returns-clause-restored g c d revealed = c.in_ok-scavenge.ensures.restored d (c.look_at_root.ensures.only_reads.contents ∙ revealed)

pub returns-clause-reports : goal.returns-clause-reports
returns-clause-reports g c d revealed = c.in_ok-scavenge.ensures.report d (c.look_at_root.ensures.only_reads.contents ∙ revealed)

pub returns-clause-made : goal.returns-clause-made
returns-clause-made g c d revealed =
    let made = c.in_ok-scavenge.ensures.made d (c.look_at_root.ensures.only_reads.contents ∙ revealed) in
    (made.0, made.1, made_after (g.D.Disk.state c.args.disk.now) (g.D.Disk.state c.look_at_root.new.disk) (g.D.Disk.state c.scavenge.new.disk) (scavenge_writes made.0) c.look_at_root.ensures.only_reads made.2)

pub returns-clause-crash_states : goal.returns-clause-crash_states
returns-clause-crash_states g c d before writes revealed earlier later k =
    c.scavenge.ensures.crash_states d before writes (c.look_at_root.ensures.only_reads.contents ∙ revealed) (c.look_at_root.ensures.only_reads.writes ∙ earlier) later k

pub returns-clause-refused : goal.returns-clause-refused
returns-clause-refused g c d f revealed none =
    absurd (no_other (g.D.Disk.state c.args.disk.now).sectors d (g.met.D.Disk.whole c.args.disk.now d revealed) c.look_at_root.result c.look_at_root.ensures.count (λ n. c.look_at_root.ensures.judged n d revealed) _ f none c.in_ok-look_at_root.was)

pub returns-clause-refused_unwritten : goal.returns-clause-refused_unwritten
returns-clause-refused_unwritten g c d f revealed none =
    absurd (no_other (g.D.Disk.state c.args.disk.now).sectors d (g.met.D.Disk.whole c.args.disk.now d revealed) c.look_at_root.result c.look_at_root.ensures.count (λ n. c.look_at_root.ensures.judged n d revealed) _ f none c.in_ok-look_at_root.was)

-- what stands where the power went
pub returns-in_err-look_at_root-clause-cuts : goal.returns-in_err-look_at_root-clause-cuts
returns-in_err-look_at_root-clause-cuts g c =
    none_cut Survives (g.D.Disk.state c.args.disk.now) (g.D.Disk.state c.look_at_root.new.disk) c.look_at_root.ensures.only_reads

pub returns-in_err-report-clause-cuts : goal.returns-in_err-report-clause-cuts
returns-in_err-report-clause-cuts g c =
    none_cut Survives (g.D.Disk.state c.args.disk.now) (g.D.Disk.state c.look_at_root.new.disk) c.look_at_root.ensures.only_reads

pub returns-in_err-scavenge-clause-cuts : goal.returns-in_err-scavenge-clause-cuts
returns-in_err-scavenge-clause-cuts g c =
    cuts_after Survives (g.D.Disk.state c.args.disk.now) (g.D.Disk.state c.look_at_root.new.disk) (g.D.Disk.state c.scavenge.new.disk) c.look_at_root.ensures.only_reads c.scavenge.ensures.cuts

pub returns-clause-cuts : goal.returns-clause-cuts
returns-clause-cuts g c =
    cuts_after Survives (g.D.Disk.state c.args.disk.now) (g.D.Disk.state c.look_at_root.new.disk) (g.D.Disk.state c.scavenge.new.disk) c.look_at_root.ensures.only_reads c.scavenge.ensures.cuts
