use Rattle.pilot_top.proofs.JudgedRootLemmas.{HasReadRoot, both_opened, first_refused, second_refused}
use Rattle.pilot_top.proofs.replicating.judge_roots.Goals as goal

-- the first root can't be opened
pub returns-in-Err : goal.returns-in-Err
returns-in-Err g c =
    let r = c.read_root.ensures in
    let first : HasReadRoot (g.D.Disk.state c.args.disk.now) (g.D.Disk.state c.read_root.new.disk) c.read_root.result =
    record { whole = g.met.D.Disk.whole c.args.disk.now; form = g.met.D.Disk.in_form c.args.disk.now; count = r.count; judges = λ count d revealed. r.judged count d revealed; cause = r.cause; reads = r.only_reads } in
    first_refused (g.D.Disk.state c.args.disk.now) (g.E.Disk.state c.args.other.now) (g.D.Disk.state c.read_root.new.disk) (g.E.Disk.state c.args.other.now) c.read_root.result first c.in-Err.why c.in-Err.is

-- it can, and the second can't
pub returns-in-Err-read_root : goal.returns-in-Err-read_root
returns-in-Err-read_root g c =
    let r = c.read_root.ensures in
    let s = c.read_root-2.ensures in
    let first : HasReadRoot (g.D.Disk.state c.args.disk.now) (g.D.Disk.state c.read_root.new.disk) c.read_root.result =
    record { whole = g.met.D.Disk.whole c.args.disk.now; form = g.met.D.Disk.in_form c.args.disk.now; count = r.count; judges = λ count d revealed. r.judged count d revealed; cause = r.cause; reads = r.only_reads } in
    let second : HasReadRoot (g.E.Disk.state c.args.other.now) (g.E.Disk.state c.read_root-2.new.disk) c.read_root-2.result =
    record { whole = g.met.E.Disk.whole c.args.other.now; form = g.met.E.Disk.in_form c.args.other.now; count = s.count; judges = λ count d revealed. s.judged count d revealed; cause = s.cause; reads = s.only_reads } in
    second_refused (g.D.Disk.state c.args.disk.now) (g.E.Disk.state c.args.other.now) (g.D.Disk.state c.read_root.new.disk) (g.E.Disk.state c.read_root-2.new.disk) c.read_root.result first c.in-Ok.field-0 c.in-Ok.is c.in-Ok.ensures.valid.accepted
    c.read_root-2.result second c.in-Err-read_root.why c.in-Err-read_root.is

-- both can
pub returns-in-Ok-read_root : goal.returns-in-Ok-read_root
returns-in-Ok-read_root g c =
    let r = c.read_root.ensures in
    let s = c.read_root-2.ensures in
    let first : HasReadRoot (g.D.Disk.state c.args.disk.now) (g.D.Disk.state c.read_root.new.disk) c.read_root.result =
    record { whole = g.met.D.Disk.whole c.args.disk.now; form = g.met.D.Disk.in_form c.args.disk.now; count = r.count; judges = λ count d revealed. r.judged count d revealed; cause = r.cause; reads = r.only_reads } in
    let second : HasReadRoot (g.E.Disk.state c.args.other.now) (g.E.Disk.state c.read_root-2.new.disk) c.read_root-2.result =
    record { whole = g.met.E.Disk.whole c.args.other.now; form = g.met.E.Disk.in_form c.args.other.now; count = s.count; judges = λ count d revealed. s.judged count d revealed; cause = s.cause; reads = s.only_reads } in
    both_opened (g.D.Disk.state c.args.disk.now) (g.E.Disk.state c.args.other.now) (g.D.Disk.state c.read_root.new.disk) (g.E.Disk.state c.read_root-2.new.disk) c.read_root.result first c.in-Ok.field-0 c.in-Ok.is c.in-Ok.ensures.valid.accepted
    c.read_root-2.result second c.in-Ok-read_root.field-0 c.in-Ok-read_root.is c.in-Ok-read_root.ensures.valid.accepted
