use Rattle.std.proofs.Common.{◌≡◌, map, take}
use Rattle.scavenger.specs.Reported.{lost_in, labelled}
use Rattle.scavenger.proofs.report.Report.list.Given as goal

-- the lost sectors before this one are listed
abbrev pub invariant-loop-k : goal.invariant-loop-k
invariant-loop-k g l = record {
  listed : lost_in l.self ≡ map (labelled l.first l.labels) (take l.k l.lost);
  files : l.self.files ≡ l.fn.self.files;
  pages : l.self.pages ≡ l.fn.self.pages;
  freed : l.self.freed ≡ l.fn.self.freed;
}
