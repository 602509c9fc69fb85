use Rattle.std.proofs.Common.{◌≡◌, ℕ, List, Ok, Err, rules, length, refl, ◌∙◌, ap, subst, arith}
use Rattle.flat_mem.specs.Vec.{vec_mem_bytes}
use Rattle.labelled_disk.specs.declared.disk.DiskError.{DiskError}
use Rattle.page_tree.specs.Page.{page_at}
use Rattle.scavenger.specs.Carries.{Carries}
use Rattle.scavenger.specs.Orders.{map_writes}
use Rattle.scavenger.proofs.CarryLemmas.{page_more, page_stopped}
use Rattle.scavenger.proofs.RowLemmas.{carries_none}
use Rattle.scavenger.proofs.writing.write_map.Goals as goal

pub loop-i-init : goal.loop-i-init
loop-i-init g c = record { made = carries_none (g.D.Disk.state c.args.disk.now); same = refl }

pub page_of-page-requires : goal.page_of-page-requires
page_of-page-requires g c = omega (arith, c.requires.whole, ap (λ (b : List ℕ). length b) c.loop-i.invariant.same, c.loop-i-test.true)

pub write-requires : goal.write-requires
write-requires g c = omega (arith, c.loop-i.invariant.made.later.sectors, c.requires.inside, c.loop-i-test.true)

pub returns-in_err-write : goal.returns-in_err-write
returns-in_err-write g c =
    let same : c.from_residual.result ≡ Err c.in_err-write.field-0.0 = search rules in
    rw same (page_stopped c.args.id c.args.first (vec_mem_bytes c.args.map.now) (g.D.Disk.state c.args.disk.now) (g.D.Disk.state c.loop-i.disk) (g.D.Disk.state c.write.new.self)
    c.loop-i.i c.of_page.result c.page_of-page.result c.of_page.ensures (c.page_of-page.ensures.page ∙ ap (λ (b : List ℕ). page_at b c.loop-i.i) c.loop-i.invariant.same)
    c.args.pages _ _ c.loop-i-test.true c.loop-i.invariant.made c.in_err-write.ensures)

pub loop-i-preserved : goal.loop-i-preserved
loop-i-preserved g c = record {
  made =
      page_more c.args.id c.args.first (vec_mem_bytes c.args.map.now) (g.D.Disk.state c.args.disk.now) (g.D.Disk.state c.loop-i.disk) (g.D.Disk.state c.write.new.self)
      c.loop-i.i c.of_page.result c.page_of-page.result c.of_page.ensures (c.page_of-page.ensures.page ∙ ap (λ (b : List ℕ). page_at b c.loop-i.i) c.loop-i.invariant.same)
      c.loop-i.invariant.made c.in_ok-write.ensures;
  same = c.page_of-page.ensures.same ∙ c.loop-i.invariant.same;
}

pub returns : goal.returns
returns g c =
    let all : c.loop-i.i ≡ c.args.pages = omega (arith, c.loop-i-test.false, c.loop-i.auto.i-end) in
    subst (λ (k : ℕ). Carries {E = DiskError} (map_writes c.args.id c.args.first (vec_mem_bytes c.args.map.now) k) (g.D.Disk.state c.args.disk.now) (Ok tt) (g.D.Disk.state c.loop-i.disk)) all c.loop-i.invariant.made
