use Rattle.std.proofs.Common.{◌≡◌, inr, true, Option, subst, arith}
use Rattle.std.specs.Prelude.{IfSome}
use Rattle.file_map.specs.declared.run.Run.{Run}
use Rattle.file_map.specs.Run.{IsRun, holds}
use Rattle.file_map.specs.FileMap.{IsFound, IsNowhere}
use Rattle.swapper_kernel.specs.declared.manager.Manager.TheVariants.{FileMap}
use Rattle.swapper_kernel.specs.Homes.{IsLayout}
use Rattle.filer_kernel.specs.EvidenceLaws.{fits, so_of_map}
use Rattle.filer_kernel.specs.View.{accepted, swapper_of, view_of}
use Rattle.file_manager.proofs.BookLemmas.{kept_are, map_is, map_named, own_maps, run_place}
use Rattle.file_manager.proofs.Faults.{counted}
use Rattle.volume_pair.proofs.PageLemmas.{no_fault, nowhere_not}
use Rattle.volume_pair.proofs.SideLemmas.{books_then}
use Rattle.volume_pair.proofs.pages.sector_of.Goals as goal

pub returns-in-Ok-Some-clause-found : goal.returns-in-Ok-Some-clause-found
returns-in-Ok-Some-clause-found g c = λ x shapes books.
    let v = view_of c.args.filer.now in
    let is : IsLayout v.layout = accepted c.args.filer.now in
    let b = books.booked in
    let map = map_is _ _ shapes x is b in
    let are = kept_are _ _ shapes x is b in (
      books_then v (view_of c.find.new.self) shapes x books (c.find.ensures.leaves.same x b.named books.stands map) (own_maps FileMap v.layout _ _ c.find.ensures.leaves.beside.brings) (c.find.ensures.keeps.runs_are x b.named books.stands map are) c.find.ensures.leaves.looked.layout,
      λ f shape below.
          let found = subst (IsFound b.named c.args.id c.args.page) c.in-Ok-Some.field-0-is (c.in-Ok-Some.ensures.found x b.named books.stands map are) in
          b.triples.only c.args.id c.args.page _ (found.1 c.args.page found.0),
    )

pub returns-in-Ok-Some-clause-inside : goal.returns-in-Ok-Some-clause-inside
returns-in-Ok-Some-clause-inside g c =
    let layout = (view_of c.args.filer.now).layout in
    let form : IsRun layout.sectors c.in-Ok-Some.run' = subst (λ (o : Option Run). IfSome o (λ run. IsRun layout.sectors run)) c.in-Ok-Some.field-0-is c.in-Ok-Some.ensures.form in
    let has : holds c.in-Ok-Some.run' c.args.id c.args.page ≡ true = subst (λ (o : Option Run). IfSome o (λ run. holds run c.args.id c.args.page ≡ true)) c.in-Ok-Some.field-0-is c.in-Ok-Some.ensures.holds in
    run_place layout c.in-Ok-Some.run' c.args.id c.args.page (accepted c.args.filer.now) form has

pub returns-in-Ok-Some-clause-looks : goal.returns-in-Ok-Some-clause-looks
returns-in-Ok-Some-clause-looks g c = record { makes = c.find.ensures.leaves.looked.swaps.makes; layout = c.find.ensures.leaves.looked.layout }

pub returns-in-Ok-None-clause-found : goal.returns-in-Ok-None-clause-found
returns-in-Ok-None-clause-found g c = λ x shapes books.
    let v = view_of c.args.filer.now in
    let is : IsLayout v.layout = accepted c.args.filer.now in
    let b = books.booked in
    let map = map_is _ _ shapes x is b in
    let are = kept_are _ _ shapes x is b in (
      books_then v (view_of c.find.new.self) shapes x books (c.find.ensures.leaves.same x b.named books.stands map) (own_maps FileMap v.layout _ _ c.find.ensures.leaves.beside.brings) (c.find.ensures.keeps.runs_are x b.named books.stands map are) c.find.ensures.leaves.looked.layout,
      λ f shape below.
          let nowhere : IsNowhere b.named c.args.id c.args.page = subst (IsFound b.named c.args.id c.args.page) c.in-Ok-None.field-0-is (c.in-Ok-None.ensures.found x b.named books.stands map are) in
          absurd (nowhere_not shapes x b c.args.id c.args.page f shape below nowhere),
    )

pub returns-in-Ok-None-clause-looks : goal.returns-in-Ok-None-clause-looks
returns-in-Ok-None-clause-looks g c = record { makes = c.find.ensures.leaves.looked.swaps.makes; layout = c.find.ensures.leaves.looked.layout }

pub returns-in-Ok-None-clause-why : goal.returns-in-Ok-None-clause-why
returns-in-Ok-None-clause-why g c = record { counted = λ is. no_fault is; evidence_seen = inr c.requires.client }

pub returns-in-Err-clause-found : goal.returns-in-Err-clause-found
returns-in-Err-clause-found g c = λ x shapes books.
    let v = view_of c.args.filer.now in
    let is : IsLayout v.layout = accepted c.args.filer.now in
    let b = books.booked in
    let map = map_is _ _ shapes x is b in
    let are = kept_are _ _ shapes x is b in (
      books_then v (view_of c.find.new.self) shapes x books (c.find.ensures.leaves.same x b.named books.stands map) (own_maps FileMap v.layout _ _ c.find.ensures.leaves.beside.brings) (c.find.ensures.keeps.runs_are x b.named books.stands map are) c.find.ensures.leaves.looked.layout,
      λ f shape below. c.in-Err.ensures.fails.sound x b.named books.stands map (map_named _ x is b.long b.map_labels),
    )

pub returns-in-Err-clause-looks : goal.returns-in-Err-clause-looks
returns-in-Err-clause-looks g c = record { makes = c.find.ensures.leaves.looked.swaps.makes; layout = c.find.ensures.leaves.looked.layout }

pub returns-in-Err-clause-why : goal.returns-in-Err-clause-why
returns-in-Err-clause-why g c = record {
  counted = counted _ _ (view_of c.args.filer.now).disk (view_of c.find.new.self).disk _ (omega arith) c.in-Err.ensures.fails.cause;
  evidence_seen = so_of_map (fits (swapper_of c.args.filer.now) c.requires.size) c.find.ensures.leaves.beside.goes.makes c.in-Err.halt c.in-Err.ensures.fails.cause;
}
