-- A file that is found has the size that the file map says, and what a space shows of it is below its end.
use Rattle.std.proofs.Common.{◌≡◌, ℕ, ◌+◌, ◌-◌, ◌≤◌, ◌<◌, List, Some, Result, Ok, Err, refl, sym, subst, arith}
use Rattle.std.specs.Prelude.{IfOk}
use Rattle.labelled_disk.specs.declared.evidence.Halt.{Halt}
use Rattle.labelled_disk.specs.declared.layout.Layout.{Layout}
use Rattle.labelled_disk.specs.Label.{leader_page}
use Rattle.labelled_disk.specs.Sectors.{Sector}
use Rattle.flat_machine.specs.declared.call.Reply.{Reply}
use Rattle.flat_machine.specs.declared.call.Reply.TheVariants.{Done}
use Rattle.flat_machine.specs.declared.space.Space.{Space}
use Rattle.flat_machine.specs.Machine.{IsSpace}
use Rattle.flat_machine.specs.Space.{space_at}
use Rattle.flat_machine.specs.Spaces.{AreSpaces}
use Rattle.flat_machine.proofs.Lists.{all_in, looked_up}
use Rattle.file_map.specs.FileMap.{IsSize, Triples}
use Rattle.swapper_kernel.specs.Homes.{IsLayout}
use Rattle.swapper_kernel.specs.Stands.{Stands}
use Rattle.filer_kernel.specs.Triples.{AreOf, MapIs}
use Rattle.fault_core.specs.Reach.{Reaches}
use Rattle.filer_kernel.specs.View.{View, kept_by}
use Rattle.fault_core.proofs.BeforeLemmas.{map_still}
use Rattle.running_words.specs.MovingLaws.{moves_of_reaches}
use Rattle.space_calls.specs.Mapping.{ReachesOver}

-- the pages of a space, from a page of a file on, end where the file of that size does, or before
pub reaches_over : (ss : List Space) → AreSpaces ss → (handle id page size : ℕ) (named : Triples) (x : Space) → space_at ss handle ≡ Some x → page + x.pages ≤ size → IsSize named id size → ReachesOver ss handle id page named
reaches_over ss are handle id page size named x at fits is =
    let whole : IsSpace ss x = all_in (IsSpace ss) ss are.whole x (looked_up (λ t. t.handle) ss handle x at).0 in
    let some : 1 ≤ x.pages = whole.not_empty in
    let few : size ≤ 4294967295 = is.below in
    let counted : (size - 1) + 1 ≡ size = omega (arith, some, fits) in
    let up : page + (x.pages - 1) ≤ size - 1 = omega (arith, some, fits) in
    let below : size - 1 < leader_page = omega (arith, some, fits, few) in
    let last = is.reached (size - 1) counted in
    (page + (x.pages - 1), size - 1, last.0, (x, at, refl), up, below, last.1)

-- what is so of the triples where pages were found and brought in was so before
pub found_later : (v w : View) → IsLayout v.layout → Reaches v w → (named : Triples) (X : Type 0) → ((m : List Sector) → Stands w.disk w.slots m → MapIs w.layout named m → AreOf named (kept_by w) → X)
    → (m : List Sector) → Stands v.disk v.slots m → MapIs v.layout named m → AreOf named (kept_by v) → X
found_later v w is h named X evidence_seen m stands map are =
    let moves = moves_of_reaches v w h in
    let now = moves.goes.memory m stands in
    let kept : MapIs v.layout named now.0 = map_still v.layout is named m now.0 now.2 map in
    evidence_seen now.0 now.1 (subst (λ (l : Layout). MapIs l named now.0) (sym h.layout) kept) (h.runs_are m named stands map are)

-- what is so anyway is so where it is done
pub where_done : (result : Result Reply Halt) (X : Type 0) → X → IfOk result (λ reply. reply ≡ Done → X)
where_done (Ok reply) X x = λ is. x
where_done (Err e) X x = tt
