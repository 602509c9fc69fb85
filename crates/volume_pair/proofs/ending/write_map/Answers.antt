use Rattle.std.proofs.Common.{◌≡◌, arith, rules}
use Rattle.swapper_kernel.specs.Homes.{no_home}
use Rattle.swapper_kernel.specs.Maps.{id_of, pages_of}
use Rattle.filer_kernel.specs.EvidenceLaws.{fits, so_of_halts}
use Rattle.filer_kernel.specs.View.{swapper_of, view_of}
use Rattle.file_manager.proofs.Faults.{counted}
use Rattle.volume_pair.proofs.EndLemmas.{map_clean}
use Rattle.volume_pair.proofs.ending.write_map.Goals as goal

pub returns-in-Ok-clause-clean : goal.returns-in-Ok-clause-clean
returns-in-Ok-clause-clean g c =
    let of_map : c.id.result ≡ id_of c.args.which = search rules in
    let many : c.pages.result ≡ pages_of c.args.which c.swapper_over-swapper.result.now.layout = search rules in
    map_clean c.args.which _ _ _ _ _ c.flush.new.memory.placed c.flush.ensures.layout of_map many c.in-Ok.ensures.clean

pub returns-in-Err-clause-sound : goal.returns-in-Err-clause-sound
returns-in-Err-clause-sound g c = λ x stands. (rw c.swapper_over-swapper.ensures.value at c.in-Err.ensures.sound) x stands

pub returns-in-Err-clause-why : goal.returns-in-Err-clause-why
returns-in-Err-clause-why g c =
    let cause = rw c.swapper_over-swapper.ensures.value at c.in-Err.ensures.cause in
    record {
      counted = counted _ _ (view_of c.args.filer.now).disk (g.D.Disk.state c.flush.new.memory.disk) _ (omega arith) cause;
      evidence_seen = so_of_halts (fits (swapper_of c.args.filer.now) c.requires.size) (rw c.swapper_over-swapper.ensures.value at c.flush.ensures.swaps).makes c.in-Err.halt no_home (λ home none. absurd none) cause;
    }
