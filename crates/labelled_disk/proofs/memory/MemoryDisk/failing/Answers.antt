use Rattle.std.proofs.Common.{subst, sym, ◌≡◌, List, Some, length, arith, ap, ◌∙◌}
use Rattle.labelled_disk.specs.Sectors.{AreSectors, Sector, zero_sector}
use Rattle.labelled_disk.proofs.Sectors.{zero_sectors_fit}
use Rattle.std.proofs.lemmas.List.{length-replicate}
use Rattle.labelled_disk.proofs.memory.MemoryDisk.failing.Goals as goal

pub invariant_of-result-clause-in_form : goal.invariant_of-result-clause-in_form
invariant_of-result-clause-in_form g c = subst AreSectors (sym c.in_ok-zero_sectors.ensures) (zero_sectors_fit c.args.sectors)

pub invariant_of-result-clause-few : goal.invariant_of-result-clause-few
invariant_of-result-clause-few g c = let long : length c.in_ok-zero_sectors.field-0.items ≡ c.args.sectors = (ap length c.in_ok-zero_sectors.ensures ∙ length-replicate c.args.sectors zero_sector) in omega (arith, long, c.ranges.sectors.fits)

pub returns-clause-sectors : goal.returns-clause-sectors
returns-clause-sectors g c = ap length c.in_ok-zero_sectors.ensures ∙ length-replicate c.args.sectors zero_sector

pub returns-clause-contents : goal.returns-clause-contents
returns-clause-contents g c = ap (λ (l : List Sector). Some l) c.in_ok-zero_sectors.ensures

pub invariant_of-result-clause-few_transfers : goal.invariant_of-result-clause-few_transfers
invariant_of-result-clause-few_transfers g c = omega arith

pub invariant_of-result-clause-room_kept : goal.invariant_of-result-clause-room_kept
invariant_of-result-clause-room_kept g c = λ is. omega (arith, c.in_ok-with_capacity.ensures)

pub invariant_of-result-clause-room_to_sync : goal.invariant_of-result-clause-room_to_sync
invariant_of-result-clause-room_to_sync g c = λ is. c.in_ok-synced_once.ensures.room
