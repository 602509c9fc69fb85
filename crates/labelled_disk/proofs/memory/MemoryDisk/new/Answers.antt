use Rattle.std.proofs.Common.{subst, sym, ◌≡◌, List, Some, length, arith, ap, ◌∙◌}
use Rattle.labelled_disk.specs.Sectors.{AreSectors, Sector, zero_sector}
use Rattle.labelled_disk.proofs.Sectors.{zero_sectors_fit}
use Rattle.std.proofs.lemmas.List.{length-replicate}
use Rattle.labelled_disk.proofs.memory.MemoryDisk.new.Goals as goal

pub invariant_of-result-clause-in_form : goal.invariant_of-result-clause-in_form
invariant_of-result-clause-in_form g c = subst AreSectors (sym c.in_ok-zero_sectors.ensures) (zero_sectors_fit c.args.sectors)

pub invariant_of-result-clause-few : goal.invariant_of-result-clause-few
invariant_of-result-clause-few g c = let long : length c.in_ok-zero_sectors.field-0.items ≡ c.args.sectors = (ap length c.in_ok-zero_sectors.ensures ∙ length-replicate c.args.sectors zero_sector) in omega (arith, long, c.ranges.sectors.fits)

pub returns-clause-sectors : goal.returns-clause-sectors
returns-clause-sectors g c = ap length c.in_ok-zero_sectors.ensures ∙ length-replicate c.args.sectors zero_sector

pub returns-clause-contents : goal.returns-clause-contents
returns-clause-contents g c = ap (λ (l : List Sector). Some l) c.in_ok-zero_sectors.ensures

pub invariant_of-result-clause-few_transfers : goal.invariant_of-result-clause-few_transfers
invariant_of-result-clause-few_transfers g c = omega arith

pub invariant_of-result-clause-room_kept : goal.invariant_of-result-clause-room_kept
invariant_of-result-clause-room_kept g c = λ is. absurd (cc)

pub invariant_of-result-clause-room_to_sync : goal.invariant_of-result-clause-room_to_sync
invariant_of-result-clause-room_to_sync g c = λ is. absurd (cc)

pub invariant_of-result-clause-in_room : goal.invariant_of-result-clause-in_room
invariant_of-result-clause-in_room g c = λ is. absurd (cc)

pub invariant_of-result-clause-sync_counts : goal.invariant_of-result-clause-sync_counts
invariant_of-result-clause-sync_counts g c = λ is. absurd (cc)
