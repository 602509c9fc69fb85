-- A label that had changed doesn't name the page that waited, and is met only where the disk doesn't reveal what it holds.
use Rattle.std.proofs.Common.{◌≡◌, ℕ, false, List, Option, Some, None, refl, sym, ◌∙◌}
use Rattle.std.specs.Prelude.{option_map}
use Rattle.std.proofs.lemmas.Option.{none-some}
use Rattle.labelled_disk.specs.declared.disk.Disk.{Ghosts}
use Rattle.labelled_disk.specs.declared.label.Label.{Label}
use Rattle.labelled_disk.specs.declared.label.Wanted.{Wanted}
use Rattle.labelled_disk.specs.Label.{names}
use Rattle.labelled_disk.specs.Sectors.{Sector}
use Rattle.write_queue.specs.declared.run_queue.RunQueue.{RunQueue}
use Rattle.write_queue.specs.Entries.{laid}
use Rattle.write_queue.specs.RunQueue.{changed_by, run_state}

module _ {D A : Type 0} {G : Ghosts D} (q : RunQueue D A G) (c : ℕ × Wanted × Label) (is : changed_by q ≡ Some c) where
  pub changed_differs : names c.2 c.1 ≡ false
  changed_differs = q.queue.differs c is

  pub changed_unrevealed : (run_state q).contents ≡ None
  changed_unrevealed = by (G.state q.queue.beneath).contents (λ d. q.queue.unchanged d)
    where
      by : (o : Option (List Sector)) → ((d : List Sector) → o ≡ Some d → q.queue.changed ≡ None) → option_map (laid q.queue.entries.items) o ≡ None
      by None unchanged = refl
      by (Some d) unchanged = absurd (none-some c (sym (unchanged d refl) ∙ is))
