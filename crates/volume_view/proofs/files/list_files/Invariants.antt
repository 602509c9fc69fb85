use Rattle.std.proofs.Common.{◌≡◌, List, length, map}
use Rattle.labelled_disk.specs.Layout.{data_sectors, first_data}
use Rattle.labelled_disk.specs.Sectors.{Sector}
use Rattle.volume_view.specs.Listed.{AreSorted, AreLinesTo}
use Rattle.volume_view.proofs.files.list_files.Given as goal

-- the leaders before this one have their lines
abbrev pub invariant-loop-k : goal.invariant-loop-k
invariant-loop-k g l = (d : List Sector) → l.first ≡ first_data (length d) → l.labels ≡ map (λ s. s.0) (data_sectors d) → AreSorted d l.triples → AreLinesTo d l.triples l.k l.files.items
