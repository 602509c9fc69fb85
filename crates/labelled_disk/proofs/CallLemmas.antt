-- Calls in a row: what one leaves, and what the row leaves.
use Rattle.std.proofs.Common.{ℕ, ◌+◌, ◌≤◌, List, ◌++◌, ◌∷◌, [], Result, refl, ◌∙◌, ap, arith}
use Rattle.std.specs.Prelude.{option_map}
use Rattle.labelled_disk.specs.declared.label.Label.{Label}
use Rattle.labelled_disk.specs.declared.disk.DiskError.{DiskError}
use Rattle.labelled_disk.specs.declared.disk.DiskWrite.{DiskWrite}
use Rattle.labelled_disk.specs.Calls.{Rose, RevealsSame, RevealsWrite, Reads, OnlyReads, ReadsAtMost}
use Rattle.labelled_disk.specs.CrashState.{written}
use Rattle.labelled_disk.specs.State.{DiskState}

-- no call at all
pub only_reads_itself : (d : DiskState) → OnlyReads d d
only_reads_itself d = record {
  sectors = refl;
  lent = refl;
  contents = refl;
  writes = refl;
  syncs = refl;
  transfers = omega arith;
  faults = omega arith;
  synced = λ is. is;
}

-- more calls that wrote nothing
pub only_reads_then : {a b c : DiskState} → OnlyReads a b → OnlyReads b c → OnlyReads a c
only_reads_then first next = record {
  sectors = next.sectors ∙ first.sectors;
  lent = next.lent ∙ first.lent;
  contents = next.contents ∙ first.contents;
  writes = next.writes ∙ first.writes;
  syncs = next.syncs ∙ first.syncs;
  transfers = omega (arith, first.transfers, next.transfers);
  faults = omega (arith, first.faults, next.faults);
  synced = λ is. next.synced (first.synced is);
}

-- one read
pub read_only : {a b : DiskState} {sector : ℕ} {page : List ℕ} {result : Result Label DiskError} → Reads a sector page result b → OnlyReads a b
read_only read = record {
  sectors = read.moves.sectors;
  lent = read.moves.lent;
  contents = read.same.contents;
  writes = read.same.writes;
  syncs = read.moves.syncs;
  transfers = read.moves.transfers.later;
  faults = read.moves.faults;
  synced = read.synced;
}

-- one read more, whatever its answer
pub only_reads_more : {a b c : DiskState} {sector : ℕ} {page : List ℕ} {result : Result Label DiskError} → OnlyReads a b → Reads b sector page result c → OnlyReads a c
only_reads_more so_far read = only_reads_then so_far (read_only read)

-- no call moves a sector
pub reads_at_most_itself : (d : DiskState) → ReadsAtMost 0 d d
reads_at_most_itself d = record { only = only_reads_itself d; moved = omega arith }

-- more calls that wrote nothing
pub reads_at_most_then : {a b c : DiskState} {most more : ℕ} → ReadsAtMost most a b → ReadsAtMost more b c → ReadsAtMost (most + more) a c
reads_at_most_then first next = record { only = only_reads_then first.only next.only; moved = omega (arith, first.moved, next.moved) }

-- a greater bound
pub reads_at_most_wider : {a b : DiskState} {most more : ℕ} → most ≤ more → ReadsAtMost most a b → ReadsAtMost more a b
reads_at_most_wider less reads = record { only = reads.only; moved = omega (arith, less, reads.moved) }

-- one read
pub reads_one : {a b : DiskState} {sector : ℕ} {page : List ℕ} {result : Result Label DiskError} → Reads a sector page result b → ReadsAtMost 1 a b
reads_one read = record { only = read_only read; moved = read.moves.transfers.by_one }

-- a count that rose, rose by each later state, since no count falls
pub rose_later : (a b c : ℕ) → Rose a b → b ≤ c → Rose a c
rose_later a b c rose more = omega (arith, rose, more)

-- and since each earlier state
pub rose_earlier : (a b c : ℕ) → a ≤ b → Rose b c → Rose a c
rose_earlier a b c less rose = omega (arith, less, rose)

pub reveals_same_itself : (d : DiskState) → RevealsSame d d
reveals_same_itself d = record { contents = refl; writes = refl }

pub reveals_same_then : {a b c : DiskState} → RevealsSame a b → RevealsSame b c → RevealsSame a c
reveals_same_then first next = record { contents = next.contents ∙ first.contents; writes = next.writes ∙ first.writes }

-- one write, after calls that wrote nothing
pub reveals_write_later : {a b c : DiskState} (write : DiskWrite) → RevealsSame a b → RevealsWrite write b c → RevealsWrite write a c
reveals_write_later write same made = record {
  contents = made.contents ∙ ap (option_map (written write)) same.contents;
  writes = made.writes ∙ ap (option_map (λ (writes : List DiskWrite). writes ++ write ∷ [])) same.writes;
}

-- one write, and then calls that wrote nothing
pub reveals_write_earlier : {a b c : DiskState} (write : DiskWrite) → RevealsWrite write a b → RevealsSame b c → RevealsWrite write a c
reveals_write_earlier write made same = record { contents = same.contents ∙ made.contents; writes = same.writes ∙ made.writes }
