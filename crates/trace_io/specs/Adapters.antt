-- What the streams over a reader and a writer hold, by what the reader has left and the writer has taken.
use Rattle.std.specs.Prelude.{ℕ, List, Option, take, drop}
use Rattle.std.specs.Io.KnownBytes.{prepend_known}
use Rattle.std.specs.declared.io.traits.Read.{Ghosts}
use Rattle.trace_io.specs.declared.adapters.ReaderSource.{ReaderSource}
use Rattle.trace_io.specs.declared.adapters.WriterSink.{WriterSink}

-- what was read and not given yet, and then what the reader has left
abbrev pub reader_bytes : {R : Type 0} {ghosts : Ghosts R} → (R → Option (List ℕ)) → ReaderSource R ghosts → Option (List ℕ)
reader_bytes remaining s = prepend_known (drop s.at (take s.end s.buffer)) (remaining s.reader)

-- what the writer has taken
abbrev pub writer_bytes : {W : Type 0} → (W → Option (List ℕ)) → WriterSink W → Option (List ℕ)
writer_bytes contents s = contents s.writer

-- how often the reader failed
abbrev pub reader_faults : {R : Type 0} {ghosts : Ghosts R} → ReaderSource R ghosts → ℕ
reader_faults s = s.faults

-- how often the writer failed
abbrev pub writer_faults : {W : Type 0} → WriterSink W → ℕ
writer_faults s = s.faults
