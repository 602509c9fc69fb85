-- The last line of a command that stopped.
use Rattle.std.specs.Prelude.{◌⊎◌, ℕ, List, ◌++◌, codes, Option}
use Rattle.std.specs.Fmt.{decimal}
use Rattle.std.specs.Io.KnownBytes.{Appends}
use Rattle.labelled_disk.specs.declared.layout.Difference.{Difference}
use Rattle.labelled_disk.specs.declared.layout.Difference.TheVariants as difference
use Rattle.labelled_disk.specs.declared.layout.RootFault.{RootFault}
use Rattle.labelled_disk.specs.declared.layout.RootFault.TheVariants as fault
use Rattle.labelled_disk.specs.declared.evidence.Evidence.{Evidence}
use Rattle.labelled_disk.specs.declared.evidence.Evidence.TheVariants as evidence
use Rattle.labelled_disk.specs.Structure.{structure_number}
use Rattle.flat_machine.specs.Text.{id_text}
use Rattle.trace_io.specs.Stream.{IsPrefixOf}
use Rattle.pilot_top.specs.declared.last.Cause.{Cause}
use Rattle.pilot_top.specs.declared.last.Cause.TheVariants as cause
use Rattle.pilot_top.specs.declared.last.OtherCause.{OtherCause}
use Rattle.pilot_top.specs.declared.last.OtherCause.TheVariants as other

-- the word for what differs from a root
abbrev pub difference_word : Difference → List ℕ
difference_word difference.Label = codes "label"
difference_word difference.Magic = codes "magic"
difference_word (difference.Count n) = codes "count"
difference_word difference.Serial = codes "serial"
difference_word difference.Counter = codes "counter"
difference_word (difference.Flag f) = codes "flag"
difference_word (difference.Rest i) = codes "rest"

-- what stands after `stopped ` where the volume can't be opened
abbrev pub root_words : RootFault → List ℕ
root_words (fault.NotVolume what) = codes "notvolume " ++ difference_word what
root_words fault.Unclean = codes "unclean"
root_words (fault.Version v) = codes "version " ++ decimal v
root_words (fault.BadCount n) = codes "count " ++ decimal n
root_words fault.Disk = codes "disk"

-- what stands after `stopped damaged `: what was read, and where
abbrev pub evidence_words : Evidence → List ℕ
evidence_words (evidence.Mismatch sector wanted found) =
    codes "label " ++ decimal sector ++ codes " " ++ id_text wanted.id ++ codes " " ++ decimal wanted.page ++ codes " " ++ id_text found.id ++ codes " " ++ decimal found.page
evidence_words (evidence.Malformed structure page) = codes "record " ++ decimal (structure_number structure) ++ codes " " ++ decimal page
evidence_words (evidence.Missing id page) = codes "missing " ++ id_text id ++ codes " " ++ decimal page

-- what stands after `stopped other `: why it stopped on the second volume
abbrev pub other_words : OtherCause → List ℕ
other_words other.DiskFault = codes "disk"
other_words (other.Damaged e) = codes "damaged " ++ evidence_words e
other_words (other.Root why) = root_words why

-- the line that says why it stopped
abbrev pub last_line : Cause → List ℕ
last_line cause.Usage = codes "stopped usage\n"
last_line cause.DiskFault = codes "stopped disk\n"
last_line cause.Long = codes "stopped long\n"
last_line (cause.Damaged e) = codes "stopped damaged " ++ evidence_words e ++ codes "\n"
last_line (cause.Unfit wanted room) = codes "stopped unfit " ++ decimal wanted ++ codes " " ++ decimal room ++ codes "\n"
last_line (cause.Root why) = codes "stopped " ++ root_words why ++ codes "\n"
last_line (cause.Other why) = codes "stopped other " ++ other_words why ++ codes "\n"

-- a sink took the text, or it failed, and took a prefix of it
abbrev pub Puts : Type 0 → Option (List ℕ) → Option (List ℕ) → List ℕ → Type 0
Puts failed old new text = Appends old new text ⊎ (failed × (prefix : List ℕ) × IsPrefixOf prefix text × Appends old new prefix)
