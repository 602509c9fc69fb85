-- What is blameless at an end is blameless as in a step.
use Rattle.labelled_disk.specs.declared.evidence.Halt.{Halt}
use Rattle.labelled_disk.specs.State.{DiskState}
use Rattle.file_manager.specs.Reasons.{InitialState}
use Rattle.running_words.specs.BlamelessLaws.{never_blames_form}
use Rattle.pilot_engine.specs.Reasons.{IsBlameless, NeverBlamesEnd}

-- no page of the space tables is reported as broken then
pub blameless_at_end : (o : InitialState) (disk : DiskState) (e : Halt) → NeverBlamesEnd o disk e → IsBlameless o disk e
blameless_at_end o disk e (tables, misses) = (never_blames_form e tables, misses)
