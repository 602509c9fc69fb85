-- What a run leaves on the sink and in the source, by its status, whatever the disk holds.
use Rattle.std.specs.Prelude.{◌≡◌, ◌⊎◌, ◌^◌, false, ℕ, List, [], ◌∷◌, ◌++◌, length, flat_map, Option, Some, None}
use Rattle.std.specs.List.{AllZip, list_any}
use Rattle.labelled_disk.specs.State.{DiskState}
use Rattle.labelled_disk.specs.declared.evidence.Evidence.{Evidence}
use Rattle.labelled_disk.specs.declared.layout.RootFault.{RootFault}
use Rattle.flat_machine.specs.declared.call.Call.TheVariants.{Close, Halt}
use Rattle.flat_machine.specs.declared.call.Refusal.TheVariants.{Syntax}
use Rattle.flat_machine.specs.declared.call.Reply.{Reply}
use Rattle.flat_machine.specs.declared.call.Reply.TheVariants.{Done, Refused}
use Rattle.flat_machine.specs.After.{TraceLine}
use Rattle.flat_machine.specs.Text.{text}
use Rattle.trace_io.specs.Stream.{IsPrefixOf}
use Rattle.trace_io.specs.Reading.{is_last, reading, whole_reading, rest_of}
use Rattle.pilot_top.specs.Headline.{HasWritten, Taken, RevealsDamage}
use Rattle.pilot_top.specs.Last.{last_line}
use Rattle.pilot_top.specs.declared.last.Cause.TheVariants as cause
use Rattle.pilot_top.specs.declared.status.Status.{Status}
use Rattle.pilot_top.specs.declared.status.Status.TheVariants as status

-- a bad line is answered `error syntax`, and one that ends the trace `ok`; other lines have any reply
abbrev pub Suits : TraceLine → Reply → Type 0
Suits None r = r ≡ Refused Syntax
Suits (Some Close) r = r ≡ Done
Suits (Some Halt) r = r ≡ Done
Suits line r = Unit {0}

-- one reply to each of these lines
abbrev pub AreTo : List Reply → List TraceLine → Type 0
AreTo replies lines = AllZip Suits lines replies

-- one reply to each of some first lines, none of which ends the trace
pub record AreToFirst (replies : List Reply) (lines : List TraceLine) : Type 0 where
  pub first : List TraceLine
  pub rest : List TraceLine
  pub all : lines ≡ first ++ rest
  pub each : AreTo replies first
  pub none_last : list_any is_last first ≡ false

-- A sink that had the bytes t took replies to these lines but the last, and a prefix of the reply to that one.
pub record IsCutShort (lines : List TraceLine) (t : List ℕ) (took : Option (List ℕ)) : Type 0 where
  pub replies : List Reply
  pub reply : Reply
  pub each : AreTo (replies ++ reply ∷ []) lines
  pub prefix : List ℕ
  pub is_prefix : IsPrefixOf prefix (text reply)
  pub took_is : took ≡ Some (t ++ flat_map text replies ++ prefix)

-- A run that began with a source with the bytes b and a sink with the bytes t: what source and sink have now.
-- `failed` says that the sink failed, `disk` is the disk as it was left, and `reasoned` says of evidence that it has its reason.
abbrev pub Replied : Status → List ℕ → Option (List ℕ) → List ℕ → Option (List ℕ) → Type 0 → DiskState → (Evidence → Type 0) → Type 0
-- a reply to each line of the trace; what is left stands after the last of them
Replied status.Done b left t took failed disk reasoned =
    (replies : List Reply) × AreTo replies (reading b) × (took ≡ Some (t ++ flat_map text replies)) × (left ≡ Some (rest_of b))
-- replies to some first lines, but none to one that ends the trace, and the last line
Replied status.DiskFault b left t took failed disk reasoned =
    (replies : List Reply) × AreToFirst replies (reading b) × HasWritten failed (t ++ flat_map text replies) took (last_line cause.DiskFault)
-- the same, with what shows in the last line that the volume is damaged, and its reason
Replied status.Damaged b left t took failed disk reasoned = (revealed : RevealsDamage t took failed disk) × AreToFirst revealed.replies (reading b) × reasoned revealed.evidence
-- replies to the lines that are whole in the 2 ^ 32 bytes taken, and the last line
Replied status.Long b left t took failed disk reasoned =
    (taken : Taken b left) × (length taken.bytes ≡ 2 ^ 32) × (replies : List Reply) × AreTo replies (whole_reading taken.bytes)
    × HasWritten failed (t ++ flat_map text replies) took (last_line cause.Long)
-- replies to the lines that are whole in the bytes taken; or, where the sink failed, to those before the last of them, and a
-- prefix of the reply to that one; or, where nothing is left, the same of all lines
Replied status.StreamFault b left t took failed disk reasoned =
    ((taken : Taken b left) × (replies : List Reply) × AreTo replies (whole_reading taken.bytes) × (took ≡ Some (t ++ flat_map text replies)))
    ⊎ (failed × (taken : Taken b left) × IsCutShort (whole_reading taken.bytes) t took)
    ⊎ (failed × (left ≡ Some []) × IsCutShort (reading b) t took)
-- nothing was taken, and the last line alone was written
Replied status.NotOpened b left t took failed disk reasoned = (left ≡ Some b) × (why : RootFault) × HasWritten failed t took (last_line (cause.Root why))
-- nothing was taken, and nothing was written
Replied status.NoMemory b left t took failed disk reasoned = (left ≡ Some b) × (took ≡ Some t)
-- no run ends so
Replied other b left t took failed disk reasoned = ⊥
