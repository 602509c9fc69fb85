-- What lines write on the second disk, whatever both volumes hold.
use Rattle.std.specs.Prelude.{◌≡◌, ◌+◌, ℕ, false, List, length, take, Option, Some, None, slice_get}
use Rattle.labelled_disk.specs.Sectors.{Sector}
use Rattle.labelled_disk.specs.State.{DiskState}
use Rattle.pair_machine.specs.declared.call.PairCall.{PairCall}
use Rattle.pair_machine.specs.declared.call.PairCall.TheVariants as call
use Rattle.pair_machine.specs.declared.call.PairReply.{PairReply}
use Rattle.swapper_kernel.specs.Goes.{no_page}
use Rattle.trace_io.specs.PairGrammar.{Ask, Close}
use Rattle.volume_pair.specs.Owned.{EachWrite, Files, IsInUseAs, IsWriteFor, RevealsWrites, file_of, no_file}
use Rattle.pair_session.specs.Ended.{closes}
use Rattle.pair_session.specs.Lines.{AreTo, Item}
use Rattle.pair_session.specs.declared.outcome.Outcome.{Outcome}
use Rattle.pair_session.specs.declared.outcome.Outcome.TheVariants as outcome

-- the file that a line copies
abbrev pub copied_by : Item → Files
copied_by (Some (Ask c)) = file_of c
copied_by (Some Close) = no_file
copied_by None = no_file

-- the files that these lines copy
abbrev pub copied_by_any : List Item → Files
copied_by_any items id = (k : ℕ) × (slice_get items k ≡ Some (Some (Ask (call.Copy id))))

-- one line more than were replied to may have been begun, where one halted
abbrev pub begun : Outcome → ℕ
begun (outcome.Halted why) = 1
begun how = 0

-- The end of the pair was not begun: it halted at a call of the text, or lines were left otherwise.
abbrev pub IsLeftOpen : Outcome → List Item → List Item → Type 0
IsLeftOpen outcome.Done text items = ⊥
IsLeftOpen (outcome.NotStarted why) text items = ⊥
IsLeftOpen (outcome.Halted why) text items = (c : PairCall) × (slice_get text (length items) ≡ Some (Some (Ask c)))
IsLeftOpen outcome.Long text items = Unit {0}
IsLeftOpen outcome.ReadFault text items = Unit {0}
IsLeftOpen outcome.SinkFault text items = closes items ≡ false

-- By a text of these lines, the first of which got replies that suit them. Each write on the second disk was of its root or of its
-- maps, or for a file that one of the lines copies which were replied to or begun. Where the end was not begun its volume is in use,
-- with the numbers of before.
pub record RepliesTo (how : Outcome) (text : List Item) (old new : DiskState) (items : List Item) (replies : List PairReply) : Type 0 where
  pub suit : AreTo items replies
  pub own : RevealsWrites old → EachWrite (IsWriteFor no_page (copied_by_any (take (length items + begun how) text))) old new
  pub left_open : IsLeftOpen how text items → (d e : List Sector) → old.contents ≡ Some d → new.contents ≡ Some e → IsInUseAs d e
