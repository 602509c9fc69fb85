-- What the definitions say.
use Rattle.std.specs.Prelude.{◌≡◌, ◌≢◌, ◌⊎◌, ◌↔◌, ℕ, suc, ◌+◌, ◌/◌, ◌<◌, ◌≤◌, false, IsTrue, IsSomeAnd, IfSome, List, [], ◌∷◌, ◌++◌, length, filter, Some, slice_get}
use Rattle.std.specs.List.{All, AllByRecursion}
use Rattle.labelled_disk.specs.Sectors.{Sector, AreSectors}
use Rattle.labelled_disk.specs.Root.{LabelsRight}
use Rattle.labelled_disk.specs.FilesOn.{files_on}
use Rattle.flat_machine.specs.declared.call.Call.{Call}
use Rattle.flat_machine.specs.declared.call.Reply.{Reply}
use Rattle.flat_machine.specs.declared.call.Refusal.{Refusal}
use Rattle.flat_machine.specs.Text.{text}
use Rattle.flat_machine.specs.Form.{IsTyped}
use Rattle.labelled_disk.specs.Ascending.{AreAscending, BothBy}
use Rattle.flat_machine.specs.File.{File, size, file_at}
use Rattle.flat_machine.specs.Space.{Space, FilePage, overlap, root_pages, space_at}
use Rattle.flat_machine.specs.Machine.{Machine, IsFile, IsAscending, ancestor}
use Rattle.flat_machine.specs.IsMachine.{IsMachine}
use Rattle.flat_machine.specs.At.{shown_at, pages_of}
use Rattle.flat_machine.specs.Refusal.{refusal, fits, lowest_gap}
use Rattle.flat_machine.specs.Next.{next, is_unused, lowest_unused}
use Rattle.flat_machine.specs.Allows.{Allows, reply_of}
use Rattle.flat_machine.specs.After.{TraceLine, AllowsLine, next_line, after, Transcript}
use Rattle.flat_machine.specs.Settled.{settled, Agrees, FileStandsFor}
use Rattle.flat_machine.specs.Start.{opened, start}
use Rattle.flat_machine.specs.Projection.{Span, IsProjection, end_of, unit}

-- some reply is allowed, whatever the machine and the call
abbrev pub SomeReplyIsAllowed : Type 0
SomeReplyIsAllowed = (m : Machine) (call : Call) → Allows m call (reply_of m call)

-- a refused call changes nothing
abbrev pub RefusedChangesNothing : Type 0
RefusedChangesNothing = (m : Machine) (call : Call) (word : Refusal) → refusal m call ≡ Some word → next m call ≡ m

-- no line has the empty transcript
abbrev pub TranscriptBegins : Type 0
TranscriptBegins = (m : Machine) (lines : List TraceLine) → Transcript m lines 0 []

-- an allowed reply to the next line makes a transcript longer
abbrev pub TranscriptGrows : Type 0
TranscriptGrows = (m : Machine) (lines : List TraceLine) (k : ℕ) (bytes : List ℕ) (line : TraceLine) (r : Reply)
    → Transcript m lines k bytes → slice_get lines k ≡ Some line → AllowsLine (after m lines k) line r
    → Transcript m lines (suc k) (bytes ++ text r)

-- one line more, and the machine is the next
abbrev pub AfterGrows : Type 0
AfterGrows = (m : Machine) (lines : List TraceLine) (k : ℕ) (line : TraceLine)
    → slice_get lines k ≡ Some line → after m lines (suc k) ≡ next_line (after m lines k) line

-- a machine without files is one
abbrev pub OpenedIsMachine : Type 0
OpenedIsMachine = (serial counter capacity : ℕ) → 1 ≤ serial → serial ≤ 4294967295 → 1 ≤ counter → counter ≤ 4294967295
    → IsMachine (opened serial counter capacity)

-- the files of a disk agree with the settled files of the machine that it starts
abbrev pub StartAgrees : Type 0
StartAgrees = (d : List Sector) → (settled (start d) ≡ files_on d) × Agrees (files_on d) (settled (start d))

-- a disk with right labels starts a machine
abbrev pub StartIsMachine : Type 0
StartIsMachine = (d : List Sector) → AreSectors d → LabelsRight d → IsMachine (start d)

-- the spaces have one projection at most
abbrev pub ProjectionIsUnique : Type 0
ProjectionIsUnique = (spaces : List Space) (is js : List Span) → IsProjection spaces is → IsProjection spaces js → is ≡ js

-- where so many pages fit, they fit at the lowest gap, and it is no higher
abbrev pub LowestGapIsLeast : Type 0
LowestGapIsLeast = (spaces : List Space) (parent : Space) (pages first : ℕ) → IsTrue (fits spaces parent pages first)
    → IsSomeAnd (lowest_gap spaces parent pages) (λ gap. gap ≤ first × IsTrue (fits spaces parent pages gap))

-- where a handle is unused, the lowest unused one is no higher, and it is unused and not the root's
abbrev pub LowestUnusedIsLeast : Type 0
LowestUnusedIsLeast = (spaces : List Space) (handle : ℕ) → is_unused spaces 0 ≡ false → IsTrue (is_unused spaces handle)
    → (lowest_unused spaces ≤ handle) × IsTrue (is_unused spaces (lowest_unused spaces)) × (1 ≤ lowest_unused spaces)

-- what holds of every machine holds of the machine after a call
abbrev pub NextKeepsMachine : Type 0
NextKeepsMachine = (m : Machine) (call : Call) → IsTyped call → IsMachine m → IsMachine (next m call)

-- the unit of a page: it lies in the span, holds the page, and has no more pages than the space's unit size
pub record IsUnitOf (space : Space) (i : Span) (page : ℕ) : Type 0 where
  pub lies_in_span : i.first ≤ (unit space i page).0
  pub ends_in_span : (unit space i page).0 + (unit space i page).1 ≤ end_of i
  pub begins_before : (unit space i page).0 ≤ page
  pub ends_after : page < (unit space i page).0 + (unit space i page).1
  pub short : (unit space i page).1 ≤ space.unit

-- it is so for each page of a span that lies in the space
abbrev pub UnitHoldsItsPage : Type 0
UnitHoldsItsPage = (space : Space) (i : Span) (page : ℕ) → space.first ≤ page → 1 ≤ space.unit → i.first ≤ page → page < end_of i → IsUnitOf space i page

-- each page of the root is in one of the spans
abbrev pub ProjectionCovers : Type 0
ProjectionCovers = (spaces : List Space) (is : List Span) → IsProjection spaces is → (page : ℕ) → page < root_pages
    → (k : ℕ) × (i : Span) × (slice_get is k ≡ Some i) × (i.first ≤ page) × (page < end_of i)

-- the spaces have a projection
abbrev pub ProjectionExists : Type 0
ProjectionExists = (spaces : List Space) → (is : List Span) × IsProjection spaces is

-- some number of steps up from the second leads to the first
abbrev pub IsAtOrAbove : List Space → Space → Space → Type 0
IsAtOrAbove spaces s t = (steps : ℕ) × (ancestor spaces steps t.handle ≡ s.handle)

-- two spaces of a machine share a page exactly where one is the other or above it
abbrev pub SharingIsOnePath : Type 0
SharingIsOnePath = (m : Machine) → IsMachine m → (s t : Space) → space_at m.spaces s.handle ≡ Some s → space_at m.spaces t.handle ≡ Some t
    → IsTrue (overlap s t) ↔ (IsAtOrAbove m.spaces s t ⊎ IsAtOrAbove m.spaces t s)

-- one of these pages
abbrev pub IsOneOf : List ℕ → ℕ → Type 0
IsOneOf [] page = ⊥
IsOneOf (p ∷ ps) page = (p ≡ page) ⊎ IsOneOf ps page

-- these are the pages of so many addresses in a row: two at most
pub record IsTouched (address count : ℕ) (pages : List ℕ) : Type 0 where
  pub two_at_most : length pages ≤ 2
  pub ascending : IsAscending pages
  pub no_other : AllByRecursion (λ page. (k : ℕ) × (k < count) × ((address + k) / 512 ≡ page)) pages
  pub each : (k : ℕ) → k < count → IsOneOf pages ((address + k) / 512)

-- a reference of 1 to 512 bytes touches the pages of its addresses
abbrev pub ReferenceTouches : Type 0
ReferenceTouches = (address count : ℕ) → 1 ≤ count → count ≤ 512 → IsTouched address count (pages_of address count)

-- a page that is shown is one of its file
abbrev pub ShownIsThere : Type 0
ShownIsThere = (m : Machine) → IsMachine m → (page : ℕ) (u : FilePage) → shown_at m.spaces page ≡ Some u → IsSomeAnd (file_at m.files u.file) (λ f. u.page < size f)

-- where nothing is unforced, the settled files are the permanent ones
abbrev pub ForcedIsSettled : Type 0
ForcedIsSettled = (m : Machine) → m.unforced ≡ [] → settled m ≡ filter (λ f. f.permanent) m.files

-- the machine after some lines is a machine
abbrev pub AfterIsMachine : Type 0
AfterIsMachine = (m : Machine) (lines : List TraceLine) (k : ℕ) → AllByRecursion (λ line. IfSome line IsTyped) lines
    → IsMachine m → IsMachine (after m lines k)

-- where each file stands for the machine's of its identifier, the permanent ones agree with the settled machine
abbrev pub SectorStateFilesAgree : Type 0
SectorStateFilesAgree = (fs : List File) (m : Machine) → AreAscending fs → AllByRecursion IsFile fs → IsMachine m
    → ((id : ℕ) → BothBy (FileStandsFor m.unforced) (file_at fs id) (file_at m.files id)) → Agrees (filter (λ f. f.permanent) fs) (settled m)

-- the bytes are one line: a line feed ends them, and none stands before it
pub record IsOneLine (bytes : List ℕ) : Type 0 where
  pub line : List ℕ
  pub ends : bytes ≡ line ++ 10 ∷ []
  pub misses : All (λ b. b ≢ 10) line

-- the text of every reply is one line
abbrev pub RepliesAreLines : Type 0
RepliesAreLines = (r : Reply) → IsOneLine (text r)

-- two transcripts of the same bytes, of any machines and any lines, have as many replies
abbrev pub TranscriptsCount : Type 0
TranscriptsCount = (m m' : Machine) (lines lines' : List TraceLine) (k k' : ℕ) (bytes : List ℕ)
    → Transcript m lines k bytes → Transcript m' lines' k' bytes → k ≡ k'
