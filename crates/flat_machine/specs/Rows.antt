-- Worked rows: calls of a volume with room for 124 sectors, and the reply to each.
use Rattle.std.specs.Prelude.{ℕ, zero, suc, ◌≡◌, ◌+◌, ◌*◌, ◌-◌, ◌^◌, List, [], ◌∷◌, ◌++◌, map, fold, replicate, true, false, Some, None}
use Rattle.flat_machine.specs.declared.call.Call.{Call}
use Rattle.flat_machine.specs.declared.call.Call.TheVariants.{Create, Delete, Attributes, SetSize, MakePermanent, MakeImmutable, Next, Volume, MakeSpace, RemoveSpace, Place, Units, Map, MapAnonymous, Unmap, Protect, Load, Store, Kill, Close}
use Rattle.flat_machine.specs.declared.call.Reply.{Reply}
use Rattle.flat_machine.specs.declared.call.Reply.TheVariants as reply
use Rattle.flat_machine.specs.declared.call.Refusal.TheVariants as why
use Rattle.flat_machine.specs.File.{Cell, byte, any}
use Rattle.flat_machine.specs.Space.{Space, root}
use Rattle.flat_machine.specs.Machine.{Machine}
use Rattle.flat_machine.specs.At.{cells_at}
use Rattle.flat_machine.specs.Next.{next}
use Rattle.flat_machine.specs.Allows.{reply_of}
use Rattle.flat_machine.specs.Start.{opened}
use Rattle.flat_machine.specs.Projection.{Span, view_at, unit}

-- a volume of serial 7 without files
abbrev pub volume_124 : Machine
volume_124 = opened 7 1 124

-- the first file of the volume, and the second
abbrev pub f1 : ℕ
f1 = 7 * 2 ^ 32 + 1

abbrev pub f2 : ℕ
f2 = 7 * 2 ^ 32 + 2

-- the replies to calls, with 0 for bytes that may be any
abbrev pub replies_of : Machine → List Call → List Reply
replies_of m [] = []
replies_of m (call ∷ calls) = reply_of m call ∷ replies_of (next m call) calls

-- each call, carried out after those before it, gives the reply beside it
abbrev pub Gives : Machine → List (Call × Reply) → Type 0
Gives m lines = replies_of m (map (λ l. l.0) lines) ≡ map (λ l. l.1) lines

-- what is stored is loaded
unfoldable pub StoresAndLoads : Type 0
StoresAndLoads = Gives volume_124 (
    (Create 1 0, reply.File f1) ∷
    (MakeSpace 0 1 None, reply.Space 1 0) ∷
    (Map 1 f1 0 true, reply.Done) ∷
    (Store 0 (65 ∷ 66 ∷ 67 ∷ []), reply.Done) ∷
    (Load 0 3, reply.Bytes (65 ∷ 66 ∷ 67 ∷ [])) ∷
    (Close, reply.Done) ∷ [])

-- an empty file takes one sector, for its leader
unfoldable pub EmptyFilesAndFullVolumes : Type 0
EmptyFilesAndFullVolumes = Gives volume_124 (
    (Create 0 0, reply.File f1) ∷
    (Create 124 0, reply.Refused why.Full) ∷
    (Create 1 0, reply.File f2) ∷
    (Volume, reply.Volume 124 121) ∷ [])

-- a store may lie over two windows
unfoldable pub StoresOverTwoPages : Type 0
StoresOverTwoPages = Gives volume_124 (
    (Create 1 0, reply.File f1) ∷
    (Create 1 0, reply.File f2) ∷
    (MakeSpace 0 1 None, reply.Space 1 0) ∷
    (MakeSpace 0 1 None, reply.Space 2 1) ∷
    (Map 1 f1 0 true, reply.Done) ∷
    (Map 2 f2 0 true, reply.Done) ∷
    (Store 510 (1 ∷ 2 ∷ 3 ∷ 4 ∷ []), reply.Done) ∷
    (Load 510 4, reply.Bytes (1 ∷ 2 ∷ 3 ∷ 4 ∷ [])) ∷
    (Load 512 2, reply.Bytes (3 ∷ 4 ∷ [])) ∷ [])

-- a reference over a page that no window shows is refused whole
unfoldable pub StoresNothingInPart : Type 0
StoresNothingInPart = Gives volume_124 (
    (Create 1 0, reply.File f1) ∷
    (Create 1 0, reply.File f2) ∷
    (MakeSpace 0 1 None, reply.Space 1 0) ∷
    (MakeSpace 0 1 None, reply.Space 2 1) ∷
    (Map 1 f1 0 true, reply.Done) ∷
    (Load 510 4, reply.Refused (why.NoMap 1)) ∷
    (Store 510 (1 ∷ 2 ∷ 3 ∷ 4 ∷ []), reply.Refused (why.NoMap 1)) ∷
    (Load 510 2, reply.Bytes (0 ∷ 0 ∷ [])) ∷ [])

-- so is a store over a page that is shown read-only
unfoldable pub StoresNothingReadOnly : Type 0
StoresNothingReadOnly = Gives volume_124 (
    (Create 1 0, reply.File f1) ∷
    (Create 1 0, reply.File f2) ∷
    (MakeSpace 0 1 None, reply.Space 1 0) ∷
    (MakeSpace 0 1 None, reply.Space 2 1) ∷
    (Map 1 f1 0 true, reply.Done) ∷
    (Map 2 f2 0 false, reply.Done) ∷
    (Store 510 (1 ∷ 2 ∷ 3 ∷ 4 ∷ []), reply.Refused (why.ReadOnly 1)) ∷
    (Load 510 2, reply.Bytes (0 ∷ 0 ∷ [])) ∷ [])

-- killed bytes may be any, which is 0 here, until they are stored
unfoldable pub KilledBytes : Type 0
KilledBytes = Gives volume_124 (
    (Create 1 0, reply.File f1) ∷
    (MakeSpace 0 1 None, reply.Space 1 0) ∷
    (Map 1 f1 0 true, reply.Done) ∷
    (Store 0 (65 ∷ 66 ∷ []), reply.Done) ∷
    (Kill 1, reply.Done) ∷
    (Load 0 2, reply.Bytes (0 ∷ 0 ∷ [])) ∷
    (Store 0 (67 ∷ []), reply.Done) ∷
    (Load 0 1, reply.Bytes (67 ∷ [])) ∷
    (Load 0 2, reply.Bytes (67 ∷ 0 ∷ [])) ∷ [])

-- a kill leaves what is shown read-only
unfoldable pub KillsNothingReadOnly : Type 0
KillsNothingReadOnly = Gives volume_124 (
    (Create 1 0, reply.File f1) ∷
    (MakeSpace 0 1 None, reply.Space 1 0) ∷
    (Map 1 f1 0 true, reply.Done) ∷
    (Store 0 (65 ∷ []), reply.Done) ∷
    (Protect 1 false, reply.Done) ∷
    (Kill 1, reply.Done) ∷
    (Load 0 1, reply.Bytes (65 ∷ [])) ∷
    (Store 0 (66 ∷ []), reply.Refused (why.ReadOnly 0)) ∷ [])

-- a space in a mapped space can be asked for, and not be mapped
unfoldable pub SpacesInSpaces : Type 0
SpacesInSpaces = Gives volume_124 (
    (Create 32 0, reply.File f1) ∷
    (MakeSpace 0 32 None, reply.Space 1 0) ∷
    (MakeSpace 1 3 (Some 3), reply.Space 2 3) ∷
    (Map 1 f1 0 true, reply.Done) ∷
    (Map 2 f1 0 false, reply.Refused (why.Mapped 1)) ∷
    (Units 1 4, reply.Done) ∷
    (Place 3, reply.Place 2 3 3) ∷
    (Place 6, reply.Place 1 0 32) ∷ [])

-- any number of windows may show one file
unfoldable pub WindowsShareFiles : Type 0
WindowsShareFiles = Gives volume_124 (
    (Create 2 0, reply.File f1) ∷
    (MakeSpace 0 1 None, reply.Space 1 0) ∷
    (MakeSpace 0 1 None, reply.Space 2 1) ∷
    (Map 1 f1 0 false, reply.Done) ∷
    (Map 2 f1 0 false, reply.Done) ∷
    (Protect 2 true, reply.Done) ∷
    (Unmap 1, reply.Done) ∷
    (Protect 2 true, reply.Done) ∷
    (Map 1 f1 0 false, reply.Done) ∷
    (Map 1 f1 1 true, reply.Refused (why.Mapped 1)) ∷ [])

-- a mapped file may grow, and nothing else
unfoldable pub MappedFilesStay : Type 0
MappedFilesStay = Gives volume_124 (
    (Create 2 0, reply.File f1) ∷
    (MakeSpace 0 2 None, reply.Space 1 0) ∷
    (Map 1 f1 0 true, reply.Done) ∷
    (SetSize f1 1, reply.Refused (why.FileMapped 1)) ∷
    (SetSize f1 4, reply.Done) ∷
    (Attributes f1, reply.Attributes 4 0 false false) ∷
    (Delete f1, reply.Refused (why.FileMapped 1)) ∷
    (MakeImmutable f1, reply.Refused (why.FileMapped 1)) ∷ [])

-- a kill is of the pages of the named space, whichever space maps them
unfoldable pub KillsItsRange : Type 0
KillsItsRange = Gives volume_124 (
    (Create 2 0, reply.File f1) ∷
    (MakeSpace 0 2 None, reply.Space 1 0) ∷
    (MakeSpace 1 1 (Some 1), reply.Space 2 1) ∷
    (Map 1 f1 0 true, reply.Done) ∷
    (Store 511 (65 ∷ 66 ∷ []), reply.Done) ∷
    (Kill 2, reply.Done) ∷
    (Load 511 1, reply.Bytes (65 ∷ [])) ∷
    (Load 512 1, reply.Bytes (0 ∷ [])) ∷
    (RemoveSpace 1, reply.Refused why.Children) ∷ [])

-- spaces and references end with the root space
unfoldable pub EndsOfTheRoot : Type 0
EndsOfTheRoot = Gives volume_124 (
    (MakeSpace 0 8126464 None, reply.Space 1 0) ∷
    (MakeSpace 0 1 None, reply.Refused why.Gap) ∷
    (MakeSpace 1 2 (Some 8126463), reply.Refused why.Range) ∷
    (MakeSpace 1 1 (Some 8126463), reply.Space 2 8126463) ∷
    (Place 8126463, reply.Place 2 8126463 1) ∷
    (Place 8126464, reply.Refused why.Range) ∷
    (Load 4160749568 1, reply.Refused (why.NoMap 8126464)) ∷
    (Load 4294967295 64, reply.Refused (why.NoMap 8388607)) ∷ [])

-- an anonymous file has no name, takes room, and goes with its window
unfoldable pub AnonymousFiles : Type 0
AnonymousFiles = Gives volume_124 (
    (MakeSpace 0 4 None, reply.Space 1 0) ∷
    (MapAnonymous 1, reply.Done) ∷
    (Volume, reply.Volume 124 119) ∷
    (Attributes f1, reply.Refused why.File) ∷
    (Next 0, reply.Nothing) ∷
    (Store 2040 (255 ∷ []), reply.Done) ∷
    (Unmap 1, reply.Done) ∷
    (Volume, reply.Volume 124 124) ∷
    (Unmap 1, reply.Refused why.NotMapped) ∷
    (Create 1 0, reply.File f2) ∷ [])

-- the last identifier is never given out
unfoldable pub IdentifiersRunOut : Type 0
IdentifiersRunOut = Gives (opened 7 4294967294 124) (
    (Create 1 0, reply.File 34359738366) ∷
    (Create 1 0, reply.Refused why.Ids) ∷
    (Create 0 0, reply.Refused why.Ids) ∷
    (MakeSpace 0 1 None, reply.Space 1 0) ∷
    (MapAnonymous 1, reply.Refused why.Ids) ∷ [])

-- an immutable file is shown read-only, and has its size for good
unfoldable pub ImmutableFiles : Type 0
ImmutableFiles = Gives volume_124 (
    (Create 3 0, reply.File f1) ∷
    (MakeImmutable f1, reply.Done) ∷
    (SetSize f1 4, reply.Refused why.Immutable) ∷
    (MakeSpace 0 3 None, reply.Space 1 0) ∷
    (Map 1 f1 1 false, reply.Refused why.Window) ∷
    (Map 1 f1 0 true, reply.Refused why.Immutable) ∷
    (Map 1 f1 0 false, reply.Done) ∷
    (Protect 1 true, reply.Refused why.Immutable) ∷
    (Units 1 17, reply.Refused why.Size) ∷
    (Unmap 9, reply.Refused why.Space) ∷ [])

-- a file without pages can be made, asked for, and extended
unfoldable pub EmptyFilesGrow : Type 0
EmptyFilesGrow = Gives volume_124 (
    (Create 0 5, reply.File f1) ∷
    (Attributes f1, reply.Attributes 0 5 false false) ∷
    (MakeSpace 0 1 None, reply.Space 1 0) ∷
    (Map 1 f1 0 false, reply.Refused why.Window) ∷
    (SetSize f1 1, reply.Done) ∷
    (Map 1 f1 0 false, reply.Done) ∷
    (Load 0 1, reply.Bytes (0 ∷ [])) ∷
    (Volume, reply.Volume 124 122) ∷ [])

-- what one window stores another shows, and so with a kill
unfoldable pub WritableWindowsShare : Type 0
WritableWindowsShare = Gives volume_124 (
    (Create 1 0, reply.File f1) ∷
    (MakeSpace 0 1 None, reply.Space 1 0) ∷
    (MakeSpace 0 1 None, reply.Space 2 1) ∷
    (Map 1 f1 0 true, reply.Done) ∷
    (Map 2 f1 0 true, reply.Done) ∷
    (Store 0 (65 ∷ []), reply.Done) ∷
    (Load 512 1, reply.Bytes (65 ∷ [])) ∷
    (Store 512 (66 ∷ []), reply.Done) ∷
    (Load 0 1, reply.Bytes (66 ∷ [])) ∷
    (Protect 1 false, reply.Done) ∷
    (Kill 1, reply.Done) ∷
    (Load 0 1, reply.Bytes (66 ∷ [])) ∷
    (Kill 2, reply.Done) ∷
    (Load 0 1, reply.Bytes (0 ∷ [])) ∷
    (Unmap 2, reply.Done) ∷
    (Store 0 (67 ∷ []), reply.Refused (why.ReadOnly 0)) ∷ [])

-- a file on a volume is shown through two spaces
unfoldable pub PermanentFilesStay : Type 0
PermanentFilesStay = Gives (next volume_124 (Create 2 9)) (
    (MakePermanent f1, reply.Done) ∷
    (MakeSpace 0 2 None, reply.Space 1 0) ∷
    (Map 1 f1 0 true, reply.Done) ∷
    (Store 510 (1 ∷ 2 ∷ 3 ∷ 4 ∷ []), reply.Done) ∷
    (Load 510 4, reply.Bytes (1 ∷ 2 ∷ 3 ∷ 4 ∷ [])) ∷
    (MakeSpace 0 1 None, reply.Space 2 2) ∷
    (Map 2 f1 1 false, reply.Done) ∷
    (Load 1023 2, reply.Bytes (0 ∷ 3 ∷ [])) ∷
    (Close, reply.Done) ∷ [])

-- the cells that the machine shows after calls
abbrev pub cells_after : List Call → ℕ → ℕ → List Cell
cells_after calls address count = cells_at (fold next volume_124 calls) address count

-- a file of one page, and a space that shows it
abbrev pub one_page : List Call
one_page = Create 1 0 ∷ MakeSpace 0 1 None ∷ Map 1 f1 0 true ∷ []

-- which cells are any after a kill, and after a store after it
unfoldable pub KilledCells : Type 0
KilledCells =
    (cells_after (one_page ++ Store 0 (65 ∷ 66 ∷ []) ∷ Kill 1 ∷ []) 0 2 ≡ any ∷ any ∷ [])
    × (cells_after (one_page ++ Store 0 (65 ∷ 66 ∷ []) ∷ Kill 1 ∷ Store 0 (67 ∷ []) ∷ []) 0 2 ≡ byte 67 ∷ any ∷ [])

-- a space of 32 pages, and one of 3 in it
abbrev pub space_1 : Space
space_1 = record { handle = 1; parent = 0; first = 0; pages = 32; unit = 4; window = None }

abbrev pub space_2 : Space
space_2 = record { handle = 2; parent = 1; first = 3; pages = 3; unit = 3; window = None }

-- a span of these spaces
abbrev pub span : ℕ → ℕ → Span
span first pages = record { first = first; pages = pages; view = view_at (root ∷ space_1 ∷ space_2 ∷ []) first }

-- the units of pages 2, 4, 6 and 8
unfoldable pub UnitsCut : Type 0
UnitsCut =
    (unit space_1 (span 0 3) 2 ≡ (0, 3)) × (unit space_2 (span 3 3) 4 ≡ (3, 3))
    × (unit space_1 (span 6 26) 6 ≡ (6, 2)) × (unit space_1 (span 6 26) 8 ≡ (8, 4))

-- so many numbers in a row
abbrev pub numbers_from : ℕ → ℕ → List ℕ
numbers_from n zero = []
numbers_from n (suc k) = n ∷ numbers_from (n + 1) k

-- a child of the root, of one page
abbrev pub child : ℕ → Space
child handle = record { handle = handle; parent = 0; first = handle - 1; pages = 1; unit = 1; window = None }

-- the volume with n such children
abbrev pub filled : ℕ → Machine
filled n = record volume_124 { spaces = root ∷ map child (numbers_from 1 n) }

-- calls for a space each make one child after another
unfoldable pub SpacesFill : Type 0
SpacesFill = fold next volume_124 (replicate 20 (MakeSpace 0 1 None)) ≡ filled 20

-- there are 511 spaces beside the root, and the lowest free handle and gap are taken
unfoldable pub SpacesRunOut : Type 0
SpacesRunOut = Gives (filled 510) (
    (MakeSpace 0 1 None, reply.Space 511 510) ∷
    (MakeSpace 0 1 None, reply.Refused why.Spaces) ∷
    (RemoveSpace 5, reply.Done) ∷
    (MakeSpace 0 1 None, reply.Space 5 4) ∷
    (RemoveSpace 0, reply.Refused why.Root) ∷ [])

-- all rows come out as they are written
pub record WorkedRows : Type 0 where
  pub stores_and_loads : StoresAndLoads
  pub empty_files_and_full_volumes : EmptyFilesAndFullVolumes
  pub stores_over_two_pages : StoresOverTwoPages
  pub stores_nothing_in_part : StoresNothingInPart
  pub stores_nothing_read_only : StoresNothingReadOnly
  pub killed_bytes : KilledBytes
  pub kills_nothing_read_only : KillsNothingReadOnly
  pub spaces_in_spaces : SpacesInSpaces
  pub windows_share_files : WindowsShareFiles
  pub mapped_files_stay : MappedFilesStay
  pub kills_its_range : KillsItsRange
  pub ends_of_the_root : EndsOfTheRoot
  pub anonymous_files : AnonymousFiles
  pub identifiers_run_out : IdentifiersRunOut
  pub immutable_files : ImmutableFiles
  pub empty_files_grow : EmptyFilesGrow
  pub writable_windows_share : WritableWindowsShare
  pub permanent_files_stay : PermanentFilesStay
  pub killed_cells : KilledCells
  pub units_cut : UnitsCut
  pub spaces_fill : SpacesFill
  pub spaces_run_out : SpacesRunOut
