-- More worked rows: marks, the last sector, orders of refusals, unforced pages, what close and a stop leave, and which files agree.
use Rattle.std.specs.Prelude.{ℕ, ◌≡◌, List, [], ◌∷◌, ◌++◌, fold, true, false, Some, None}
use Rattle.flat_machine.specs.declared.call.Call.{Call}
use Rattle.flat_machine.specs.declared.call.Call.TheVariants.{Create, Delete, Attributes, SetSize, MakePermanent, MakeImmutable, Next, Volume, MakeSpace, RemoveSpace, Place, Units, Map, MapAnonymous, Unmap, Protect, Store, Activate, Deactivate, Kill, ForceOut, Close, Halt}
use Rattle.flat_machine.specs.declared.call.Reply.TheVariants as reply
use Rattle.flat_machine.specs.declared.call.Refusal.TheVariants as why
use Rattle.flat_machine.specs.File.{File, Cell, byte, any, zero_page, any_page}
use Rattle.flat_machine.specs.Space.{Space, FilePage, root}
use Rattle.flat_machine.specs.Machine.{Machine}
use Rattle.flat_machine.specs.Next.{next}
use Rattle.flat_machine.specs.Start.{opened}
use Rattle.flat_machine.specs.Settled.{settled, Agrees}
use Rattle.flat_machine.specs.Projection.{Span, view_at, unit}
use Rattle.flat_machine.specs.Rows.{Gives, volume_124, f1, f2, filled, cells_after}

abbrev pub machine_after : List Call → Machine
machine_after calls = fold next volume_124 calls

-- the marks of a file, as a client is revealed them
unfoldable pub Marks : Type 0
Marks = Gives volume_124 (
    (Create 1 9, reply.File f1) ∷
    (MakePermanent f1, reply.Done) ∷
    (Attributes f1, reply.Attributes 1 9 true false) ∷
    (MakeImmutable f1, reply.Done) ∷
    (Attributes f1, reply.Attributes 1 9 true true) ∷
    (Create 1 9, reply.File f2) ∷
    (MakeImmutable f2, reply.Done) ∷
    (Attributes f2, reply.Attributes 1 9 false true) ∷ [])

-- one file after another
unfoldable pub NextFiles : Type 0
NextFiles = Gives volume_124 (
    (Create 0 0, reply.File f1) ∷
    (Create 0 0, reply.File f2) ∷
    (Next 0, reply.File f1) ∷
    (Next 30064771072, reply.File f1) ∷
    (Next f1, reply.File f2) ∷
    (Next f2, reply.Nothing) ∷ [])

-- a volume is filled to its last sector
unfoldable pub LastSector : Type 0
LastSector = Gives (opened 7 1 5) (
    (Create 5 0, reply.Refused why.Full) ∷
    (Create 4 0, reply.File f1) ∷
    (Volume, reply.Volume 5 0) ∷
    (Create 0 0, reply.Refused why.Full) ∷
    (SetSize f1 5, reply.Refused why.Full) ∷
    (SetSize f1 4, reply.Done) ∷
    (SetSize f1 2, reply.Done) ∷
    (SetSize f1 4, reply.Done) ∷
    (SetSize f1 3, reply.Done) ∷
    (Create 0 0, reply.File f2) ∷
    (Volume, reply.Volume 5 0) ∷ [])

-- where several refusals hold, the first is revealed
unfoldable pub Orders : Type 0
Orders = Gives volume_124 (
    (Create 1 0, reply.File f1) ∷
    (MakeSpace 0 2 None, reply.Space 1 0) ∷
    (MakeSpace 1 1 None, reply.Space 2 0) ∷
    (Map 2 f1 0 true, reply.Done) ∷
    (SetSize f1 1, reply.Done) ∷
    (Map 9 f2 9 true, reply.Refused why.Space) ∷
    (Map 0 f2 9 true, reply.Refused why.Root) ∷
    (Map 1 f2 9 true, reply.Refused why.File) ∷
    (Map 1 f1 9 true, reply.Refused (why.Mapped 2)) ∷
    (Protect 2 false, reply.Done) ∷
    (MakeImmutable f1, reply.Done) ∷
    (SetSize f1 0, reply.Refused why.Immutable) ∷
    (MakeSpace 0 1 None, reply.Space 3 2) ∷
    (Map 3 f1 1 true, reply.Refused why.Window) ∷
    (Map 3 f1 0 true, reply.Refused why.Immutable) ∷
    (Map 3 f1 0 false, reply.Done) ∷
    (Delete f1, reply.Refused (why.FileMapped 2)) ∷
    (Delete f2, reply.Refused why.File) ∷
    (RemoveSpace 2, reply.Refused (why.Mapped 2)) ∷
    (RemoveSpace 9, reply.Refused why.Space) ∷
    (MakeSpace 9 0 None, reply.Refused why.Space) ∷
    (MakeSpace 2 0 (Some 9), reply.Refused why.Size) ∷
    (Units 9 0, reply.Refused why.Space) ∷
    (Units 0 0, reply.Refused why.Root) ∷
    (Units 1 0, reply.Refused why.Size) ∷
    (Units 1 16, reply.Done) ∷
    (Protect 1 true, reply.Refused why.NotMapped) ∷
    (Unmap 0, reply.Refused why.NotMapped) ∷
    (Activate 9, reply.Refused why.Space) ∷
    (Deactivate 9, reply.Refused why.Space) ∷
    (Kill 9, reply.Refused why.Space) ∷
    (ForceOut 9, reply.Refused why.Space) ∷ [])

-- full stands before ids, and a mapped space before both
unfoldable pub LastIdentifier : Type 0
LastIdentifier = Gives (opened 7 4294967294 5) (
    (Create 1 0, reply.File 34359738366) ∷
    (Create 4 0, reply.Refused why.Full) ∷
    (Create 2 0, reply.Refused why.Ids) ∷
    (MakeSpace 0 9 None, reply.Space 1 0) ∷
    (MapAnonymous 1, reply.Refused why.Full) ∷
    (MakeSpace 1 1 None, reply.Space 2 0) ∷
    (Map 2 34359738366 0 true, reply.Done) ∷
    (MapAnonymous 1, reply.Refused (why.Mapped 2)) ∷
    (MapAnonymous 0, reply.Refused why.Root) ∷ [])

-- a space of no page is refused before the number of spaces is
unfoldable pub SizeBeforeSpaces : Type 0
SizeBeforeSpaces = Gives (filled 511) (
    (MakeSpace 0 0 None, reply.Refused why.Size) ∷
    (MakeSpace 0 1 None, reply.Refused why.Spaces) ∷ [])

-- a store over two read-only pages names the first
unfoldable pub FirstReadOnly : Type 0
FirstReadOnly = Gives volume_124 (
    (Create 2 0, reply.File f1) ∷
    (MakeSpace 0 2 None, reply.Space 1 0) ∷
    (Map 1 f1 0 false, reply.Done) ∷
    (Store 510 (1 ∷ 2 ∷ 3 ∷ []), reply.Refused (why.ReadOnly 0)) ∷ [])

-- the unit of a new space, and of one that was given another
unfoldable pub UnitSizes : Type 0
UnitSizes = (machine_after (MakeSpace 0 20 None ∷ MakeSpace 0 9 None ∷ MakeSpace 0 9 None ∷ Units 3 16 ∷ [])).spaces
    ≡ root ∷ (record { handle = 1; parent = 0; first = 0; pages = 20; unit = 16; window = None })
    ∷ (record { handle = 2; parent = 0; first = 20; pages = 9; unit = 9; window = None })
    ∷ (record { handle = 3; parent = 0; first = 29; pages = 9; unit = 16; window = None }) ∷ []

-- new pages are zero, and not only any
unfoldable pub NewPagesAreZero : Type 0
NewPagesAreZero =
    cells_after (Create 1 0 ∷ SetSize f1 2 ∷ MakeSpace 0 2 None ∷ Map 1 f1 0 true ∷ []) 511 2 ≡ byte 0 ∷ byte 0 ∷ []

-- a file of two pages, two writable windows on it and a read-only one on its second page, and a store over both pages
abbrev pub stored : List Call
stored = Create 2 0 ∷ MakeSpace 0 2 None ∷ MakeSpace 0 2 None ∷ MakeSpace 0 1 None ∷ Map 1 f1 0 true ∷ Map 2 f1 0 true ∷ Map 3 f1 1 false
    ∷ Store 511 (65 ∷ 66 ∷ []) ∷ []

abbrev pub page_of_f1 : ℕ → FilePage
page_of_f1 page = record { file = f1; page = page }

abbrev pub unforced_after : List Call → List FilePage
unforced_after calls = (machine_after (stored ++ calls)).unforced

-- which pages are unforced after calls
pub record Unforced : Type 0 where
  pub store_both : unforced_after [] ≡ page_of_f1 0 ∷ page_of_f1 1 ∷ []
  pub store_again : unforced_after (Store 1535 (67 ∷ 68 ∷ []) ∷ []) ≡ page_of_f1 0 ∷ page_of_f1 1 ∷ []
  pub force_read_only : unforced_after (ForceOut 3 ∷ []) ≡ page_of_f1 0 ∷ []
  pub force_part : unforced_after (MakeSpace 1 1 None ∷ ForceOut 4 ∷ []) ≡ page_of_f1 1 ∷ []
  pub force_all : unforced_after (ForceOut 0 ∷ []) ≡ []
  pub protect_writable : unforced_after (Protect 1 true ∷ Protect 3 true ∷ []) ≡ page_of_f1 0 ∷ page_of_f1 1 ∷ []
  pub protect_read_only : unforced_after (Protect 3 false ∷ []) ≡ page_of_f1 0 ∷ []
  pub unmap_shared : unforced_after (Unmap 2 ∷ []) ≡ []
  pub unmap_part : unforced_after (Unmap 3 ∷ []) ≡ page_of_f1 0 ∷ []
  pub kill : unforced_after (Kill 1 ∷ []) ≡ page_of_f1 0 ∷ page_of_f1 1 ∷ []
  pub advice : unforced_after (Activate 1 ∷ Deactivate 0 ∷ Halt ∷ []) ≡ page_of_f1 0 ∷ page_of_f1 1 ∷ []

-- a kill of the whole root goes to what writable windows show, and to no other page
unfoldable pub KillsInTheRoot : Type 0
KillsInTheRoot =
    cells_after (Create 2 0 ∷ MakeSpace 0 1 None ∷ MakeSpace 0 2 None ∷ Map 1 f1 1 true ∷ Map 2 f1 0 false ∷ Kill 0 ∷ []) 1023 2
    ≡ byte 0 ∷ any ∷ []

-- close leaves the permanent files alone
unfoldable pub CloseLeaves : Type 0
CloseLeaves = Gives volume_124 (
    (Create 0 1, reply.File f1) ∷
    (Create 0 2, reply.File f2) ∷
    (MakeImmutable f1, reply.Done) ∷
    (MakePermanent f2, reply.Done) ∷
    (MakeSpace 0 1 None, reply.Space 1 0) ∷
    (Close, reply.Done) ∷
    (Next 0, reply.File f2) ∷
    (Next f2, reply.Nothing) ∷
    (Place 0, reply.Place 0 0 8126464) ∷
    (Volume, reply.Volume 124 123) ∷ [])

-- a stop leaves any bytes in unforced pages, and the others as they are
unfoldable pub StopLeaves : Type 0
StopLeaves =
    settled (machine_after (Create 2 9 ∷ MakePermanent f1 ∷ Create 1 0 ∷ MakeSpace 0 2 None ∷ Map 1 f1 0 true ∷ Store 0 (65 ∷ []) ∷ []))
    ≡ (record { id = f1; kind = 9; permanent = true; immutable = false; pages = any_page ∷ zero_page ∷ [] }) ∷ []

-- a space from page 3 on, in units of 2
abbrev pub space_3 : Space
space_3 = record { handle = 1; parent = 0; first = 3; pages = 5; unit = 2; window = None }

abbrev pub span_3 : Span
span_3 = record { first = 3; pages = 5; view = view_at (root ∷ space_3 ∷ []) 3 }

-- blocks are counted from the first page of the innermost space
unfoldable pub BlocksOfTheSpace : Type 0
BlocksOfTheSpace = (unit space_3 span_3 4 ≡ (3, 2)) × (unit space_3 span_3 5 ≡ (5, 2)) × (unit space_3 span_3 7 ≡ (7, 1))

-- a file of one page, cut to its first cell
abbrev pub one_cell : Cell → List File
one_cell cell = (record { id = f1; kind = 0; permanent = true; immutable = false; pages = (cell ∷ []) ∷ [] }) ∷ []

-- which files agree: the same byte, or any after a byte; not another byte, a byte after any, or no file
pub record AgreeingFiles : Type 0 where
  pub same_byte : Agrees (one_cell (byte 65)) (one_cell (byte 65))
  pub any_after : Agrees (one_cell (byte 65)) (one_cell any)
  pub other_byte : ¬ Agrees (one_cell (byte 65)) (one_cell (byte 66))
  pub byte_after : ¬ Agrees (one_cell any) (one_cell (byte 65))
  pub no_file : ¬ Agrees [] (one_cell any)

pub record MoreRows : Type 0 where
  pub marks : Marks
  pub next_files : NextFiles
  pub last_sector : LastSector
  pub orders : Orders
  pub last_identifier : LastIdentifier
  pub size_before_spaces : SizeBeforeSpaces
  pub first_read_only : FirstReadOnly
  pub unit_sizes : UnitSizes
  pub new_pages_are_zero : NewPagesAreZero
  pub unforced : Unforced
  pub kills_in_the_root : KillsInTheRoot
  pub close_leaves : CloseLeaves
  pub stop_leaves : StopLeaves
  pub blocks_of_the_space : BlocksOfTheSpace
  pub agreeing_files : AgreeingFiles
