-- What the clauses of a put and of a get give together.
use Rattle.std.specs.Prelude.{◌≡◌, ◌<◌, ◌^◌, ◌==◌, ℕ, true, false, IsSomeAnd, List, Some, length}
use Rattle.std.specs.List.{list_any}
use Rattle.labelled_disk.specs.FilesOn.{files_on}
use Rattle.labelled_disk.specs.Sectors.{Sector}
use Rattle.document_head.specs.declared.head.Head.{Head}
use Rattle.document_head.specs.Says.{Says}
use Rattle.flat_machine.specs.declared.call.Call.TheVariants.{Close}
use Rattle.flat_machine.specs.File.{File, file_at}
use Rattle.flat_machine.specs.Machine.{Machine}
use Rattle.flat_machine.specs.IsMachine.{IsMachine}
use Rattle.flat_machine.specs.Next.{new_id, next}
use Rattle.flat_machine.specs.Settled.{FileAgrees, settled}
use Rattle.flat_machine.specs.Start.{start}
use Rattle.session_words.specs.StandsFor.{RevealsSettled}
use Rattle.documents.specs.Contents.{IsDocument}
use Rattle.documents.specs.Pieces.{adding}
use Rattle.documents.specs.Stands.{IsGot}

-- where a file is the document of these bytes, what is got of it is these bytes, and the head says their number and the name
abbrev pub WhatIsPutIsGot : Type 0
WhatIsPutIsGot = (f : File) (name bytes got : List ℕ) (head : Head) → length bytes < 2 ^ 64 → head.bytes < 2 ^ 64
    → IsDocument name bytes f → IsGot f head got → (got ≡ bytes) × Says (length bytes) name head

-- a permanent file that was added is there after a stop, whole, and after the volume was closed
abbrev pub WhatIsPutStays : Type 0
WhatIsPutStays = (m : Machine) (f : File) → IsMachine m → IsMachine (adding f m) → f.id ≡ new_id m → f.permanent ≡ true
    → (file_at (settled (adding f m)) f.id ≡ Some f) × (file_at (next (adding f m) Close).files f.id ≡ Some f)

-- the labels of the disk name the file, and its sectors have its bytes
abbrev pub HasOnDisk : File → List Sector → Type 0
HasOnDisk f d = IsSomeAnd (file_at (files_on d) f.id) (λ g. FileAgrees g f)

-- As long as a machine has a permanent file of which no page is unforced, a disk that has the settled files of the machine has
-- the file, whole.
abbrev pub WhatIsPutLasts : Type 0
WhatIsPutLasts = (n : Machine) (f : File) (d : List Sector) → IsMachine n → file_at n.files f.id ≡ Some f → f.permanent ≡ true
    → list_any (λ u. u.file == f.id) n.unforced ≡ false → RevealsSettled d n → HasOnDisk f d

-- Where a disk has the document of these bytes, and another one the same files, as after a close, or after a restoration of
-- what a stop left: what is got of it in a session that the other one starts is these bytes, and the head says their number
-- and the name.
abbrev pub WhatIsKeptIsGot : Type 0
WhatIsKeptIsGot = (f g : File) (d h : List Sector) (name bytes got : List ℕ) (head : Head) → length bytes < 2 ^ 64 → head.bytes < 2 ^ 64
    → IsDocument name bytes f → HasOnDisk f d → files_on h ≡ files_on d → file_at (start h).files f.id ≡ Some g → IsGot g head got
    → (got ≡ bytes) × Says (length bytes) name head
