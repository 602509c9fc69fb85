-- What an engine stands for after a document was put or got.
use Rattle.std.specs.Prelude.{◌≡◌, ◌⊎◌, ◌≤◌, ◌<◌, ◌+◌, ◌*◌, ◌^◌, ◌==◌, ℕ, Bool, true, false, List, Option, Some, None, IfSome, length, take}
use Rattle.std.specs.List.{AllByRecursion, list_any}
use Rattle.std.specs.Int.{div_ceil}
use Rattle.std.specs.Io.KnownBytes.{Appends, Consumes}
use Rattle.labelled_disk.specs.declared.disk.Disk.{Ghosts}
use Rattle.labelled_disk.specs.declared.evidence.Halt.TheVariants as halt
use Rattle.document_head.specs.Head.{head_page, pages_of}
use Rattle.document_head.specs.declared.head.Head.{Head}
use Rattle.flat_machine.specs.declared.space.FilePage.{FilePage}
use Rattle.flat_machine.specs.File.{File, byte, size, file_at, put_file}
use Rattle.flat_machine.specs.Machine.{Machine, is_anonymous}
use Rattle.flat_machine.specs.Refusal.{file_mapped}
use Rattle.flat_machine.specs.Next.{new_file, new_id, without_file}
use Rattle.embedded.specs.declared.code.Code.{Code}
use Rattle.embedded.specs.declared.code.Code.TheVariants as code
use Rattle.embedded.specs.declared.engine.Engine.{Engine}
use Rattle.embedded.specs.Engine.{StandsFor}
use Rattle.documents.specs.Contents.{Holds, IsDocument, Reads, cell_in}
use Rattle.documents.specs.Pieces.{adding, after_store}

-- the code of a disk that failed
abbrev pub is_failure : Code
is_failure = code.Halted halt.Disk

-- there is no page among the first that is not among the second
abbrev pub AreAmong : List FilePage → List FilePage → Type 0
AreAmong few all = (test : FilePage → Bool) → list_any test all ≡ false → list_any test few ≡ false

-- What was got of a file: its head says so many bytes, and these are as many of its bytes.
pub record IsGot (f : File) (head : Head) (bytes : List ℕ) : Type 0 where
  pub kind : f.kind ≡ 17475
  pub long : size f ≡ pages_of head.bytes
  pub head_read : Reads f 0 (head_page head.bytes head.name.bytes)
  pub count : length bytes ≡ head.bytes
  pub body : Reads f 512 bytes

-- The machine has a document of this identifier: a file of that type, whose first page is a head, and has the pages for it.
pub record HasDocument (m : Machine) (id : ℕ) : Type 0 where
  pub file : File
  pub there : file_at m.files id ≡ Some file
  pub kind : file.kind ≡ 17475
  pub head : Head
  pub long : size file ≡ pages_of head.bytes
  pub head_read : Reads file 0 (head_page head.bytes head.name.bytes)

module _ {D A : Type 0} {G : Ghosts D} where
  -- it stands for the machine, but for pages that were forced meanwhile
  abbrev pub StillFor : Machine → Engine D A G → Type 0
  StillFor m e = (unforced : List FilePage) × AreAmong unforced m.unforced
      × StandsFor e (record m { unforced = unforced })

  -- bytes of a file were read, from the start of a page on
  pub record HasRead (m : Machine) (id page : ℕ) (bytes : List ℕ) (e : Engine D A G) : Type 0 where
    pub file : File
    pub there : file_at m.files id ≡ Some file
    pub reads : Reads file (512 * page) bytes
    pub still : StillFor m e

  -- the file of that identifier has so many pages and this type, and where a head was found it is that of a document
  pub record IsListed (m : Machine) (id pages kind : ℕ) (head : Option Head) (e : Engine D A G) : Type 0 where
    pub file : File
    pub there : file_at m.files id ≡ Some file
    pub same_size : pages ≡ size file
    pub same_kind : kind ≡ file.kind
    pub head_read : IfSome head (λ h. (file.kind ≡ 17475) × Reads file 0 (head_page h.bytes h.name.bytes))
    pub still : StillFor m e

  -- bytes of the file from one of them on, so many, went to a sink
  pub record HasSent (m : Machine) (f : File) (from count : ℕ) (old new : Option (List ℕ)) (e : Engine D A G) : Type 0 where
    pub bytes : List ℕ
    pub long : length bytes ≡ count
    pub reads : Reads f from bytes
    pub sent : Appends old new bytes
    pub still : StillFor m e

  -- a document of the machine was got: its bytes went to the sink, and nothing else
  pub record HasGot (m : Machine) (id : ℕ) (head : Head) (old new : Option (List ℕ)) (e : Engine D A G) : Type 0 where
    pub file : File
    pub there : file_at m.files id ≡ Some file
    pub bytes : List ℕ
    pub got : IsGot file head bytes
    pub sent : Appends old new bytes
    pub still : StillFor m e

  -- all pages of a file of the machine went to the sink
  pub record HasGotPages (m : Machine) (id pages : ℕ) (old new : Option (List ℕ)) (e : Engine D A G) : Type 0 where
    pub file : File
    pub there : file_at m.files id ≡ Some file
    pub long : pages ≡ size file
    pub sent : HasSent m file 0 (512 * pages) old new e

  -- it stands for the machine without a file, which was a document, but for pages that were forced meanwhile
  abbrev pub HasRemoved : Machine → ℕ → Engine D A G → Type 0
  HasRemoved m id e = HasDocument m id × ((unforced : List FilePage) × AreAmong unforced m.unforced
      × StandsFor e (record m { files = without_file id m.files; unforced = unforced }))

  -- the disk failed, or the first of the bytes were stored, or nothing was
  abbrev pub StoredPart : Machine → ℕ → ℕ → List ℕ → Code → Engine D A G → Type 0
  StoredPart m id page bytes e new =
      (e ≡ is_failure) ⊎ (StandsFor new m
      ⊎ ((done : ℕ) × StandsFor new (after_store id page (div_ceil (length bytes) 512) (take done bytes) m)))

-- the temporary file of one zero page that a document begins as
abbrev pub blank : Machine → File
blank m = new_file m 1 17475

-- no file has the identifier, and nothing was left of one that had it
pub record IsFresh (m : Machine) (id : ℕ) : Type 0 where
  pub none : file_at m.files id ≡ None
  pub unseen : file_mapped m id (λ w. true) ≡ None
  pub not_anonymous : is_anonymous m.spaces id ≡ false
  pub nothing_unforced : list_any (λ u. u.file == id) m.unforced ≡ false

-- another file of the same name, type and marks, whose pages are whole: so many bytes lie after its first page, and then zeros
pub record IsFilled (f : File) (bytes : List ℕ) (g : File) : Type 0 where
  pub same : g ≡ record f { pages = g.pages }
  pub whole : AllByRecursion (λ page. length page ≡ 512) g.pages
  pub enough : 512 + length bytes ≤ 512 * size g
  pub body : Holds g 512 bytes
  pub rest : (k : ℕ) → 512 + length bytes ≤ k → k < 512 * size g → cell_in g.pages k ≡ byte 0

module _ {D A : Type 0} {G : Ghosts D} where
  -- it stands for the machine with some file of this identifier more
  abbrev pub HasOther : Machine → ℕ → Engine D A G → Type 0
  HasOther m id e = (f : File) × (f.id ≡ id) × StandsFor e (adding f m)

  -- it stands for the machine, but for how many identifiers that gave out
  abbrev pub IsAsBefore : Machine → Engine D A G → Type 0
  IsAsBefore m e = (counter : ℕ) × (m.counter ≤ counter) × StandsFor e (record m { counter = counter })

  -- so many bytes that the source had left were put after the first page of a new file
  pub record HasFilled (m : Machine) (count : ℕ) (old new : Option (List ℕ)) (e : Engine D A G) : Type 0 where
    pub bytes : List ℕ
    pub taken : Consumes old new bytes
    pub long : length bytes ≡ count
    pub file : File
    pub filled : IsFilled (blank m) bytes file
    pub tight : size file ≡ pages_of (length bytes)
    pub stands : StandsFor e (adding file m)

  -- A document was put: it stands for the machine with one file more, which is a document of this name, and has exactly the
  -- bytes that the source had left, where that reveals them.
  pub record IsPut (m : Machine) (id : ℕ) (name : List ℕ) (left : Option (List ℕ)) (e : Engine D A G) : Type 0 where
    pub bytes : List ℕ
    pub all : IfSome left (λ xs. bytes ≡ xs)
    pub fits : length bytes < 2 ^ 64
    pub new : id ≡ new_id m
    pub file : File
    pub named : file.id ≡ id
    pub document : IsDocument name bytes file
    pub stands : StandsFor e (adding file m)

  -- A document was put and another one removed: it stands for the machine without that, and with the new one.
  pub record IsReplaced (m : Machine) (gone id : ℕ) (name : List ℕ) (left : Option (List ℕ)) (e : Engine D A G) : Type 0 where
    pub was : HasDocument m gone
    pub bytes : List ℕ
    pub all : IfSome left (λ xs. bytes ≡ xs)
    pub fits : length bytes < 2 ^ 64
    pub new : id ≡ new_id m
    pub file : File
    pub named : file.id ≡ id
    pub document : IsDocument name bytes file
    pub unforced : List FilePage
    pub forced : AreAmong unforced m.unforced
    pub stands : StandsFor e (record m { files = without_file gone (put_file file m.files); counter = m.counter + 1; unforced = unforced })

  -- it stands for the machine, but for pages that were forced, and for how many identifiers that gave out
  abbrev pub IsMostlyAsBefore : Machine → Engine D A G → Type 0
  IsMostlyAsBefore m e = (unforced : List FilePage) × AreAmong unforced m.unforced
      × IsAsBefore (record m { unforced = unforced }) e
