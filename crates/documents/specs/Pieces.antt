-- What loads and stores of whole runs of pages do to a machine.
use Rattle.std.specs.Prelude.{◌≡◌, ◌+◌, ◌-◌, ◌*◌, ◌/◌, ◌%◌, ◌==◌, ◌&&◌, ℕ, Bool, true, not, nat_le, nat_lt, List, [], ◌∷◌, ◌++◌, length, filter, take, replicate, slice_set, slice_index_or}
use Rattle.flat_machine.specs.File.{File, Page, byte, put_file, zero_page}
use Rattle.flat_machine.specs.declared.space.FilePage.{FilePage}
use Rattle.flat_machine.specs.Machine.{Machine}
use Rattle.flat_machine.specs.Next.{change_file}

-- pages with another byte at one place
abbrev pub put_cell : ℕ → ℕ → List Page → List Page
put_cell k b pages = slice_set pages (k / 512) (slice_set (slice_index_or pages (k / 512) []) (k % 512) (byte b))

-- pages with other bytes from one place on
abbrev pub put_cells : ℕ → List ℕ → List Page → List Page
put_cells k [] pages = pages
put_cells k (b ∷ bytes) pages = put_cells (k + 1) bytes (put_cell k b pages)

-- the file with these bytes from one of its own on
abbrev pub written : ℕ → List ℕ → File → File
written from bytes f = record f { pages = put_cells from bytes f.pages }

-- pages, and zero pages after them up to so many
abbrev pub grown : ℕ → List Page → List Page
grown n pages = take n pages ++ replicate (n - length pages) zero_page

-- a file of so many pages that was made longer, and then got these bytes after its old pages
abbrev pub appended : ℕ → ℕ → List ℕ → File → File
appended all pages bytes f = written (512 * pages) bytes (record f { pages = grown all f.pages })

-- the file as a permanent one
abbrev pub marked : File → File
marked f = record f { permanent = true }

-- the page is one of a run of a file, from this page on
abbrev pub is_in_run : ℕ → ℕ → ℕ → FilePage → Bool
is_in_run id page pages u = id == u.file && nat_le page u.page && nat_lt u.page (page + pages)

-- nothing of a run is unforced any more
abbrev pub forced : ℕ → ℕ → ℕ → List FilePage → List FilePage
forced id page pages unforced = filter (λ u. not (is_in_run id page pages u)) unforced

-- the machine after a run of pages was shown in a space of its own, and the space taken away
abbrev pub after_look : ℕ → ℕ → ℕ → Machine → Machine
after_look id page pages m = record m { unforced = forced id page pages m.unforced }

-- and bytes were stored through it, from the start of the run on
abbrev pub after_store : ℕ → ℕ → ℕ → List ℕ → Machine → Machine
after_store id page pages bytes m = record m {
  files = change_file id (written (512 * page) bytes) m.files;
  unforced = forced id page pages m.unforced;
}

-- the machine with one more file, to which it gave its next identifier
abbrev pub adding : File → Machine → Machine
adding f m = record m { files = put_file f m.files; counter = m.counter + 1 }
