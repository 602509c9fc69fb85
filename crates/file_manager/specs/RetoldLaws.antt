-- What keeps to an initial state does so where other bytes are revealed of the space tables, or no identifier is given out from a later one on.
use Rattle.std.proofs.Common.{inl, inr, ℕ, ◌≤◌, List, Option, arith}
use Rattle.std.specs.Prelude.{IfSome}
use Rattle.labelled_disk.specs.declared.disk.Disk.{Ghosts}
use Rattle.labelled_disk.specs.declared.evidence.Evidence.TheVariants.{Malformed, Mismatch, Missing}
use Rattle.labelled_disk.specs.declared.evidence.Halt.{Halt}
use Rattle.labelled_disk.specs.declared.evidence.Halt.TheVariants.{Damaged, Disk}
use Rattle.labelled_disk.specs.declared.layout.Layout.{Layout}
use Rattle.labelled_disk.specs.State.{DiskState}
use Rattle.frame_pool.specs.Frames.{Slots}
use Rattle.file_map.specs.declared.run.Run.{Run}
use Rattle.file_map.specs.FileMap.{Triples}
use Rattle.filer_kernel.specs.declared.filer.Filer.{Filer}
use Rattle.file_manager.specs.Reasons.{InitialState, AreTabled, KeepsOn, KeepsTo, ShowsReason, giving}

module _ {o : InitialState} {layout : Layout} {k : List Run} {a : DiskState} {s : Slots} {named : Triples} where
  -- what else is so meanwhile plays no part in what was written, given and let
  meanwhile : (next : ℕ) (tables : Option (List ℕ)) → o.next ≤ next → (h : KeepsTo o layout k a s named) → IfSome tables (AreTabled layout named h.memory) → KeepsTo (record o { next = next; tables = tables }) layout k a s named
  meanwhile next tables more h revealed = record {
    since = h.since;
    memory = h.memory;
    stands = h.stands;
    size = h.size;
    map = h.map;
    homes = h.homes;
    kept = h.kept;
    frames = h.frames;
    unframed = h.unframed;
    over = h.over;
    marks = h.marks;
    bits = h.bits;
    free = h.free;
    rest = h.rest;
    used = h.used;
    roots = λ root made. let was = h.roots root made in omega (arith, was, more);
    taken = λ home given may. elim (h.taken home given may) [ inl below ↦ inl (omega (arith, below, more)) | inr had ↦ inr had ];
    tabled = revealed;
  }

  -- other bytes are revealed of the tables, which they have
  pub retold : (tables : Option (List ℕ)) → (h : KeepsTo o layout k a s named) → IfSome tables (AreTabled layout named h.memory) → KeepsTo (record o { tables = tables }) layout k a s named
  retold tables h revealed = meanwhile o.next tables (omega arith) h revealed

  -- no identifier is given out from a later one on
  pub giving_more : (next : ℕ) → o.next ≤ next → KeepsTo o layout k a s named → KeepsTo (giving o next) layout k a s named
  giving_more next more h = meanwhile next o.tables more h h.tabled

-- so it is of a filer
module _ {D A : Type 0} {G : Ghosts D} where
  pub on_giving : (o : InitialState) (f : Filer D A G) (next : ℕ) → KeepsOn o f → o.next ≤ next → KeepsOn (giving o next) f
  on_giving o f next (named, (keeps, all)) more = (named, (giving_more next more keeps, all))

-- and a reason stays one, either way
pub shows_giving : (o : InitialState) (next : ℕ) (layout : Layout) (disk : DiskState) (halt : Halt) → ShowsReason o layout disk halt → ShowsReason (giving o next) layout disk halt
shows_giving o next layout disk Disk is = is
shows_giving o next layout disk (Damaged (Mismatch sector wanted found)) is = is
shows_giving o next layout disk (Damaged (Malformed structure page)) is = is
shows_giving o next layout disk (Damaged (Missing id page)) is = is

pub giving_shows : (o : InitialState) (next : ℕ) (layout : Layout) (disk : DiskState) (halt : Halt) → ShowsReason (giving o next) layout disk halt → ShowsReason o layout disk halt
giving_shows o next layout disk Disk is = is
giving_shows o next layout disk (Damaged (Mismatch sector wanted found)) is = is
giving_shows o next layout disk (Damaged (Malformed structure page)) is = is
giving_shows o next layout disk (Damaged (Missing id page)) is = is
