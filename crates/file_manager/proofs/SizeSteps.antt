-- A file is found, and then it gets another size.
use Rattle.std.proofs.Common.{◌≡◌, inl, inr, ℕ, ◌+◌, ◌-◌, ◌*◌, ◌<◌, ◌≤◌, Bool, true, false, min, List, [], Some, sym, ◌∙◌, ap, subst, arith}
use Rattle.std.proofs.lemmas.Option.{same_Some}
use Rattle.std.proofs.Math.Nat.{min-le_right, mul-le-mul, mul-le-mul_right}
use Rattle.labelled_disk.specs.declared.disk.DiskWrite.{DiskWrite}
use Rattle.labelled_disk.specs.declared.label.Label.{Label}
use Rattle.labelled_disk.specs.declared.layout.Layout.{Layout}
use Rattle.labelled_disk.specs.Sectors.{Sector}
use Rattle.labelled_disk.specs.State.{DiskState}
use Rattle.frame_pool.specs.Frames.{Slots}
use Rattle.flat_machine.specs.declared.space.Space.{Space}
use Rattle.swapper_kernel.specs.Goes.{Makes, Change}
use Rattle.swapper_kernel.specs.GoesLaws.{makes_then}
use Rattle.swapper_kernel.specs.HaltLaws.{brings_then}
use Rattle.filer_kernel.specs.declared.cached.CachedRuns.{CachedRuns}
use Rattle.session_words.specs.Parts.{Shape, Shapes}
use Rattle.session_words.specs.Volume.{volume_page}
use Rattle.file_manager.specs.declared.volume.Volume.{Volume}
use Rattle.file_manager.specs.Book.{Books, BringsOwn, Leads}
use Rattle.file_manager.specs.Broken.{GrewSome}
use Rattle.file_manager.specs.Costs.{label_cost}
use Rattle.file_manager.specs.Finding.{shape_of_leader}
use Rattle.file_manager.specs.Freeing.{MakesFree, MakesSomeFree}
use Rattle.file_manager.specs.Making.{MayGrow, GrownBy, MakesAll, MakesSome}
use Rattle.file_manager.specs.Resizing.{Resizes, ResizesSome}
use Rattle.file_manager.specs.Shrinking.{MayShrink, ShrunkBy, ShrunkSome}
use Rattle.file_manager.proofs.FreedRun.{one_memory}

-- what the leader and the size reveal of the shape
pub shape_is : (shapes : Shapes) (id : ℕ) (f : Shape) (leader : Label) (size : ℕ) → shapes id ≡ Some f → shapes id ≡ Some (shape_of_leader leader size) → f ≡ shape_of_leader leader size
shape_is shapes id f leader size is revealed = same_Some f (shape_of_leader leader size) (sym is ∙ revealed)

module _ {layout : Layout} {kept runs : CachedRuns} {shapes : Shapes} {spaces : List Space} {x : List Sector} {a b : DiskState} {s t : Slots}
    (books : Books a s layout kept shapes spaces x) (now : Books b t layout runs shapes spaces x) where
  pub may_grow_now : {id pages : ℕ} {f : Shape} → MayGrow a s layout kept shapes spaces id f pages x → MayGrow b t layout runs shapes spaces id f pages x
  may_grow_now may = record { books = now; hidden = may.hidden; are = may.are; found = may.found; enough = may.enough }

  pub may_shrink_now : {id pages : ℕ} {f : Shape} → MayShrink a s layout kept shapes spaces id f pages x → MayShrink b t layout runs shapes spaces id f pages x
  may_shrink_now may = record { books = now; found = may.found; fewer = may.fewer; hidden = may.hidden }

  module _ (first : Makes volume_page [] a s b t) (brings : BringsOwn s t) {c : DiskState} {u : Slots} {last : CachedRuns} where
    leads_after : (P : Change) (writes : List DiskWrite) → Leads P writes b t layout c u last → Leads P writes a s layout c u last
    leads_after P writes leads = record {
      goes = record {
        makes = makes_then first leads.goes.makes;
        memory = λ m stands.
            let y = leads.goes.memory x now.stands in
            (y.0, y.1, subst (λ (z : List Sector). P z y.0) (one_memory a s x m books.stands stands) y.2);
      };
      brings = brings_then brings leads.brings;
      true_runs = leads.true_runs;
    }

    pub grown_after : {id kind from pages : ℕ} → GrownBy id kind from pages b t layout c u last → GrownBy id kind from pages a s layout c u last
    grown_after h = record { sectors = h.sectors; long = h.long; leads = leads_after _ _ h.leads }

    pub shrunk_after : {id pages size : ℕ} → ShrunkBy id pages size x b t layout c u last → ShrunkBy id pages size x a s layout c u last
    shrunk_after h = record { sectors = h.sectors; long = h.long; last = h.last; leads = leads_after _ _ h.leads }

-- a stop among the labels
pub some_after : {a b c : DiskState} {s t u : Slots} {id pages size : ℕ} {x : List Sector} → Makes volume_page [] a s b t → ShrunkSome id pages size x b t c u → ShrunkSome id pages size x a s c u
some_after first h = record { sectors = h.sectors; few = h.few; last = h.last; makes = makes_then first h.makes }

-- over any contents
module _ {a b c : DiskState} {s t u : Slots} (first : Makes volume_page [] a s b t) where
  pub grown_makes : (id kind size pages : ℕ) → size ≤ pages → MakesAll id kind size (pages - size) b t c u → Resizes id pages a s c u
  grown_makes id kind size pages few h = inl (kind, size, few, record { sectors = h.sectors; long = h.long; makes = makes_then first h.makes })

  pub grown_stops : (id kind size pages : ℕ) → MakesSome id kind size (pages - size) b t c u → ResizesSome id pages a s c u
  grown_stops id kind size pages h = inl (kind, size, record { sectors = h.sectors; few = h.few; count = h.count; makes = makes_then first h.makes })

  pub shrunk_makes : (id size pages : ℕ) → pages < size → MakesFree (size - pages) b t c u → Resizes id pages a s c u
  shrunk_makes id size pages more h = inr (size, more, record { sectors = h.sectors; long = h.long; makes = makes_then first h.makes })

  pub shrunk_stops : (id pages : ℕ) → MakesSomeFree b t c u → ResizesSome id pages a s c u
  shrunk_stops id pages h = inr (record { sectors = h.sectors; makes = makes_then first h.makes })

-- nothing was written
pub none_resized : {a b : DiskState} {s t : Slots} (id pages : ℕ) → Makes volume_page [] a s b t → ResizesSome id pages a s b t
none_resized id pages first = inr (record { sectors = []; makes = first })

-- in the words of the file's shape
module _ {layout : Layout} {kept runs : CachedRuns} {shapes : Shapes} {spaces : List Space} {x : List Sector} {a b : DiskState} {s t : Slots}
    (books : Books a s layout kept shapes spaces x) (now : Books b t layout runs shapes spaces x) (first : Makes volume_page [] a s b t) (brings : BringsOwn s t) {c : DiskState} {u : Slots} {last : CachedRuns}
    (f : Shape) (leader : Label) (size : ℕ) (same : f ≡ shape_of_leader leader size) where
  pub grown_revealed : (id pages : ℕ) → GrownBy id leader.kind size (pages - size) b t layout c u last → GrownBy id f.kind f.size (pages - f.size) a s layout c u last
  grown_revealed id pages h = subst (λ (w : Shape). GrownBy id w.kind w.size (pages - w.size) a s layout c u last) (sym same) (grown_after books now first brings h)

  pub shrunk_revealed : (id pages : ℕ) → ShrunkBy id pages size x b t layout c u last → ShrunkBy id pages f.size x a s layout c u last
  shrunk_revealed id pages h = subst (λ (w : Shape). ShrunkBy id pages w.size x a s layout c u last) (sym same) (shrunk_after books now first brings h)

module _ {x : List Sector} {a b c : DiskState} {s t u : Slots} (first : Makes volume_page [] a s b t) (f : Shape) (leader : Label) (size : ℕ) (same : f ≡ shape_of_leader leader size) where
  pub grew_revealed : (id pages : ℕ) → GrewSome id leader.kind size (pages - size) x b t c u → GrewSome id f.kind f.size (pages - f.size) x a s c u
  grew_revealed id pages h =
      subst (λ (w : Shape). GrewSome id w.kind w.size (pages - w.size) x a s c u) (sym same)
      (record { sectors = h.sectors; few = h.few; free = h.free; count = h.count; makes = makes_then first h.makes })

  pub some_revealed : (id pages : ℕ) → ShrunkSome id pages size x b t c u → ShrunkSome id pages f.size x a s c u
  some_revealed id pages h = subst (λ (w : Shape). ShrunkSome id pages w.size x a s c u) (sym same) (some_after first h)

pub grew_none : {id kind size pages : ℕ} {x : List Sector} {a b : DiskState} {s t : Slots} → Makes volume_page [] a s b t → GrewSome id kind size pages x a s b t
grew_none first = record { sectors = []; few = omega arith; free = tt; count = 0; makes = first }

pub some_none : {id size pages : ℕ} {x : List Sector} {a b : DiskState} {s t : Slots} → Makes volume_page [] a s b t → ShrunkSome id pages size x a s b t
some_none first = record { sectors = []; few = omega arith; last = λ d labels. tt; makes = first }

-- ---- How much is used.

pub room_grown : (old now : Volume) (n : ℕ) → now ≡ record old { used = min (old.used + n) old.layout.capacity } → now.used ≤ old.layout.capacity
room_grown old now n changed =
    let less = min-le_right (old.used + n) old.layout.capacity in
    let same : now.used ≡ min (old.used + n) old.layout.capacity = ap (λ (v : Volume). v.used) changed in
    omega (arith, less, same)

pub room_shrunk : (old now : Volume) (n : ℕ) → now ≡ record old { used = old.used - n } → old.used ≤ old.layout.capacity → now.used ≤ old.layout.capacity
room_shrunk old now n changed within =
    let same : now.used ≡ old.used - n = ap (λ (v : Volume). v.used) changed in
    omega (arith, within, same)

-- ---- What it costs.

-- of so many pages at most
pub grow_cost : (t0 t1 t2 p most_pages v m : ℕ) → p ≤ most_pages → t1 ≤ t0 + 29 → t2 ≤ t1 + p * (8 * v + 101) → t2 ≤ t0 + (129 + most_pages * (8 * v + 101) + m)
grow_cost t0 t1 t2 p most_pages v m few first then_more =
    let most = mul-le-mul_right (8 * v + 101) few in
    omega (arith, most, first, then_more)

-- whether pages are cleared or not
pub most_cost : (clears : Bool) (t0 t1 p v : ℕ) → t1 ≤ t0 + p * (8 * v + (98 + label_cost clears)) → t1 ≤ t0 + p * (8 * v + 101)
most_cost true t0 t1 p v paid = paid
most_cost false t0 t1 p v paid = let less : t1 ≤ t0 + p * (8 * v + 100) = paid in omega (arith, less)

less_a_page : (v : ℕ) → 16 + 4 * v ≤ 8 * v + 101
less_a_page v = omega arith

pub shrink_cost : (t0 t1 t2 p most_pages v m : ℕ) → p ≤ most_pages → t1 ≤ t0 + 29 → t2 ≤ t1 + (p * (16 + 4 * v) + (100 + 102 * m)) → t2 ≤ t0 + (129 + most_pages * (8 * v + 101) + 102 * m)
shrink_cost t0 t1 t2 p most_pages v m few first then_more =
    let most : p * (16 + 4 * v) ≤ most_pages * (8 * v + 101) = mul-le-mul few (less_a_page v) in
    omega (arith, most, first, then_more)
