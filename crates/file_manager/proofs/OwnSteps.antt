-- Labels that are written over those of one file alone: what the calls on maps, labels and files say of it, and what follows.
use Rattle.std.proofs.Common.{◌≡◌, ◌⊎◌, inl, inr, ℕ, [], subst}
use Rattle.labelled_disk.specs.declared.disk.DiskWrite.TheVariants as write
use Rattle.labelled_disk.specs.declared.label.Label.{Label}
use Rattle.labelled_disk.specs.declared.layout.Layout.{Layout}
use Rattle.labelled_disk.specs.Runs.{growth}
use Rattle.labelled_disk.specs.State.{DiskState, HasLabel}
use Rattle.frame_pool.specs.Frames.{Slots}
use Rattle.label_calls.specs.declared.page.Mark.{Mark}
use Rattle.label_calls.specs.Labels.{MayHaveWritten, with_mark}
use Rattle.label_calls.specs.Own.{RelabelsOwn}
use Rattle.label_calls.specs.OwnLaws.{WroteOwn, relabels_own, wrote_own, own_then, quiet_own, whole_own, may_own, first_whole, growth_whole}
use Rattle.swapper_kernel.specs.declared.manager.Manager.{Manager}
use Rattle.swapper_kernel.specs.Goes.{Makes, no_page}
use Rattle.swapper_kernel.specs.Window.{Beside}
use Rattle.file_manager.specs.Answer.{WritesMark}
use Rattle.file_manager.specs.Freeing.{MakesFree, MakesSomeFree}
use Rattle.file_manager.specs.Making.{MakesAll, MakesSome}
use Rattle.file_manager.specs.Resizing.{Resizes, ResizesSome}

-- a call on a map
pub map_own : (id : ℕ) {which : Manager} {layout later : Layout} {a b : DiskState} {s t : Slots} → Beside which a s layout b t later → WroteOwn id a b
map_own id beside = quiet_own id beside.goes.makes

-- a growth, and one that stopped
pub grown_own : (other : ℕ) {id kind from pages : ℕ} {a b : DiskState} {s t : Slots} → MakesAll id kind from pages a s b t → WroteOwn other a b
grown_own other {id = id} {kind = kind} {from = from} h = whole_own other (growth_whole id kind from h.sectors) h.makes

pub grew_own : (other : ℕ) {id kind from most : ℕ} {a b : DiskState} {s t : Slots} → MakesSome id kind from most a s b t → WroteOwn other a b
grew_own other {id = id} {kind = kind} {from = from} h = whole_own other (first_whole h.count (growth id kind from h.sectors) (growth_whole id kind from h.sectors)) h.makes

-- sectors of this file that were freed
pub freed_own : {id pages : ℕ} {a b : DiskState} {s t : Slots} → MakesFree pages a s b t → RelabelsOwn id a b → WroteOwn id a b
freed_own h own = wrote_own h.makes own

pub some_own : {id : ℕ} {a b : DiskState} {s t : Slots} → MakesSomeFree a s b t → RelabelsOwn id a b → WroteOwn id a b
some_own h own = wrote_own h.makes own

-- a leader of this file that got a mark
pub marked_own : {id : ℕ} (mark : Mark) {a b : DiskState} {s t : Slots} → WritesMark mark a s b t → RelabelsOwn id a b → WroteOwn id a b
marked_own mark (inl nothing) own = wrote_own nothing own
marked_own mark (inr made) own = wrote_own made.2 own

-- a leader of this file whose label may have got a mark
pub leader_own : {id sector : ℕ} (mark : Mark) {a b : DiskState} {s t : Slots} → Makes no_page [] a s b t ⊎ ((label : Label) × HasLabel a sector label × MayHaveWritten (write.LabelOnly sector (with_mark mark label)) a s b) → RelabelsOwn id a b → WroteOwn id a b
leader_own mark (inl nothing) own = wrote_own nothing own
leader_own mark (inr may) own = may_own may.2 own

-- another size of this file
pub resized_own : {id of pages : ℕ} {a b : DiskState} {s t : Slots} → Resizes of pages a s b t → RelabelsOwn id a b → WroteOwn id a b
resized_own (inl grown) own = wrote_own grown.3.makes own
resized_own (inr shrunk) own = wrote_own shrunk.2.makes own

pub resizing_own : {id of : ℕ} (pages : ℕ) {a b : DiskState} {s t : Slots} → ResizesSome of pages a s b t → RelabelsOwn id a b → WroteOwn id a b
resizing_own pages (inl grew) own = wrote_own grew.2.makes own
resizing_own pages (inr freed) own = wrote_own freed.makes own

-- a call before others
pub own_after : {id : ℕ} {a b c : DiskState} → WroteOwn id a b → WroteOwn id b c → RelabelsOwn id a c
own_after first next = relabels_own (own_then first next)

-- of a run of this file
pub same_id : {of id : ℕ} {a b : DiskState} → of ≡ id → RelabelsOwn of a b → RelabelsOwn id a b
same_id {a = a} {b = b} same own = subst (λ (k : ℕ). RelabelsOwn k a b) same own
