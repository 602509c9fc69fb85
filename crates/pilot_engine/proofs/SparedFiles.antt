-- What calls on files say of the labels that they wrote, and which files that spares.
use Rattle.std.proofs.Common.{◌≡◌, ◌⊎◌, inl, inr, ℕ, ◌+◌, ◌<◌, ◌≤◌, true, false, Bool, ◌&&◌, not, List, [], ◌∷◌, Option, Some, None, refl, sym, ◌∙◌, ap, subst, arith}
use Rattle.std.specs.Prelude.{IfSome, IsFalse}
use Rattle.std.proofs.lemmas.Bool.{and_parts, true≢false}
use Rattle.labelled_disk.specs.File.{File, file_at}
use Rattle.labelled_disk.specs.Runs.{creation, growth}
use Rattle.labelled_disk.specs.State.{DiskState}
use Rattle.frame_pool.specs.Frames.{Slots}
use Rattle.label_calls.specs.Own.{RelabelsOwn}
use Rattle.label_calls.specs.declared.page.Mark.{Mark}
use Rattle.session_words.specs.Parts.{Shape, shapes_of, shape_of}
use Rattle.volume_root.specs.declared.root.Root.{Root}
use Rattle.volume_root.specs.RootPage.{root_write}
use Rattle.flat_machine.specs.Machine.{Machine}
use Rattle.file_manager.specs.declared.attributes.Attributes.{Attributes}
use Rattle.file_manager.specs.Answer.{WritesMark}
use Rattle.file_manager.specs.Attributes.{HasLeader, IsAttributesOf, shape_revealed}
use Rattle.file_manager.specs.Creating.{NewMade, NewSome, counted, next_id}
use Rattle.file_manager.specs.Freeing.{MakesFree, MakesSomeFree}
use Rattle.file_manager.specs.Resizing.{Resizes, ResizesSome}
use Rattle.pilot_engine.specs.Sparing.{SparesAll, SparesBut}
use Rattle.pilot_engine.proofs.CallLemmas.{file_revealed}
use Rattle.pilot_engine.proofs.SparedCalls.{IsTemporaryOn, for_creation, for_freeing, for_growth, for_take, spares_own, spares_temporary, spares_with, with_growth, with_take}

-- sectors of the file are freed
pub spares_freed : (named : ℕ) {pages : ℕ} {a b : DiskState} {s t : Slots} → MakesFree pages a s b t → RelabelsOwn named a b → SparesBut named a b
spares_freed named h own = spares_own named (for_freeing named h.sectors) h.makes own

pub spares_some : (named : ℕ) {a b : DiskState} {s t : Slots} → MakesSomeFree a s b t → RelabelsOwn named a b → SparesBut named a b
spares_some named h own = spares_own named (for_freeing named h.sectors) h.makes own

-- where its leader is a temporary one's, no permanent file is touched
pub found_temporary : (disk : DiskState) (named : ℕ) (permanent : Bool) → HasLeader disk named permanent → permanent ≡ false → IsTemporaryOn disk named
found_temporary disk named permanent h is = record {
  sector = h.sector;
  after_root = h.after_root;
  label = h.label;
  there = h.there;
  own = h.own;
  leads = h.leads;
  temporary = h.marked ∙ is;
}

pub spares_gone : (named : ℕ) {pages : ℕ} {a b : DiskState} {s t : Slots} → IsTemporaryOn a named → MakesFree pages a s b t → RelabelsOwn named a b → SparesAll a b
spares_gone named found h own = spares_temporary named found h.makes (spares_freed named h own)

pub spares_going : (named : ℕ) {a b : DiskState} {s t : Slots} → IsTemporaryOn a named → MakesSomeFree a s b t → RelabelsOwn named a b → SparesAll a b
spares_going named found h own = spares_temporary named found h.makes (spares_some named h own)

-- another size
pub spares_resized : (named pages : ℕ) {a b : DiskState} {s t : Slots} → Resizes named pages a s b t → RelabelsOwn named a b → SparesBut named a b
spares_resized named pages (inl grown) own = spares_own named (for_growth named grown.0 grown.1 grown.3.sectors) grown.3.makes own
spares_resized named pages (inr shrunk) own = spares_freed named shrunk.2 own

pub spares_resizing : (named pages : ℕ) {a b : DiskState} {s t : Slots} → ResizesSome named pages a s b t → RelabelsOwn named a b → SparesBut named a b
spares_resizing named pages (inl grew) own = spares_own named (for_take named grew.2.count (growth named grew.0 grew.1 grew.2.sectors) (for_growth named grew.0 grew.1 grew.2.sectors)) grew.2.makes own
spares_resizing named pages (inr freed) own = spares_some named freed own

-- a mark
pub spares_marked : (named : ℕ) (mark : Mark) {a b : DiskState} {s t : Slots} → WritesMark mark a s b t → RelabelsOwn named a b → SparesBut named a b
spares_marked named mark (inl nothing) own = spares_own named tt nothing own
spares_marked named mark (inr made) own = spares_own named tt made.2 own

-- a file is created, or the creation stops
pub spares_made : (root : Root) (kind pages : ℕ) {a b : DiskState} {s t : Slots} → NewMade root kind pages a s b t → SparesBut (next_id root) a b
spares_made root kind pages made = spares_with (next_id root) (inl refl, for_creation (next_id root) kind made.leader made.sectors) (with_growth (next_id root) kind 0 made.sectors) made.makes.wrote

pub spares_making : (root : Root) (kind pages : ℕ) {a b : DiskState} {s t : Slots} → NewSome root kind pages a s b t → SparesBut (next_id root) a b
spares_making root kind pages some =
    let run = root_write (counted root) ∷ creation (next_id root) kind some.leader some.sectors in
    spares_with (next_id root) (for_take (next_id root) some.count run (inl refl, for_creation (next_id root) kind some.leader some.sectors)) (with_take some.count run (with_growth (next_id root) kind 0 some.sectors)) some.makes.wrote

-- ---- A file that no call names.

-- a machine's temporary file is not revealed as permanent
pub temporary_revealed : (m : Machine) (id : ℕ) (a : Attributes) → IsAttributesOf (shapes_of m.files id) (Some a) → IfSome (file_at m.files id) (λ f. IsFalse f.permanent) → a.permanent ≡ true → ⊥
temporary_revealed m id a revealed temporary permanent =
    let f = file_revealed m id a revealed in
    let is : f.0.permanent ≡ false = subst (λ (o : Option File). IfSome o (λ g. IsFalse g.permanent)) f.1 temporary in
    true≢false (sym permanent ∙ sym (ap (λ (s : Shape). s.permanent) f.2) ∙ is)

both_set : (a b : Bool) → (a && b) ≡ true → (a ≡ true) × (b ≡ true)
both_set a b is = and_parts a b is

pub kept_hidden : (m : Machine) (id : ℕ) (a : Attributes) (anonymous : Bool) → IsAttributesOf (shapes_of m.files id) (Some a) → (anonymous ≡ true → IfSome (file_at m.files id) (λ f. IsFalse f.permanent)) → (anonymous && a.permanent) ≡ true → ⊥
kept_hidden m id a anonymous revealed temporary is = let both = both_set anonymous a.permanent is in temporary_revealed m id a revealed (temporary both.0) both.1

-- what is not kept is temporary
pub not_kept : (anonymous permanent : Bool) → anonymous ≡ true → (anonymous && permanent) ≡ false → permanent ≡ false
not_kept anonymous permanent set is = ap (λ (b : Bool). b && permanent) (sym set) ∙ is
