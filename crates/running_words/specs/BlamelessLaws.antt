-- Where the space tables are seen, a call that keeps to an initial state whose bytes of theirs are revealed leaves them so, and reveals none of
-- their pages as broken.
use Rattle.std.proofs.Common.{inl, inr, ℕ, List, sym}
use Rattle.std.proofs.lemmas.Option.{none-some}
use Rattle.labelled_disk.specs.declared.evidence.Evidence.TheVariants.{Mismatch, Malformed, Missing}
use Rattle.labelled_disk.specs.StructureLaws.{map_or_tables}
use Rattle.labelled_disk.specs.declared.evidence.Halt.{Halt}
use Rattle.labelled_disk.specs.declared.evidence.Halt.TheVariants.{Disk, Damaged}
use Rattle.labelled_disk.specs.declared.layout.Layout.{Layout}
use Rattle.labelled_disk.specs.State.{DiskState}
use Rattle.flat_machine.specs.declared.space.Space.{Space}
use Rattle.swap_units.specs.declared.interval.Interval.{Interval}
use Rattle.file_map.specs.FileMap.{Triples}
use Rattle.swapper_kernel.specs.Homes.{IsLayout}
use Rattle.file_manager.specs.Reasons.{InitialState, KeepsTo, ShowsReason, telling}
use Rattle.file_manager.specs.RevealedLaws.{keeps_telling, tables_of}
use Rattle.fault_core.specs.Lack.{Sees}
use Rattle.fault_core.specs.NeverBlames.{NeverBlamesTables}
use Rattle.filer_kernel.specs.View.{View, TablesAre, kept_by}
use Rattle.running_words.specs.Moving.{ViewKeepsTo}
use Rattle.running_words.specs.Blameless.{NeverBlamesForm}

-- what is none of their pages broken or missing is none broken
pub never_blames_form : (e : Halt) → NeverBlamesTables e → NeverBlamesForm e
never_blames_form Disk is = tt
never_blames_form (Damaged (Mismatch sector wanted found)) is = tt
never_blames_form (Damaged (Malformed structure page)) is = is
never_blames_form (Damaged (Missing id page)) is = tt

-- so it is where a reason was shown whatever bytes they have
pub revealed_form : (o : InitialState) (b : List ℕ) (layout : Layout) (disk : DiskState) (e : Halt) → ShowsReason (telling o b) layout disk e → NeverBlamesForm e
revealed_form o b layout disk Disk is = tt
revealed_form o b layout disk (Damaged (Mismatch sector wanted found)) is = tt
revealed_form o b layout disk (Damaged (Malformed structure page)) (inl (second, first, full)) = λ third. map_or_tables structure second third
revealed_form o b layout disk (Damaged (Malformed structure page)) (inr (third, none)) = absurd (none-some b (sym none))
revealed_form o b layout disk (Damaged (Missing id page)) is = tt

-- ---- Calls that keep to an initial state, whatever bytes it reveals of the tables.

-- how a call keeps to the initial state with each bytes of the tables
abbrev pub KeepsTelling : InitialState → View → Triples → View → Triples → Type 0
KeepsTelling o v named w later = (b : List ℕ) → KeepsTo (telling o b) v.layout (kept_by v) v.disk v.slots named → KeepsTo (telling o b) w.layout (kept_by w) w.disk w.slots later

-- how it shows a reason in each of these
abbrev pub ShowsTelling : InitialState → View → Triples → Layout → DiskState → Halt → Type 0
ShowsTelling o v named layout disk e = (b : List ℕ) → KeepsTo (telling o b) v.layout (kept_by v) v.disk v.slots named → ShowsReason (telling o b) layout disk e

module _ (o : InitialState) (v : View) (named : Triples) (is : IsLayout v.layout) (keeps : ViewKeepsTo o v named) where
  -- the tables have the bytes that they had
  pub tables_kept : (w : View) (later : Triples) → KeepsTelling o v named w later → (b : List ℕ) → TablesAre v b → TablesAre w b
  tables_kept w later call b revealed = tables_of o b revealed.count (call b (keeps_telling is v.runs b revealed keeps.0))

  -- they are seen as they were
  pub sees_kept : (w : View) (later : Triples) → KeepsTelling o v named w later → (kept : List Interval) (count : ℕ) (ss : List Space) → Sees v kept count ss → Sees w kept count ss
  sees_kept w later call kept count ss sees = record { bytes = sees.bytes; revealed = tables_kept w later call sees.bytes sees.revealed; tables = sees.tables; cached = sees.cached }

  -- none of their pages is reported as broken
  pub form_kept : {kept : List Interval} {count : ℕ} {ss : List Space} (layout : Layout) (disk : DiskState) (e : Halt) → Sees v kept count ss → ShowsTelling o v named layout disk e → NeverBlamesForm e
  form_kept layout disk e sees call = revealed_form o sees.bytes layout disk e (call sees.bytes (keeps_telling is v.runs sees.bytes sees.revealed keeps.0))
