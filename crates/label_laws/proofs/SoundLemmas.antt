-- What makes a volume sound.
use Rattle.std.proofs.Common.{◌≡◌, ◌⊎◌, ℕ, ◌≤◌, ◌<◌, ◌^◌, true, false, List, [], ◌∷◌, length, Some, sym, ◌∙◌, ap, subst, arith}
use Rattle.std.specs.Prelude.{slice_get}
use Rattle.labelled_disk.specs.Label.{is_free, root_label}
use Rattle.labelled_disk.specs.Sectors.{Sector, AreSectors}
use Rattle.labelled_disk.specs.Layout.{data_sectors, first_data}
use Rattle.labelled_disk.specs.Lowest.{is_needed}
use Rattle.labelled_disk.specs.Root.{IsRoot, LabelsRight, number_at, short_at, serial_of, counter_of}
use Rattle.labelled_disk.specs.WriteLaws.{HasData}
use Rattle.labelled_disk.proofs.Finds.{get_set_other}
use Rattle.labelled_disk.proofs.WriteLemmas as writes
use Rattle.labelled_disk.proofs.RootLemmas as laws
use Rattle.volume_root.specs.declared.root.Root.{Root}
use Rattle.volume_root.specs.Flag.{with_flag}
use Rattle.volume_root.specs.RootPage.{IsValidRoot, root_bytes}
use Rattle.volume_root.specs.Sound.{Sound}
use Rattle.volume_root.proofs.FileMapLemmas.{file_map_kept}
use Rattle.volume_root.proofs.FlagLemmas.{flag_keeps_volume}
use Rattle.volume_root.proofs.WrittenLemmas.{is_root, flag_of, flag_read, serial_read, counter_read}
use Rattle.label_laws.specs.SoundParts.{IsSoundButFlag, SoundWhenClosed, SoundByParts, SoundByRoom}
use Rattle.label_laws.proofs.AssemblyLemmas.{right_by_room}
use Rattle.label_laws.proofs.NeededLemmas.{needed_if_files}

module _ (s t : Sector) (rest : List Sector) where
  data_kept : data_sectors (t ∷ rest) ≡ data_sectors (s ∷ rest)
  data_kept = writes.data_past false 0 0 (s ∷ rest) 0 t (writes.first_positive false 0 0 (length (s ∷ rest)))

  -- another sector 0, with which the labels are right and the volume is closed
  sound_with : LabelsRight (t ∷ rest) → short_at t.1 10 ≡ 1 → IsSoundButFlag (s ∷ rest) → Sound (t ∷ rest)
  sound_with right flag parts = record {
    labels = right;
    clean = flag;
    free_or_needed = subst (λ (xs : List Sector). (i : ℕ) (u : Sector) → slice_get xs i ≡ Some u → (is_free u.0 ≡ true) ⊎ (is_needed false xs i ≡ true)) (sym data_kept) parts.free_or_needed;
    bits = record { low = parts.bits.low; by_label = λ i u there. parts.bits.by_label i u (record { is_data = there.is_data; here = here i u there }); past = parts.bits.past };
    file_map = file_map_kept s t rest parts.file_map;
  }
    where
      here : (i : ℕ) (u : Sector) → HasData (t ∷ rest) i u → slice_get (s ∷ rest) i ≡ Some u
      here i u there =
          let first = writes.first_positive false 0 0 (length (s ∷ rest)) in
          let after : first_data (length (s ∷ rest)) ≤ i = there.is_data in
          sym (get_set_other (s ∷ rest) 0 i t (λ e. omega (arith, e, first, after))) ∙ there.here

  by_sector : IsSoundButFlag (s ∷ rest) → IsRoot (length (s ∷ rest)) (Some t) → number_at t.1 16 ≡ serial_of (s ∷ rest) → counter_of (s ∷ rest) ≤ number_at t.1 20 → short_at t.1 10 ≡ 1
      → Sound (t ∷ rest)
  by_sector parts valid serial counter flag = sound_with (laws.root_written false (s ∷ rest) t parts.labels valid serial counter).right flag parts

by_root : (s : Sector) (rest : List Sector) → IsSoundButFlag (s ∷ rest) → (root : Root) → IsValidRoot (length (s ∷ rest)) root → root.clean ≡ true → root.serial ≡ serial_of (s ∷ rest)
    → counter_of (s ∷ rest) ≤ root.counter → root.serial < 2 ^ 32 → root.counter < 2 ^ 32 → Sound ((root_label, root_bytes root) ∷ rest)
by_root s rest parts root valid clean serial counter few_serials few_counters =
    let c : number_at (root_bytes root) 20 ≡ root.counter = counter_read root few_counters in
    by_sector s (root_label, root_bytes root) rest parts (is_root (length (s ∷ rest)) root valid few_serials few_counters) (serial_read root few_serials ∙ serial) (omega (arith, c, counter))
    (flag_read root ∙ ap flag_of clean)

by_flag : (s : Sector) (rest : List Sector) → IsSoundButFlag (s ∷ rest) → AreSectors (s ∷ rest) → Sound (with_flag true (s ∷ rest))
by_flag s rest parts are =
    let flags = flag_keeps_volume (s ∷ rest) are parts.labels.has_root in
    sound_with s _ rest (flags.right true parts.labels) (flags.flag true) parts

pub sound_when_closed : SoundWhenClosed
sound_when_closed [] parts = absurd (let some = parts.labels.has_root.accepted.0 in omega (arith, some))
sound_when_closed (s ∷ rest) parts = record {
  by_sector = λ t. by_sector s t rest parts;
  by_root = by_root s rest parts;
  by_flag = by_flag s rest parts;
}

pub sound_by_parts : SoundByParts
sound_by_parts d = (
  λ sound. (record { labels = sound.labels; free_or_needed = sound.free_or_needed; bits = sound.bits; file_map = sound.file_map }, sound.clean),
  λ parts. record { labels = parts.0.labels; clean = parts.1; free_or_needed = parts.0.free_or_needed; bits = parts.0.bits; file_map = parts.0.file_map },
)

pub sound_by_room : SoundByRoom
sound_by_room d parts =
    let right = right_by_room false d
    (record { has_root = parts.has_root; has_maps = parts.has_maps; needed = needed_if_files false d parts.free_or_needed; ids_given = parts.ids_given }) in (
      λ sound. right.0 sound.labels,
      λ room. record { labels = right.1 room; clean = parts.clean; free_or_needed = parts.free_or_needed; bits = parts.bits; file_map = parts.file_map },
    )
