-- The volume with three files is sound.
use Rattle.volume_root.specs.ThreeFiles.{ThreeFilesAreSound}
use Rattle.volume_root.proofs.ThreeFilesBits.{has_bits}
use Rattle.volume_root.proofs.ThreeFilesLabels as of
use Rattle.volume_root.proofs.ThreeFilesTriples.{size, file_map}

pub three_files_sound : ThreeFilesAreSound
three_files_sound = record {
  sectors = of.sectors;
  count = size;
  has_files = of.has_files;
  sound = record { labels = of.labels; clean = of.is_clean; free_or_needed = of.free_or_needed; bits = has_bits; file_map = file_map };
}
