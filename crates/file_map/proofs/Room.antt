-- A volume's tree has room for a record for each data sector.
use Rattle.std.proofs.Common.{◌≡◌, ℕ, ◌*◌, ◌/◌, ◌≤◌, arith}
use Rattle.std.proofs.lemmas.Grind.{div_ceil_times}
use Rattle.labelled_disk.specs.Layout.{IsCount, vfm}
use Rattle.page_tree.specs.Put.{capacity_of}
use Rattle.file_map.specs.FileMap.{most_records}

pub most_fits : (n size : ℕ) → IsCount n → size ≡ 512 * vfm n → most_records n ≤ capacity_of 24 (size / 512)
most_fits n size is size_is =
    let pages : size / 512 ≡ vfm n = omega (arith, size_is) in
    let some = (div_ceil_times n 4096 (omega arith)).0 in
    omega (arith, pages, is.0, is.1, some)
