-- Files and their cells, as the labels of a disk name them.
pub use Rattle.labelled_disk.specs.File.{Cell, byte, any, Page, File, size, file_at, room_of, total_room}
unfoldable pub use Rattle.labelled_disk.specs.File.{zero_page, any_page}
pub use Rattle.labelled_disk.specs.FilesOn.{put_file}
