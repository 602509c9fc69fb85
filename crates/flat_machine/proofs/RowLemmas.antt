-- The worked rows, computed.
use Rattle.std.proofs.Common.{refl}
use Rattle.flat_machine.specs.File.{zero_page, any_page}
use Rattle.flat_machine.specs.Rows.{WorkedRows, StoresAndLoads, EmptyFilesAndFullVolumes, StoresOverTwoPages, StoresNothingInPart, StoresNothingReadOnly, KilledBytes, KillsNothingReadOnly, SpacesInSpaces, WindowsShareFiles, MappedFilesStay, KillsItsRange, EndsOfTheRoot, AnonymousFiles, IdentifiersRunOut, ImmutableFiles, EmptyFilesGrow, WritableWindowsShare, PermanentFilesStay, KilledCells, UnitsCut, SpacesFill, SpacesRunOut}

stores_and_loads : StoresAndLoads
unfolding StoresAndLoads zero_page any_page
stores_and_loads = refl

empty_files_and_full_volumes : EmptyFilesAndFullVolumes
unfolding EmptyFilesAndFullVolumes zero_page any_page
empty_files_and_full_volumes = refl

stores_over_two_pages : StoresOverTwoPages
unfolding StoresOverTwoPages zero_page any_page
stores_over_two_pages = refl

stores_nothing_in_part : StoresNothingInPart
unfolding StoresNothingInPart zero_page any_page
stores_nothing_in_part = refl

stores_nothing_read_only : StoresNothingReadOnly
unfolding StoresNothingReadOnly zero_page any_page
stores_nothing_read_only = refl

killed_bytes : KilledBytes
unfolding KilledBytes zero_page any_page
killed_bytes = refl

kills_nothing_read_only : KillsNothingReadOnly
unfolding KillsNothingReadOnly zero_page any_page
kills_nothing_read_only = refl

spaces_in_spaces : SpacesInSpaces
unfolding SpacesInSpaces zero_page any_page
spaces_in_spaces = refl

windows_share_files : WindowsShareFiles
unfolding WindowsShareFiles zero_page any_page
windows_share_files = refl

mapped_files_stay : MappedFilesStay
unfolding MappedFilesStay zero_page any_page
mapped_files_stay = refl

kills_its_range : KillsItsRange
unfolding KillsItsRange zero_page any_page
kills_its_range = refl

ends_of_the_root : EndsOfTheRoot
unfolding EndsOfTheRoot zero_page any_page
ends_of_the_root = refl

anonymous_files : AnonymousFiles
unfolding AnonymousFiles zero_page any_page
anonymous_files = refl

identifiers_run_out : IdentifiersRunOut
unfolding IdentifiersRunOut zero_page any_page
identifiers_run_out = refl

immutable_files : ImmutableFiles
unfolding ImmutableFiles zero_page any_page
immutable_files = refl

empty_files_grow : EmptyFilesGrow
unfolding EmptyFilesGrow zero_page any_page
empty_files_grow = refl

writable_windows_share : WritableWindowsShare
unfolding WritableWindowsShare zero_page any_page
writable_windows_share = refl

permanent_files_stay : PermanentFilesStay
unfolding PermanentFilesStay zero_page any_page
permanent_files_stay = refl

killed_cells : KilledCells
unfolding KilledCells zero_page any_page
killed_cells = (refl, refl)

units_cut : UnitsCut
unfolding UnitsCut zero_page any_page
units_cut = (refl, refl, refl, refl)

spaces_fill : SpacesFill
unfolding SpacesFill zero_page any_page
spaces_fill = refl

spaces_run_out : SpacesRunOut
unfolding SpacesRunOut zero_page any_page
spaces_run_out = refl

pub worked_rows : WorkedRows
worked_rows = record {
  stores_and_loads = stores_and_loads;
  empty_files_and_full_volumes = empty_files_and_full_volumes;
  stores_over_two_pages = stores_over_two_pages;
  stores_nothing_in_part = stores_nothing_in_part;
  stores_nothing_read_only = stores_nothing_read_only;
  killed_bytes = killed_bytes;
  kills_nothing_read_only = kills_nothing_read_only;
  spaces_in_spaces = spaces_in_spaces;
  windows_share_files = windows_share_files;
  mapped_files_stay = mapped_files_stay;
  kills_its_range = kills_its_range;
  ends_of_the_root = ends_of_the_root;
  anonymous_files = anonymous_files;
  identifiers_run_out = identifiers_run_out;
  immutable_files = immutable_files;
  empty_files_grow = empty_files_grow;
  writable_windows_share = writable_windows_share;
  permanent_files_stay = permanent_files_stay;
  killed_cells = killed_cells;
  units_cut = units_cut;
  spaces_fill = spaces_fill;
  spaces_run_out = spaces_run_out;
}
