-- More worked rows, computed.
use Rattle.std.proofs.Common.{◌≡◌, refl, arith}
use Rattle.std.proofs.lemmas.Option.{same_Some, none-some}
use Rattle.flat_machine.specs.File.{zero_page, any_page}
use Rattle.flat_machine.specs.MoreRows.{MoreRows, Unforced, BlocksOfTheSpace, Marks, NextFiles, LastSector, Orders, LastIdentifier, SizeBeforeSpaces, FirstReadOnly, UnitSizes, NewPagesAreZero, AgreeingFiles, KillsInTheRoot, CloseLeaves, StopLeaves}

marks : Marks
unfolding Marks zero_page any_page
marks = refl

next_files : NextFiles
unfolding NextFiles zero_page any_page
next_files = refl

last_sector : LastSector
unfolding LastSector zero_page any_page
last_sector = refl

orders : Orders
unfolding Orders zero_page any_page
orders = refl

last_identifier : LastIdentifier
unfolding LastIdentifier zero_page any_page
last_identifier = refl

size_before_spaces : SizeBeforeSpaces
unfolding SizeBeforeSpaces zero_page any_page
size_before_spaces = refl

first_read_only : FirstReadOnly
unfolding FirstReadOnly zero_page any_page
first_read_only = refl

unit_sizes : UnitSizes
unfolding UnitSizes zero_page any_page
unit_sizes = refl

new_pages_are_zero : NewPagesAreZero
unfolding NewPagesAreZero zero_page any_page
new_pages_are_zero = refl

kills_in_the_root : KillsInTheRoot
unfolding KillsInTheRoot zero_page any_page
kills_in_the_root = refl

close_leaves : CloseLeaves
unfolding CloseLeaves zero_page any_page
close_leaves = refl

stop_leaves : StopLeaves
unfolding StopLeaves zero_page any_page
stop_leaves = refl

unforced : Unforced
unfolding zero_page any_page
unforced = record {
  store_both = refl;
  store_again = refl;
  force_read_only = refl;
  force_part = refl;
  force_all = refl;
  protect_writable = refl;
  protect_read_only = refl;
  unmap_shared = refl;
  unmap_part = refl;
  kill = refl;
  advice = refl;
}

blocks_of_the_space : BlocksOfTheSpace
unfolding BlocksOfTheSpace
blocks_of_the_space = (refl, refl, refl)

agrees : AgreeingFiles
agrees = record {
  same_byte = (record { same_id = refl; same_kind = refl; same_immutable = refl; pages_agree = ((refl, tt), tt) }, tt);
  any_after = (record { same_id = refl; same_kind = refl; same_immutable = refl; pages_agree = ((tt, tt), tt) }, tt);
  other_byte = λ a. let e : 65 ≡ 66 = same_Some 65 66 a.0.pages_agree.0.0 in absurd (omega arith);
  byte_after = λ a. none-some 65 a.0.pages_agree.0.0;
  no_file = λ a. a;
}

pub more_rows : MoreRows
more_rows = record {
  marks = marks;
  next_files = next_files;
  last_sector = last_sector;
  orders = orders;
  last_identifier = last_identifier;
  size_before_spaces = size_before_spaces;
  first_read_only = first_read_only;
  unit_sizes = unit_sizes;
  new_pages_are_zero = new_pages_are_zero;
  kills_in_the_root = kills_in_the_root;
  close_leaves = close_leaves;
  stop_leaves = stop_leaves;
  unforced = unforced;
  blocks_of_the_space = blocks_of_the_space;
  agreeing_files = agrees;
}
