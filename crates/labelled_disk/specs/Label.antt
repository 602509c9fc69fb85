-- What the 16 bytes of a label are, and what a label says.
use Rattle.std.specs.Prelude.{ℕ, ◌%◌, ◌^◌, Bool, not, ◌&&◌, ◌==◌, nat_lt, nat_le, List, [], ◌∷◌, ◌++◌, slice_index, slice_range, bit_or}
use Rattle.std.specs.Int.{w16, w32, w64, to_be_bytes, from_be_bytes}
use Rattle.labelled_disk.specs.declared.label.Label.{Label}
use Rattle.labelled_disk.specs.declared.label.Wanted.{Wanted}
use Rattle.labelled_disk.specs.Marks.{has_permanent, has_immutable}

-- bytes 0 to 7 the identifier, 8 to 11 the page, 12 and 13 the type, all big-endian; then the flags and the last byte
abbrev pub label_bytes : Label → List ℕ
label_bytes l = to_be_bytes w64 l.id ++ to_be_bytes w32 l.page ++ to_be_bytes w16 l.kind ++ l.flags ∷ l.last ∷ []

-- the label that these bytes are
abbrev pub label_of : List ℕ → Label
label_of bytes = record {
  id = from_be_bytes w64 (slice_range bytes 0 8);
  page = from_be_bytes w32 (slice_range bytes 8 12);
  kind = from_be_bytes w16 (slice_range bytes 12 14);
  flags = slice_index bytes 14;
  last = slice_index bytes 15;
}

-- no file has the sector
abbrev pub is_free : Label → Bool
is_free l = l.id == 0

-- an identifier that a file may have: the lower ones are reserved, and so is the greatest low half
abbrev pub is_file_id : ℕ → Bool
is_file_id id = nat_le 16 id && not (id % 2 ^ 32 == 4294967295)

-- the label of a file's leader or page has: a file's identifier, no flag but two, and a last byte of 0
abbrev pub is_file : Label → Bool
is_file l = is_file_id l.id && nat_lt l.flags 4 && l.last == 0

-- the label is that of this page of this file
abbrev pub names : Label → Wanted → Bool
names l wanted = l.id == wanted.id && l.page == wanted.page && nat_lt l.flags 4 && l.last == 0

-- the page number of a leader, the sector that stands for its file
abbrev pub leader_page : ℕ
leader_page = 4294967295

-- the label of a permanent file's leader
abbrev pub is_permanent : Label → Bool
is_permanent l = has_permanent l.flags

-- the label of an immutable file's leader
abbrev pub is_immutable : Label → Bool
is_immutable l = has_immutable l.flags

-- the label with the mark of a permanent file, and with that of an immutable one
abbrev pub permanent_label : Label → Label
permanent_label l = record l { flags = bit_or l.flags 1 }

abbrev pub immutable_label : Label → Label
immutable_label l = record l { flags = bit_or l.flags 2 }

-- the label of a page of a file or a map, or with the leader's page number that of a file's leader: temporary and mutable
abbrev pub page_label : ℕ → ℕ → ℕ → Label
page_label id kind page = record { id = id; page = page; kind = kind; flags = 0; last = 0 }

-- the label of the root
abbrev pub root_label : Label
root_label = record { id = 4; page = 0; kind = 0; flags = 0; last = 0 }

-- the page that is looked for in sector 0: the root's
abbrev pub wanted_root : Wanted
wanted_root = record { id = 4; page = 0 }
