-- The marks of a file, as its leader's flags.
use Rattle.std.specs.Prelude.{ℕ, ◌+◌, ◌%◌, ◌/◌, ◌==◌, Bool, if◌then◌else◌}
use Rattle.labelled_disk.specs.declared.marks.Marks.{Marks}

-- bit 0: the file is permanent
abbrev pub has_permanent : ℕ → Bool
has_permanent flags = flags % 2 == 1

-- bit 1: the file is immutable
abbrev pub has_immutable : ℕ → Bool
has_immutable flags = flags / 2 % 2 == 1

-- what the two bits say, whatever the others are
abbrev pub marks_of : ℕ → Marks
marks_of flags = record { permanent = has_permanent flags; immutable = has_immutable flags }

-- the flags with these bits alone
abbrev pub flags_of : Marks → ℕ
flags_of m = (if m.permanent then 1 else 0) + (if m.immutable then 2 else 0)
