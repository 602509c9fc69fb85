-- What a head says.
use Rattle.std.specs.Prelude.{◌≡◌, ℕ, List}
use Rattle.document_head.specs.declared.head.Head.{Head}

-- that the document has so many bytes, and this name
abbrev pub Says : ℕ → List ℕ → Head → Type 0
Says bytes name head = (head.bytes ≡ bytes) × (head.name.bytes ≡ name)
