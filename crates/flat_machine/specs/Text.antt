-- The lines of replies.
use Rattle.std.specs.Prelude.{ℕ, List, [], ◌∷◌, ◌++◌, codes, if◌then◌else◌}
use Rattle.std.specs.Fmt.{decimal}
use Rattle.std.specs.Int.{to_be_bytes, w64}
use Rattle.hex.specs.Hex.{encode_lower}
use Rattle.flat_machine.specs.declared.call.Reply.{Reply}
use Rattle.flat_machine.specs.declared.call.Reply.TheVariants as reply
use Rattle.flat_machine.specs.declared.call.Refusal.{Refusal}
use Rattle.flat_machine.specs.declared.call.Refusal.TheVariants as refusal

-- an identifier as 16 digits
abbrev pub id_text : ℕ → List ℕ
id_text id = encode_lower (to_be_bytes w64 id)

-- why a call was refused
abbrev pub refusal_text : Refusal → List ℕ
refusal_text refusal.Syntax = codes "syntax"
refusal_text refusal.Space = codes "space"
refusal_text refusal.File = codes "file"
refusal_text refusal.Size = codes "size"
refusal_text refusal.Full = codes "full"
refusal_text refusal.Spaces = codes "spaces"
refusal_text refusal.Gap = codes "gap"
refusal_text refusal.Range = codes "range"
refusal_text refusal.Children = codes "children"
refusal_text (refusal.Mapped handle) = codes "mapped " ++ decimal handle
refusal_text refusal.Window = codes "window"
refusal_text refusal.Immutable = codes "immutable"
refusal_text refusal.NotMapped = codes "notmapped"
refusal_text (refusal.NoMap page) = codes "nomap " ++ decimal page
refusal_text (refusal.ReadOnly page) = codes "readonly " ++ decimal page
refusal_text (refusal.FileMapped handle) = codes "filemapped " ++ decimal handle
refusal_text refusal.Root = codes "root"
refusal_text refusal.Ids = codes "ids"

-- the words of a reply
abbrev pub reply_text : Reply → List ℕ
reply_text reply.Done = codes "ok"
reply_text (reply.File id) = codes "file " ++ id_text id
reply_text reply.Nothing = codes "none"
reply_text (reply.Attributes pages kind permanent immutable) =
    codes "attr " ++ decimal pages ++ codes " " ++ decimal kind ++ (if permanent then codes " perm" else codes " temp") ++ (if immutable then codes " immutable" else codes " mutable")
reply_text (reply.Volume capacity free) = codes "volume " ++ decimal capacity ++ codes " " ++ decimal free
reply_text (reply.Space handle first) = codes "space " ++ decimal handle ++ codes " " ++ decimal first
reply_text (reply.Place handle first pages) = codes "where " ++ decimal handle ++ codes " " ++ decimal first ++ codes " " ++ decimal pages
reply_text (reply.Bytes bytes) = codes "bytes " ++ encode_lower bytes
reply_text (reply.Refused why) = codes "error " ++ refusal_text why

-- the line of a reply
unfoldable pub text : Reply → List ℕ
text r = reply_text r ++ 10 ∷ []
