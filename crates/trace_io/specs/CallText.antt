-- The line of a call.
use Rattle.std.specs.Prelude.{◌<◌, ◌^◌, ℕ, Bool, List, [], ◌∷◌, ◌++◌, codes, if◌then◌else◌, Some, None, IfSome}
use Rattle.std.specs.List.{join_with_byte, flat_map}
use Rattle.std.specs.Fmt.{decimal}
use Rattle.hex.specs.Hex.{encode_lower, IsBytes}
use Rattle.flat_machine.specs.Form.{IsInForm}
use Rattle.flat_machine.specs.Text.{id_text}
use Rattle.flat_machine.specs.declared.call.Call.{Call}
use Rattle.flat_machine.specs.declared.call.Call.TheVariants as call

-- whether a window is writable
abbrev pub mode_text : Bool → List ℕ
mode_text writable = if writable then codes "rw" else codes "ro"

-- the words of a call
abbrev pub call_words : Call → List (List ℕ)
call_words (call.Create pages kind) = codes "create" ∷ decimal pages ∷ decimal kind ∷ []
call_words (call.Delete id) = codes "delete" ∷ id_text id ∷ []
call_words (call.Attributes id) = codes "attr" ∷ id_text id ∷ []
call_words (call.SetSize id pages) = codes "setsize" ∷ id_text id ∷ decimal pages ∷ []
call_words (call.MakePermanent id) = codes "permanent" ∷ id_text id ∷ []
call_words (call.MakeImmutable id) = codes "immutable" ∷ id_text id ∷ []
call_words (call.Next id) = codes "next" ∷ id_text id ∷ []
call_words call.Volume = codes "volume" ∷ []
call_words (call.MakeSpace parent pages None) = codes "space" ∷ decimal parent ∷ decimal pages ∷ []
call_words (call.MakeSpace parent pages (Some first)) = codes "space" ∷ decimal parent ∷ decimal pages ∷ decimal first ∷ []
call_words (call.RemoveSpace space) = codes "remove" ∷ decimal space ∷ []
call_words (call.Place page) = codes "where" ∷ decimal page ∷ []
call_words (call.Units space pages) = codes "units" ∷ decimal space ∷ decimal pages ∷ []
call_words (call.Map space id page writable) = codes "map" ∷ decimal space ∷ id_text id ∷ decimal page ∷ mode_text writable ∷ []
call_words (call.MapAnonymous space) = codes "mapdata" ∷ decimal space ∷ []
call_words (call.Unmap space) = codes "unmap" ∷ decimal space ∷ []
call_words (call.Protect space writable) = codes "protect" ∷ decimal space ∷ mode_text writable ∷ []
call_words (call.Load address count) = codes "load" ∷ decimal address ∷ decimal count ∷ []
call_words (call.Store address bytes) = codes "store" ∷ decimal address ∷ encode_lower bytes ∷ []
call_words (call.Activate space) = codes "activate" ∷ decimal space ∷ []
call_words (call.Deactivate space) = codes "deactivate" ∷ decimal space ∷ []
call_words (call.Kill space) = codes "kill" ∷ decimal space ∷ []
call_words (call.ForceOut space) = codes "force" ∷ decimal space ∷ []
call_words call.Close = codes "close" ∷ []
call_words call.Halt = codes "halt" ∷ []

-- the words with one space between each two
unfoldable pub call_text : Call → List ℕ
call_text c = join_with_byte 32 (call_words c)

-- the text and its line feed
abbrev pub call_line : Call → List ℕ
call_line c = call_text c ++ 10 ∷ []

-- each field of the call is one of its type
abbrev pub HasFields : Call → Type 0
HasFields (call.Create pages kind) = (pages < 2 ^ 32) × (kind < 2 ^ 16)
HasFields (call.Delete id) = id < 2 ^ 64
HasFields (call.Attributes id) = id < 2 ^ 64
HasFields (call.SetSize id pages) = (id < 2 ^ 64) × (pages < 2 ^ 32)
HasFields (call.MakePermanent id) = id < 2 ^ 64
HasFields (call.MakeImmutable id) = id < 2 ^ 64
HasFields (call.Next id) = id < 2 ^ 64
HasFields (call.MakeSpace parent pages first) = (parent < 2 ^ 32) × (pages < 2 ^ 32) × IfSome first (λ page. page < 2 ^ 32)
HasFields (call.RemoveSpace space) = space < 2 ^ 32
HasFields (call.Place page) = page < 2 ^ 32
HasFields (call.Units space pages) = (space < 2 ^ 32) × (pages < 2 ^ 32)
HasFields (call.Map space id page writable) = (space < 2 ^ 32) × (id < 2 ^ 64) × (page < 2 ^ 32)
HasFields (call.MapAnonymous space) = space < 2 ^ 32
HasFields (call.Unmap space) = space < 2 ^ 32
HasFields (call.Protect space writable) = space < 2 ^ 32
HasFields (call.Load address count) = (address < 2 ^ 32) × (count < 2 ^ 8)
HasFields (call.Store address bytes) = (address < 2 ^ 32) × IsBytes bytes
HasFields (call.Activate space) = space < 2 ^ 32
HasFields (call.Deactivate space) = space < 2 ^ 32
HasFields (call.Kill space) = space < 2 ^ 32
HasFields (call.ForceOut space) = space < 2 ^ 32
HasFields c = Unit {0}

-- a load or a store has 1 to 64 bytes, and each field is one of its type
abbrev pub IsWritable : Call → Type 0
IsWritable c = IsInForm c × HasFields c

-- the lines of some calls
abbrev pub trace_text : List Call → List ℕ
trace_text calls = flat_map call_line calls
