-- Which replies the machine allows.
use Rattle.std.specs.Prelude.{ℕ, ◌&&◌, ◌≡◌, ◌-◌, ◌<◌, nat_lt, List, map, find, Option, option_map, unwrap_or, MatchOption, is_some}
use Rattle.std.specs.List.{AllZip}
use Rattle.std.specs.Option.{option_map_or}
use Rattle.flat_machine.specs.declared.call.Call.{Call}
use Rattle.flat_machine.specs.declared.call.Call.TheVariants.{Create, Delete, Attributes, SetSize, MakePermanent, MakeImmutable, Next, Volume, MakeSpace, RemoveSpace, Place, Units, Map, MapAnonymous, Unmap, Protect, Load, Store, Activate, Deactivate, Kill, ForceOut, Close, Halt}
use Rattle.flat_machine.specs.declared.call.Reply.{Reply}
use Rattle.flat_machine.specs.declared.call.Reply.TheVariants as reply
use Rattle.flat_machine.specs.File.{File, Cell, size}
use Rattle.flat_machine.specs.Space.{Space, innermost}
use Rattle.flat_machine.specs.Machine.{Machine, used, nameable}
use Rattle.flat_machine.specs.At.{cells_at}
use Rattle.flat_machine.specs.Refusal.{refusal}
use Rattle.flat_machine.specs.Next.{new_id, new_space}

-- as many bytes as cells, and each is its cell's, or any byte where the cell is any
abbrev pub AgreesWithCells : List Cell → List ℕ → Type 0
AgreesWithCells cells bytes = AllZip (λ cell b. MatchOption cell (b < 256) (λ c. b ≡ c)) cells bytes

-- what a client learns of a file
abbrev pub attributes_of : File → Reply
attributes_of f = reply.Attributes (size f) f.kind f.permanent f.immutable

-- what a client learns of a new space
abbrev pub space_reply : Space → Reply
space_reply s = reply.Space s.handle s.first

-- what a client learns of the innermost space at a page
abbrev pub place_reply : Space → Reply
place_reply s = reply.Place s.handle s.first s.pages

-- the least nameable identifier above
abbrev pub next_file : Machine → ℕ → Option ℕ
next_file m id = option_map (λ f. f.id) (find (λ f. nat_lt id f.id && is_some (nameable m f.id)) m.files)

-- the bytes of a load, with 0 for any
abbrev pub plain_bytes : Machine → ℕ → ℕ → List ℕ
plain_bytes m address count = map (λ cell. unwrap_or cell 0) (cells_at m address count)

-- the one reply to an unrefused call, or to a load the one with 0 for any
abbrev pub plain_reply : Machine → Call → Reply
plain_reply m (Create pages kind) = reply.File (new_id m)
plain_reply m (Delete id) = reply.Done
plain_reply m (Attributes id) = option_map_or attributes_of (nameable m id) reply.Nothing
plain_reply m (SetSize id pages) = reply.Done
plain_reply m (MakePermanent id) = reply.Done
plain_reply m (MakeImmutable id) = reply.Done
plain_reply m (Next id) = option_map_or reply.File (next_file m id) reply.Nothing
plain_reply m Volume = reply.Volume m.capacity (m.capacity - used m)
plain_reply m (MakeSpace parent pages first) = space_reply (new_space m.spaces parent pages first)
plain_reply m (RemoveSpace space) = reply.Done
plain_reply m (Place page) = option_map_or place_reply (innermost m.spaces page) reply.Nothing
plain_reply m (Units space pages) = reply.Done
plain_reply m (Map space id page writable) = reply.Done
plain_reply m (MapAnonymous space) = reply.Done
plain_reply m (Unmap space) = reply.Done
plain_reply m (Protect space writable) = reply.Done
plain_reply m (Load address count) = reply.Bytes (plain_bytes m address count)
plain_reply m (Store address bytes) = reply.Done
plain_reply m (Activate space) = reply.Done
plain_reply m (Deactivate space) = reply.Done
plain_reply m (Kill space) = reply.Done
plain_reply m (ForceOut space) = reply.Done
plain_reply m Close = reply.Done
plain_reply m Halt = reply.Done

-- the reply is one to an unrefused call: to a load any bytes that agree with the cells
abbrev pub Answers : Machine → Call → Reply → Type 0
Answers m (Load address count) r = (bytes : List ℕ) × (r ≡ reply.Bytes bytes) × AgreesWithCells (cells_at m address count) bytes
Answers m call r = r ≡ plain_reply m call

-- the refusal where there is one, else a reply to an unrefused call
abbrev pub Allows : Machine → Call → Reply → Type 0
Allows m call r = MatchOption (refusal m call) (Answers m call r) (λ word. r ≡ reply.Refused word)

-- the allowed reply that has 0 for any
abbrev pub reply_of : Machine → Call → Reply
reply_of m call = option_map_or reply.Refused (refusal m call) (plain_reply m call)
