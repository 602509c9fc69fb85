-- A file that is copied, or not.
use Rattle.std.proofs.Common.{◌≡◌, inl, inr, ℕ, ◌+◌, ◌/◌, ◌^◌, Bool, true, false, not, List, Option, Some, None, Ok, Err, refl, sym, ◌∙◌, ap, subst}
use Rattle.std.specs.Prelude.{option_map, nat_lt, ◌==◌, if◌then◌else◌}
use Rattle.std.specs.Option.{option_map_or}
use Rattle.std.proofs.lemmas.Bool.{true≢false}
use Rattle.std.proofs.lemmas.Option.{none-some}
use Rattle.labelled_disk.specs.declared.layout.Layout.{Layout}
use Rattle.labelled_disk.specs.File.{File, file_at, size, total_room}
use Rattle.labelled_disk.specs.Label.{is_file_id}
use Rattle.labelled_disk.specs.Sectors.{Sector}
use Rattle.labelled_disk.proofs.AscendingLemmas.{at_id}
use Rattle.filer_kernel.specs.View.{FitsLayout, View}
use Rattle.session_words.specs.Parts.{Shape, shape_of, shapes_of}
use Rattle.session_words.proofs.SettledLemmas.{shape_at}
use Rattle.file_manager.specs.declared.attributes.Attributes.{Attributes}
use Rattle.file_manager.specs.declared.volume.Volume.{Volume}
use Rattle.file_manager.specs.Attributes.{IsAttributesOf}
use Rattle.pair_machine.specs.declared.call.PairCall.TheVariants.{Copy}
use Rattle.pair_machine.specs.declared.call.PairRefusal.{PairRefusal}
use Rattle.pair_machine.specs.declared.call.PairRefusal.TheVariants as why
use Rattle.pair_machine.specs.declared.call.PairReply.TheVariants as reply
use Rattle.pair_machine.specs.Pair.{Pair, copy_refusal, pair_refusal, with_copy}
use Rattle.volume_pair.specs.Copying.{IsOriginal, KeepsNumbers, RepliesPair, judged, refusal_in}
use Rattle.volume_pair.specs.Pairs.{IsPaired}
use Rattle.volume_pair.specs.Sides.{IsSide, IsWrittenFor}
use Rattle.volume_pair.proofs.ReplyLemmas.{allows_others, allows_refused}
use Rattle.volume_pair.proofs.SideLemmas.{side_books}

-- ---- The original.

-- what is revealed of a file of the list
pub original_is : (fs : List File) (id : ℕ) (a : Attributes) → IsAttributesOf (shapes_of fs id) (Some a) → IsOriginal fs id (judged a)
original_is fs id a is =
    let g = shape_at fs id _ is in
    by a.immutable refl (g.0, g.1, ap (λ (s : Shape). s.immutable) g.2, ap (λ (s : Shape). s.size) g.2, ap (λ (s : Shape). s.kind) g.2)
  where
    by : (b : Bool) → a.immutable ≡ b → (f : File) × (file_at fs id ≡ Some f) × (f.immutable ≡ a.immutable) × (size f ≡ a.pages) × (f.kind ≡ a.kind) → IsOriginal fs id (if b then Ok a else Err why.Mutable)
    by true e g = (g.0, g.1, g.2 ∙ e, g.3, g.4)
    by false e g = inr (g.0, g.1, g.2 ∙ e, refl)

-- no list has a file of an identifier that none may have
pub no_such_file : (v : View) (fs : List File) (x : List Sector) (id : ℕ) → IsSide v fs x → is_file_id id ≡ false → file_at fs id ≡ None
no_such_file v fs x id side not_one = either (file_at fs id) refl
  where
    either : (o : Option File) → file_at fs id ≡ o → file_at fs id ≡ None
    either None e = e
    either (Some f) e =
        let given = (side_books v fs x side).booked.files.given id (shape_of f) (ap (λ (q : Option File). option_map shape_of q) e) in
        absurd (true≢false (sym given ∙ not_one))

-- ---- The reply.

pub judged_refused : (p : Pair) (id : ℕ) (w : PairRefusal) → IsOriginal p.from id (Err w) → pair_refusal p (Copy id) ≡ Some w
judged_refused p id w (inl (none, is)) = ap (λ (o : Option File). option_map_or (copy_refusal p) o (Some why.File)) none ∙ ap (λ (x : PairRefusal). Some x) (sym is)
judged_refused p id w (inr (f, found, mutable, is)) =
    ap (λ (o : Option File). option_map_or (copy_refusal p) o (Some why.File)) found
    ∙ ap (λ (b : Bool). if not b then Some why.Mutable else option_map_or (λ g. Some why.Exists) (file_at p.to f.id) (if f.id / 2 ^ 32 == p.serial then Some why.Serial else (if nat_lt p.capacity (total_room p.to + size f + 1) then Some why.Full else None))) mutable
    ∙ ap (λ (x : PairRefusal). Some x) (sym is)

module _ (p : Pair) (id : ℕ) (a : Attributes) (original : IsOriginal p.from id (Ok a)) where
  abbrev f : File
  f = original.0

  same_id : f.id ≡ id
  same_id = at_id p.from id f original.1

  -- what is asked after the file may be copied
  asked : pair_refusal p (Copy id) ≡ option_map_or (λ g. Some why.Exists) (file_at p.to id) (if id / 2 ^ 32 == p.serial then Some why.Serial else (if nat_lt p.capacity (total_room p.to + a.pages + 1) then Some why.Full else None))
  asked =
      ap (λ (o : Option File). option_map_or (copy_refusal p) o (Some why.File)) original.1
      ∙ ap (λ (b : Bool). if not b then Some why.Mutable else option_map_or (λ g. Some why.Exists) (file_at p.to f.id) (if f.id / 2 ^ 32 == p.serial then Some why.Serial else (if nat_lt p.capacity (total_room p.to + size f + 1) then Some why.Full else None))) original.2
      ∙ (λ i. option_map_or (λ g. Some why.Exists) (file_at p.to (same_id i)) (if same_id i / 2 ^ 32 == p.serial then Some why.Serial else (if nat_lt p.capacity (total_room p.to + original.3 i + 1) then Some why.Full else None)))

  -- the second list and the room decide
  pub room_refused : {from to : View} (volume : Volume) → IsPaired from to volume p → pair_refusal p (Copy id) ≡ refusal_in p.to volume id a.pages
  room_refused volume paired =
      asked
      ∙ (λ i. option_map_or (λ g. Some why.Exists) (file_at p.to id) (if id / 2 ^ 32 == paired.serial i then Some why.Serial else (if nat_lt (sym paired.capacity i) (sym paired.used i + a.pages + 1) then Some why.Full else None)))

-- ---- Both sides, looked at.

pub paired_then : {from to : View} (volume : Volume) (p : Pair) (v w : View) (h : IsPaired from to volume p) → IsSide v p.from h.first → IsSide w p.to h.second → IsPaired v w volume p
paired_then volume p v w h from to = record {
  first = h.first;
  second = h.second;
  from_is = from;
  to_is = to;
  root = h.root;
  serial = h.serial;
  used = h.used;
  capacity = h.capacity;
}

-- a reply that makes no copy
pub replies_refused : (p : Pair) (id : ℕ) (w : PairRefusal) (u v : View) (volume : Volume) → pair_refusal p (Copy id) ≡ Some w → IsPaired u v volume p → RepliesPair p (Copy id) u v volume (reply.Refused w)
replies_refused p id w u v volume is paired = record {
  allowed = allows_refused p (Copy id) w is;
  stands = subst (IsPaired u v volume) (sym (ap (λ (o : Option PairRefusal). option_map_or (λ w. p) o (with_copy p id)) is)) paired;
}

-- and one that does
pub replies_done : (p : Pair) (id : ℕ) (u v : View) (volume : Volume) → pair_refusal p (Copy id) ≡ None → IsPaired u v volume (with_copy p id) → RepliesPair p (Copy id) u v volume reply.Done
replies_done p id u v volume is paired = record {
  allowed = allows_others p (Copy id) reply.Done is refl;
  stands = subst (IsPaired u v volume) (sym (ap (λ (o : Option PairRefusal). option_map_or (λ w. p) o (with_copy p id)) is)) paired;
}

pub exists_not_none : {P : Type 0} → ◌≡◌ {A = Option PairRefusal} (Some why.Exists) None → P
exists_not_none same = absurd (none-some why.Exists (sym same))

pub keeps_numbers : (volume : Volume) → KeepsNumbers volume volume
keeps_numbers volume = record { root = refl; layout = refl }

-- ---- Over any contents.

-- the second disk has the layout's sectors still
pub written_fits : {file : ℕ} {v w : View} → IsWrittenFor file v w → FitsLayout v → FitsLayout w
written_fits h size = h.makes.went.sectors ∙ size ∙ ap (λ (l : Layout). l.sectors) (sym h.layout)
