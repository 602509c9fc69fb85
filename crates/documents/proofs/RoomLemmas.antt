-- A call is refused as full only where the volume has no room.
use Rattle.std.proofs.Common.{◌≡◌, ◌≢◌, ◌∙◌, ◌⊎◌, inl, inr, ℕ, ◌+◌, ◌-◌, ◌*◌, ◌<◌, ◌≤◌, ◌^◌, Bool, true, false, ◌&&◌, arith, ap, refl, sym, subst, List, [], ◌∷◌, ◌++◌, length, length-append, Option, Some, None, Result, Ok, Err, IfErr}
use Rattle.std.specs.Prelude.{MatchOption, nat_lt, is_none, option_map, option_and_then, if◌then◌else◌, take, slice_range, MatchResult}
use Rattle.std.specs.Bool.{then_some}
use Rattle.std.specs.Int.{div_ceil}
use Rattle.std.specs.List.{AllByRecursion}
use Rattle.std.proofs.lemmas.Bool.Decides.{nat_tests}
use Rattle.std.proofs.lemmas.Option.{none-some, same_Some}
use Rattle.labelled_disk.specs.declared.disk.Disk.{Ghosts}
use Rattle.labelled_disk.specs.declared.evidence.Halt.{Halt}
use Rattle.document_head.specs.Head.{pages_of}
use Rattle.flat_machine.specs.declared.call.Call.{Call}
use Rattle.flat_machine.specs.declared.call.Call.TheVariants as call
use Rattle.flat_machine.specs.declared.call.Refusal.{Refusal}
use Rattle.flat_machine.specs.declared.call.Refusal.TheVariants as why
use Rattle.flat_machine.specs.declared.call.Reply.{Reply}
use Rattle.flat_machine.specs.declared.call.Reply.TheVariants as reply
use Rattle.flat_machine.specs.Allows.{Answers}
use Rattle.flat_machine.specs.declared.space.Space.{Space}
use Rattle.flat_machine.specs.File.{File, file_at, size}
use Rattle.flat_machine.specs.Space.{is_mapped, overlap, space_at}
use Rattle.flat_machine.specs.Machine.{Machine, used}
use Rattle.flat_machine.specs.IsMachine.{IsMachine}
use Rattle.flat_machine.specs.Next.{new_id, next}
use Rattle.flat_machine.specs.Refusal.{Test, first_of, refusal, no_room, no_ids, no_file, is_immutable, cut_while_mapped, no_room_as, no_space, no_size, no_spaces, no_place, is_root, lowest_gap, lowest_handle, of_file, path_mapped, past_end, no_map, read_only, file_mapped}
use Rattle.flat_machine.proofs.FileLemmas.{room_put}
use Rattle.embedded.specs.declared.code.Code.{Code}
use Rattle.embedded.specs.declared.code.Code.TheVariants as code
use Rattle.embedded.specs.declared.engine.Engine.{Engine}
use Rattle.embedded.specs.declared.held.Held.{Held}
use Rattle.embedded.specs.declared.held.Held.TheVariants as held
use Rattle.embedded.specs.Answers.{answer_to}
use Rattle.embedded.specs.Called.{Called, Follows}
use Rattle.embedded.specs.Engine.{IsIn, StandsFor}
use Rattle.embedded.specs.References.{Stored, StopsAfter}
use Rattle.documents.specs.declared.fault.Fault.{Fault}
use Rattle.documents.specs.declared.fault.Fault.TheVariants as fault
use Rattle.documents.specs.Pieces.{adding, after_store}
use Rattle.documents.specs.Room.{MissesRoom, is_full}
use Rattle.documents.specs.Stands.{IsFresh, is_failure}
use Rattle.documents.specs.Windows.{IsHidden, IsShown, place, showing}
use Rattle.documents.proofs.AddingLemmas.{at_adding}
use Rattle.documents.proofs.CallLemmas.{IsPlain, carried}
use Rattle.documents.proofs.FillLemmas.{pages_so_far}
use Rattle.documents.proofs.MoveLemmas.{pages_are, pages_fill}
use Rattle.documents.proofs.StoredLemmas.{store_hides}
use Rattle.documents.proofs.WindowLemmas.{is_made}

-- Tests with another word.

then_other : (b : Bool) (w : Refusal) → w ≢ why.Full → then_some b w ≢ Some why.Full
then_other true w other is = other (same_Some w why.Full is)
then_other false w other is = none-some why.Full is

of_other : {X : Type 0} (test : X → Test) (o : Option X) → ((x : X) → test x ≢ Some why.Full) → option_and_then test o ≢ Some why.Full
of_other test None other is = none-some why.Full is
of_other test (Some x) other is = other x is

word_other : {X : Type 0} (word : X → Refusal) (o : Option X) → ((x : X) → word x ≢ why.Full) → option_map word o ≢ Some why.Full
word_other word None other is = none-some why.Full is
word_other word (Some x) other is = other x (same_Some (word x) why.Full is)

if_other : (b : Bool) (t : Test) → t ≢ Some why.Full → (if b then t else None) ≢ Some why.Full
if_other true t other is = other is
if_other false t other is = none-some why.Full is

first_other : (ts : List Test) → AllByRecursion (λ t. t ≢ Some why.Full) ts → first_of ts ≢ Some why.Full
first_other [] others is = none-some why.Full is
first_other (Some w ∷ ts) others is = others.0 is
first_other (None ∷ ts) others is = first_other ts others.1 is

no_file_other : (m : Machine) (id : ℕ) → no_file m id ≢ Some why.Full
no_file_other m id = then_other _ why.File (λ e. cc e)

immutable_other : (m : Machine) (id : ℕ) → is_immutable m id ≢ Some why.Full
immutable_other m id = of_other (λ f. then_some f.immutable why.Immutable) (file_at m.files id) (λ f. then_other f.immutable why.Immutable (λ e. cc e))

shown_other : (m : Machine) (id pages : ℕ) → cut_while_mapped m id pages ≢ Some why.Full
shown_other m id pages = of_other (λ f. if nat_lt pages (size f) then file_mapped m id (λ w. true) else None) (file_at m.files id)
    (λ f. if_other (nat_lt pages (size f)) (file_mapped m id (λ w. true)) (word_other why.FileMapped _ (λ h e. cc e)))

-- No such call is refused as full.

pub space_other : (m : Machine) (pages : ℕ) → refusal m (call.MakeSpace 0 pages None) ≢ Some why.Full
space_other m pages = first_other (no_space m.spaces 0 ∷ no_size pages ∷ no_spaces m.spaces ∷ no_place m.spaces 0 pages None ∷ []) (
  then_other _ why.Space (λ e. cc e),
  (then_other _ why.Size (λ e. cc e), (then_other _ why.Spaces (λ e. cc e), (of_other (λ (p : Space). then_some (is_none (lowest_gap m.spaces p pages)) why.Gap) (space_at m.spaces 0) (λ p. then_other (is_none (lowest_gap m.spaces p pages)) why.Gap (λ e. cc e)), tt))),
)

pub map_other : (m : Machine) (space id page : ℕ) (writable : Bool) → refusal m (call.Map space id page writable) ≢ Some why.Full
map_other m space id page writable = first_other (no_space m.spaces space ∷ is_root space ∷ no_file m id ∷ path_mapped m.spaces space ∷ past_end m space id page ∷ (if writable then is_immutable m id else None) ∷ []) (
  then_other _ why.Space (λ e. cc e),
  (
    then_other _ why.Root (λ e. cc e),
    (
      no_file_other m id,
      (
        of_other (λ (s : Space). option_map why.Mapped (lowest_handle (λ t. is_mapped t && overlap s t) m.spaces)) (space_at m.spaces space)
            (λ s. word_other why.Mapped (lowest_handle (λ t. is_mapped t && overlap s t) m.spaces) (λ h e. cc e)),
        (
          of_other (λ (s : Space). of_file m id (λ f. then_some (nat_lt (size f) (page + s.pages)) why.Window)) (space_at m.spaces space)
              (λ s. of_other (λ (f : File). then_some (nat_lt (size f) (page + s.pages)) why.Window) (file_at m.files id) (λ f. then_other (nat_lt (size f) (page + s.pages)) why.Window (λ e. cc e))),
          (if_other writable (is_immutable m id) (immutable_other m id), tt),
        ),
      ),
    ),
  ),
)

pub store_other : (m : Machine) (address : ℕ) (bytes : List ℕ) → refusal m (call.Store address bytes) ≢ Some why.Full
store_other m address bytes = first_other (no_map m address (length bytes) ∷ read_only m address (length bytes) ∷ []) (
  word_other why.NoMap _ (λ p e. cc e),
  (word_other why.ReadOnly _ (λ p e. cc e), tt),
)

pub mark_other : (m : Machine) (id : ℕ) → refusal m (call.MakePermanent id) ≢ Some why.Full
mark_other m id = first_other (no_file m id ∷ []) (no_file_other m id, tt)

-- Where one is, there is no room.

first_of_two : (a b : Test) → b ≢ Some why.Full → first_of (a ∷ b ∷ []) ≡ Some why.Full → a ≡ Some why.Full
first_of_two (Some w) b other is = is
first_of_two None (Some w) other is = absurd (other is)
first_of_two None None other is = is

last_of_four : (a b c d : Test) → a ≢ Some why.Full → b ≢ Some why.Full → c ≢ Some why.Full → first_of (a ∷ b ∷ c ∷ d ∷ []) ≡ Some why.Full → d ≡ Some why.Full
last_of_four (Some w) b c d one two three is = absurd (one is)
last_of_four None (Some w) c d one two three is = absurd (two is)
last_of_four None None (Some w) d one two three is = absurd (three is)
last_of_four None None None (Some w) one two three is = is
last_of_four None None None None one two three is = is

then_holds : (b : Bool) (w : Refusal) → then_some b w ≡ Some why.Full → b ≡ true
then_holds true w is = refl
then_holds false w is = absurd (none-some why.Full is)

pub create_full : (m : Machine) (kind : ℕ) → refusal m (call.Create 1 kind) ≡ Some why.Full → MissesRoom m 1
create_full m kind is =
    let first : no_room m 2 ≡ Some why.Full = first_of_two (no_room m 2) (no_ids m) (then_other _ why.Ids (λ e. cc e)) is in
    let less : nat_lt m.capacity (used m + 2) ≡ true = then_holds (nat_lt m.capacity (used m + 2)) why.Full first in
    grind (arith, nat_tests)

size_full : (n : Machine) (f : File) (id all : ℕ) → file_at n.files id ≡ Some f → refusal n (call.SetSize id all) ≡ Some why.Full → n.capacity < used n + all - size f
size_full n f id all there is =
    let last : no_room_as n id all ≡ Some why.Full = last_of_four (no_file n id) (is_immutable n id) (cut_while_mapped n id all) (no_room_as n id all)
    (no_file_other n id) (immutable_other n id) (shown_other n id all) is in
    let its : then_some (nat_lt n.capacity (used n + all - size f)) why.Full ≡ Some why.Full =
    ap (λ (o : Option File). option_and_then (λ g. then_some (nat_lt n.capacity (used n + all - size g)) why.Full) o) (sym there) ∙ last in
    let less : nat_lt n.capacity (used n + all - size f) ≡ true = then_holds (nat_lt n.capacity (used n + all - size f)) why.Full its in
    grind (arith, nat_tests)

pub sized_full : (m : Machine) (f : File) (id all : ℕ) → IsMachine m → IsFresh m id → f.id ≡ id → refusal (adding f m) (call.SetSize id all) ≡ Some why.Full → MissesRoom m all
sized_full m f id all h is_fresh named is =
    let less = size_full (adding f m) f id all (at_adding m f id is_fresh named) is in
    let more = room_put f m.files h.ids_rise (ap (λ (n : ℕ). file_at m.files n) named ∙ is_fresh.none) in
    omega (arith, less, more)

-- what a window makes of it
pub misses_now : (m : Machine) (done pages count : ℕ) (before piece : List ℕ) → MissesRoom m (pages + div_ceil (length piece) 512) → length before ≡ done → length piece ≡ count → 512 * pages ≡ 512 + done
    → MissesRoom m (pages_of (length (before ++ piece)))
misses_now m done pages count before piece lacks long width full =
    let all = pages_so_far done count pages (pages + div_ceil count 512) full refl in
    let both = length-append before piece in
    let same : pages + div_ceil (length piece) 512 ≡ pages_of (length (before ++ piece)) =
    ap (λ (n : ℕ). pages + div_ceil n 512) width ∙ all ∙ ap pages_of (let z : done + count ≡ length (before ++ piece) = omega (arith, both, long, width) in z) in
    subst (λ (n : ℕ). MissesRoom m n) same lacks

-- what was begun was taken back, and the code is the one of before
pub back_full : {T : Type 0} (error handed : Code) (undone : Result T Code) → (handed ≡ error) ⊎ ((w : Halt) × (undone ≡ Err (code.Halted w)) × (handed ≡ code.Halted w)) → handed ≡ is_full → error ≡ is_full
back_full error handed undone which is = elim which [
  | inl same ↦ sym same ∙ is
  | inr halted ↦ absurd (cc (halted.2, is))
]

-- the same of faults
pub back_fault : {T : Type 0} (error handed : Fault) (undone : Result T Code) → (handed ≡ error) ⊎ ((w : Halt) × (undone ≡ Err (code.Halted w)) × (handed ≡ fault.Call (code.Halted w))) → handed ≡ fault.Call is_full
    → error ≡ fault.Call is_full
back_fault error handed undone which is = elim which [
  | inl same ↦ sym same ∙ is
  | inr halted ↦ absurd (cc (halted.2, is))
]

pub never_full : (P : Type 0) (r : Result (Unit {0}) Code) → MatchResult r (λ done. P) (λ e. e ≡ is_failure) → r ≢ Err is_full
never_full P (Ok done) p is = cc is
never_full P (Err e) p is = cc (p, is)

told : (Q : Code → Type 0) (r : Result (Unit {0}) Code) → r ≡ Err is_full → IfErr r Q → Q is_full
told Q (Ok done) is q = absurd (cc is)
told Q (Err e) is q = let same : e ≡ is_full = cc is in subst Q same q

word_of : (word : Refusal) (o : Option Refusal) (P : Type 0) (r : Reply) → MatchOption o P (λ w. r ≡ reply.Refused w) → (P → (x : Reply) × (answer_to r ≡ Ok x))
    → Err (code.Refused word) ≡ answer_to r → o ≡ Some word
word_of word None P r p plain is = absurd (cc (is ∙ (plain p).1))
word_of word (Some w) P r p plain is = let same : w ≡ word = cc (is ∙ ap answer_to p) in ap (λ (v : Refusal). Some v) same

module _ {D A : Type 0} {G : Ghosts D} where
  why_told : (one : Call) (word : Refusal) (b : Engine D A G) (answer : Result Reply Code) (m : Machine) → IsPlain m one → Follows m one answer b → answer ≡ Err (code.Refused word) → refusal m one ≡ Some word
  why_told one word b answer m plain f is =
      word_of word (refusal m one) (Answers m one f.reply) f.reply f.allowed (plain f.reply) (sym is ∙ f.answered)

  -- a call that is answered by a refusal is refused by the machine, with the same word
  pub told_why : (one : Call) (word : Refusal) (a b : Engine D A G) (answer : Result Reply Code) (m : Machine) → IsPlain m one → Called one a answer b → StandsFor a m → answer ≡ Err (code.Refused word)
      → refusal m one ≡ Some word
  told_why one word a b answer m plain called stands is = elim (called.answers m stands) [
    | inl f ↦ why_told one word b answer m plain f is
    | inr bad ↦ absurd (cc (is, bad))
  ]

  -- a file is not made
  pub made_full : (m : Machine) (a b : Engine D A G) (made : Result Reply Code) (result : Result ℕ Code) → Called (call.Create 1 17475) a made b
      → ((id : ℕ) → made ≡ Ok (reply.File id) → result ≡ Ok id) → ((e : Code) → made ≡ Err e → result ≡ Err e) → StandsFor a m → result ≡ Err is_full → MissesRoom m 1
  made_full m a b (Ok got) result called file its stands is =
      let one = carried (call.Create 1 17475) a b (Ok got) got m called stands refl in
      absurd (cc (file (new_id m) (ap (λ (r : Reply). Ok r) one.1), is))
  made_full m a b (Err e) result called file its stands is =
      let same : e ≡ is_full = cc (its e refl, is) in
      create_full m 17475 (told_why (call.Create 1 17475) why.Full a b (Err e) m (λ r answers. (_, ap answer_to answers)) called stands (ap (λ (x : Code). Err x) same))

  -- a space is not made
  pub space_not_full : (m : Machine) (pages : ℕ) (a b : Engine D A G) (made : Result Reply Code) (result : Result (ℕ × ℕ) Code) (e : Code) → Called (call.MakeSpace 0 pages None) a made b
      → ((handle first : ℕ) → made ≡ Ok (reply.Space handle first) → result ≡ Ok (handle, first)) → ((x : Code) → made ≡ Err x → result ≡ Err x) → result ≡ Err e → StandsFor a m
      → e ≢ is_full
  space_not_full m pages a b (Ok got) result e called space its is stands full =
      let one = carried (call.MakeSpace 0 pages None) a b (Ok got) got m called stands refl in
      let found = space (place m pages).handle (place m pages).first (ap (λ (r : Reply). Ok r) one.1) in
      cc (found, is)
  space_not_full m pages a b (Err x) result e called space its is stands full =
      let same : x ≡ e = cc (its x refl, is) in
      space_other m pages (told_why (call.MakeSpace 0 pages None) why.Full a b (Err x) m (λ r answers. (_, ap answer_to answers)) called stands (ap (λ (y : Code). Err y) (same ∙ full)))

  -- a run is not shown
  pub map_not_full : (m : Machine) (id page pages : ℕ) (writable : Bool) (a b c : Engine D A G) (made mapped : Result Reply Code) (handle first : ℕ) (e : Code)
      → Called (call.MakeSpace 0 pages None) a made b → made ≡ Ok (reply.Space handle first)
      → Called (call.Map handle id page writable) b mapped c → mapped ≡ Err e → StandsFor a m → e ≢ is_full
  map_not_full m id page pages writable a b c made mapped handle first e made_called made_is mapped_called mapped_is stands full =
      let one = carried (call.MakeSpace 0 pages None) a b made (reply.Space handle first) m made_called stands made_is in
      map_other (next m (call.MakeSpace 0 pages None)) handle id page writable
      (told_why (call.Map handle id page writable) why.Full b c mapped (next m (call.MakeSpace 0 pages None)) (λ r answers. (_, ap answer_to answers)) mapped_called one.2
      (mapped_is ∙ ap (λ (x : Code). Err x) full))

  -- a file is not marked
  pub mark_not_full : (m : Machine) (id : ℕ) (a b : Engine D A G) (answer : Result Reply Code) (e : Code) → Called (call.MakePermanent id) a answer b → answer ≡ Err e → StandsFor a m → e ≢ is_full
  mark_not_full m id a b answer e called is stands full =
      mark_other m id (told_why (call.MakePermanent id) why.Full a b answer m (λ r answers. (_, ap answer_to answers)) called stands (is ∙ ap (λ (x : Code). Err x) full))

  -- a file is not made longer
  pub sized_by : (m : Machine) (f : File) (id all : ℕ) (a b : Engine D A G) (answer : Result Reply Code) (e : Code) → IsMachine m → IsFresh m id → f.id ≡ id → Called (call.SetSize id all) a answer b → answer ≡ Err e
      → StandsFor a (adding f m) → e ≡ is_full → MissesRoom m all
  sized_by m f id all a b answer e h is_fresh named called is stands full =
      sized_full m f id all h is_fresh named
      (told_why (call.SetSize id all) why.Full a b answer (adding f m) (λ r answers. (_, ap answer_to answers)) called stands (is ∙ ap (λ (x : Code). Err x) full))

  held_few : (h : Held D A G) (m : Machine) → IsIn h m → m.capacity ≤ 1048576
  held_few (held.Session live) m stands =
      let root = stands.1.session.stands.is.by.root in
      omega (arith, root.has_room, root.valid.accepted.1)
  held_few other m stands = absurd stands

  -- no volume has more room than sectors
  pub few_pages : (e : Engine D A G) (m : Machine) → StandsFor e m → m.capacity ≤ 1048576
  few_pages e m stands = held_few e.held m stands

  -- Bytes are stored through a window, and the window is taken away.
  module _ (m : Machine) (id page pages space address done : ℕ) (bytes : List ℕ) (moved : Result (Unit {0}) Code) (c d : Engine D A G) (h : IsMachine m)
      (shown : IsShown m id page pages true space address) (few : pages < 2 ^ 32 - 1 → pages ≡ div_ceil (length bytes) 512) where
    pub store_not_full : (result : Result (Unit {0}) Code) → (Stored (showing m id page pages true) address done bytes c ⊎ (moved ≡ Err is_failure)) → done ≤ length bytes
        → (address + done < 2 ^ 32 → IfErr moved (StopsAfter (showing m id page pages true) address done bytes))
        → ((n last : Machine) → StandsFor c n → IsHidden n space last → result ≡ Err is_full → moved ≡ Err is_full) → (moved ≡ Err is_failure → result ≡ Err is_failure)
        → result ≢ Err is_full
    store_not_full result (inr bad) part stops ends fails is = cc (fails bad, is)
    store_not_full result (inl s) part stops ends fails is =
        let as_many = pages_are m id page pages (length bytes) true space address h shown few in
        let full = ends s.after (after_store id page pages (take done bytes) m) s.stands
        (store_hides m id page pages space address done bytes c h shown s part (pages_fill (length bytes) pages as_many)) is in
        let inside = (is_made m pages h shown.makes).inside in
        let low : address + done < 2 ^ 32 = omega (arith, shown.begins, inside, part, pages_fill (length bytes) pages as_many) in
        let stopped = told (StopsAfter (showing m id page pages true) address done bytes) moved full (stops low) in
        elim stopped.stops [
          | inl bad ↦ cc bad
          | inr refused ↦
              let same : refused.2.0 ≡ why.Full = cc refused.2.2 in
              store_other stopped.after (address + done) (slice_range bytes done (done + refused.0)) (refused.2.1 ∙ ap (λ (w : Refusal). Some w) same)
        ]
