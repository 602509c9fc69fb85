-- From the answer to one load or store to bytes and stores in a row.
use Rattle.std.proofs.Common.{◌≡◌, ◌≢◌, ◌⊎◌, ◌∙◌, ℕ, zero, suc, ◌+◌, ◌-◌, ◌<◌, ◌≤◌, sym, ap, subst, refl, arith, List, [], ◌∷◌, ◌++◌, length, length-append, Option, Some, None, is_none, MatchOption, Result, Ok, Err, inl, inr, if◌then◌else◌}
use Rattle.std.specs.Prelude.{slice_get, slice_range, take, drop}
use Rattle.std.proofs.Math.Seq.{take-add}
use Rattle.std.proofs.lemmas.Bool.{cases_lt}
use Rattle.std.proofs.lemmas.List.{append-nil, length-drop, length-take-le}
use Rattle.std.proofs.lemmas.List.Folds.{concat-append}
use Rattle.std.specs.List.{AllByRecursion, AllZip, concat}
use Rattle.labelled_disk.specs.declared.disk.Disk.{Ghosts}
use Rattle.labelled_disk.specs.declared.evidence.Halt.TheVariants as halt
use Rattle.flat_machine.specs.declared.call.Call.{Call}
use Rattle.flat_machine.specs.declared.call.Call.TheVariants as call
use Rattle.flat_machine.specs.declared.call.Refusal.{Refusal}
use Rattle.flat_machine.specs.declared.call.Reply.{Reply}
use Rattle.flat_machine.specs.declared.call.Reply.TheVariants as reply
use Rattle.flat_machine.specs.Allows.{AgreesWithCells, Answers}
use Rattle.flat_machine.specs.At.{cells_at}
use Rattle.flat_machine.specs.Machine.{Machine}
use Rattle.flat_machine.specs.Next.{next, change}
use Rattle.flat_machine.specs.Refusal.{refusal}
use Rattle.pilot_engine.specs.Referring.{AreReplied}
use Rattle.embedded.specs.declared.code.Code.{Code}
use Rattle.embedded.specs.declared.code.Code.TheVariants as code
use Rattle.embedded.specs.declared.engine.Engine.{Engine}
use Rattle.embedded.specs.Answers.{answer_to}
use Rattle.embedded.specs.Called.{Called, Follows}
use Rattle.embedded.specs.Engine.{StandsFor}
use Rattle.embedded.specs.References.{AreAt, IsAt, IsPiece, IsRefused, Lead, StopsAfter, StopsLoad, Stored, StoredPiece}

-- Replies and answers.

-- an answer that is a reply is that reply
same_reply : {x : Reply} (r : Reply) → Ok x ≡ answer_to r → x ≡ r
same_reply (reply.Refused word) is = absurd (cc is)
same_reply reply.Nothing is = absurd (cc is)
same_reply other is = cc is

-- what is answered by a reply was not refused
unrefused : {x : Reply} (o : Option Refusal) (P : Type 0) (r : Reply) → MatchOption o P (λ word. r ≡ reply.Refused word) → Ok x ≡ answer_to r → (o ≡ None) × P
unrefused None P r p is = (refl, p)
unrefused (Some word) P r p is = absurd (cc (is ∙ ap answer_to p))

-- a call that leaves the machine as it is leaves it so whether or not it is refused
pub unchanged : (o : Option Refusal) (m : Machine) → (if is_none o then m else m) ≡ m
unchanged None m = refl
unchanged (Some word) m = refl

-- what is answered by a code changes nothing, where the one reply is that it is done
refused_next : {e : Code} (o : Option Refusal) (m n : Machine) (r : Reply) → MatchOption o (r ≡ reply.Done) (λ word. r ≡ reply.Refused word) → Err e ≡ answer_to r
    → (if is_none o then n else m) ≡ m
refused_next None m n r p is = absurd (cc (is ∙ ap answer_to p))
refused_next (Some word) m n r p is = refl

-- what is answered by a code, where each reply to an unrefused call is none, was refused with the code's word
refused_why : {e : Code} (o : Option Refusal) (P : Type 0) (r : Reply) → MatchOption o P (λ word. r ≡ reply.Refused word) → (P → (x : Reply) × (answer_to r ≡ Ok x)) → Err e ≡ answer_to r
    → (word : Refusal) × (o ≡ Some word) × (e ≡ code.Refused word)
refused_why None P r p plain is = absurd (cc (is ∙ (plain p).1))
refused_why (Some word) P r p plain is = (word, refl, cc (is ∙ ap answer_to p))

-- Loads.

-- bytes that agree with cells are those of the addresses, one by one
agreed : (m : Machine) (address count : ℕ) (bytes : List ℕ) → AgreesWithCells (cells_at m address count) bytes → AreAt m address count bytes
agreed m address zero bytes agrees k b below got = absurd (omega (arith, below))
agreed m address (suc n) [] agrees k b below got = absurd agrees
agreed m address (suc n) (x ∷ xs) agrees zero b below got =
    let same : x ≡ b = cc got in
    let there : address ≡ address + 0 = omega arith in
    subst (λ (a : ℕ). IsAt m a b) there (subst (λ (y : ℕ). IsAt m address y) same agrees.0)
agreed m address (suc n) (x ∷ xs) agrees (suc k) b below got =
    let there : (address + 1) + k ≡ address + suc k = omega arith in
    subst (λ (a : ℕ). IsAt m a b) there (agreed m (address + 1) n xs agrees.1 k b (omega (arith, below)) got)

-- bytes that came first, and the piece after them
pub placed : (m : Machine) (address done n : ℕ) (old new piece : List ℕ) → AreAt m address done old → AreAt m (address + done) n piece
    → ((k : ℕ) → (k < done) ⊎ (done + n ≤ k) → slice_get new k ≡ slice_get old k) → ((k : ℕ) → k < n → slice_get new (done + k) ≡ slice_get piece k)
    → AreAt m address (done + n) new
placed m address done n old new piece had more rest put k b below got = elim (cases_lt k done) [
  | inl early ↦ had k b early (sym (rest k (inl early)) ∙ got)
  | inr late ↦
      let there : done + (k - done) ≡ k = omega (arith, late) in
      let within : k - done < n = omega (arith, late, below) in
      let at : (address + done) + (k - done) ≡ address + k = omega (arith, late) in
      subst (λ (a : ℕ). IsAt m a b) at
      (more (k - done) b within (sym (put (k - done) within) ∙ (subst (λ (i : ℕ). slice_get new i ≡ Some b) (sym there) got)))
]

-- bytes that loads of one byte each reply are those of the addresses
pub replied_at : (m : Machine) (address n : ℕ) (bytes : List ℕ) → AreReplied m address n bytes → AreAt m address n bytes
replied_at m address n bytes replied k b below got =
    let one = call.Load (address + k) 1 in
    let r = reply.Bytes (b ∷ []) in
    let p = unrefused {x = r} (refusal m one) (Answers m one r) r (replied k b below got) refl in
    let same : b ∷ [] ≡ p.1.0 = cc p.1.1 in
    let first : slice_get p.1.0 0 ≡ Some b = subst (λ (l : List ℕ). slice_get l 0 ≡ Some b) same refl in
    let at : (address + k) + 0 ≡ address + k = omega arith in
    subst (λ (a : ℕ). IsAt m a b) at (agreed m (address + k) 1 p.1.0 p.1.2 0 b (omega arith) first)

-- and they are as many
agreed_long : (m : Machine) (address count : ℕ) (bytes : List ℕ) → AgreesWithCells (cells_at m address count) bytes → length bytes ≡ count
agreed_long m address zero [] agrees = refl
agreed_long m address zero (x ∷ xs) agrees = absurd agrees
agreed_long m address (suc n) [] agrees = absurd agrees
agreed_long m address (suc n) (x ∷ xs) agrees = ap suc (agreed_long m (address + 1) n xs agrees.1)

-- Stores in a row.

-- and one more after them
pub lead_then : (m : Machine) (address : ℕ) (pieces : List (List ℕ)) (n : Machine) (piece : List ℕ) → Lead m address pieces n
    → refusal n (call.Store (address + length (concat pieces)) piece) ≡ None
    → Lead m address (pieces ++ piece ∷ []) (next n (call.Store (address + length (concat pieces)) piece))
lead_then m address [] n piece lead free =
    let at : address + 0 ≡ address = omega arith in
    subst (λ (a : ℕ). Lead m address (piece ∷ []) (next n (call.Store a piece))) (sym at)
    (subst (λ (x : Machine). Lead m address (piece ∷ []) (next x (call.Store address piece))) (sym lead)
    (subst (λ (x : Machine). refusal x (call.Store address piece) ≡ None) lead (subst (λ (a : ℕ). refusal n (call.Store a piece) ≡ None) at free), refl))
lead_then m address (bytes ∷ rest) n piece lead free =
    let at : address + length (concat (bytes ∷ rest)) ≡ (address + length bytes) + length (concat rest) = omega (arith, length-append bytes (concat rest)) in (
      lead.0,
      subst (λ (a : ℕ). Lead (next m (call.Store address bytes)) (address + length bytes) (rest ++ piece ∷ []) (next n (call.Store a piece))) (sym at)
          (lead_then (next m (call.Store address bytes)) (address + length bytes) rest n piece lead.1 (subst (λ (a : ℕ). refusal n (call.Store a piece) ≡ None) at free)),
    )

pub take_whole : (n : ℕ) (bytes : List ℕ) → length bytes ≤ n → take n bytes ≡ bytes
take_whole zero [] all = refl
take_whole zero (b ∷ bs) all = absurd (omega (arith, all))
take_whole (suc n) [] all = refl
take_whole (suc n) (b ∷ bs) all = ap (λ (l : List ℕ). b ∷ l) (take_whole n bs (omega (arith, all)))

-- stores in a row after others
lead_row : (m : Machine) (address at : ℕ) (ps qs : List (List ℕ)) (n o : Machine) → at ≡ address + length (concat ps) → Lead m address ps n → Lead n at qs o
    → Lead m address (ps ++ qs) o
lead_row m address at [] qs n o is lead more =
    let none : address + 0 ≡ address = omega arith in
    subst (λ (x : Machine). Lead x address qs o) lead (subst (λ (a : ℕ). Lead n a qs o) (is ∙ none) more)
lead_row m address at (bytes ∷ rest) qs n o is lead more =
    let there : at ≡ (address + length bytes) + length (concat rest) = omega (arith, is, length-append bytes (concat rest)) in
    (lead.0, lead_row (next m (call.Store address bytes)) (address + length bytes) at rest qs n o there lead.1 more)

some_row : (ps qs : List (List ℕ)) → AllByRecursion (λ p. 1 ≤ length p) ps → AllByRecursion (λ p. 1 ≤ length p) qs → AllByRecursion (λ p. 1 ≤ length p) (ps ++ qs)
some_row [] qs h l = l
some_row (p ∷ ps) qs h l = (h.0, some_row ps qs h.1 l)

-- no piece is empty, nor one more after them
pub some_then : (pieces : List (List ℕ)) (piece : List ℕ) → AllByRecursion (λ p. 1 ≤ length p) pieces → 1 ≤ length piece
    → AllByRecursion (λ p. 1 ≤ length p) (pieces ++ piece ∷ [])
some_then [] piece h l = (l, tt)
some_then (p ∷ ps) piece h l = (h.0, some_then ps piece h.1 l)

pub piece_long : (done n : ℕ) (bytes : List ℕ) → done ≤ length bytes → n ≤ length bytes - done → length (slice_range bytes done (done + n)) ≡ n
piece_long done n bytes within fits =
    let count : (done + n) - done ≡ n = omega arith in
    ap (λ (k : ℕ). length (take k (drop done bytes))) count
    ∙ length-take-le n (drop done bytes) (omega (arith, length-drop done bytes, within, fits))

module _ {D A : Type 0} {G : Ghosts D} where
  -- a load that is answered by a reply
  pub load_replied : (m : Machine) (address count : ℕ) (x : Reply) (new : Engine D A G) → Follows m (call.Load address count) (Ok x) new
      → (bytes : List ℕ) × (x ≡ reply.Bytes bytes) × (length bytes ≡ count) × AreAt m address count bytes × StandsFor new m
  load_replied m address count x new f =
      let p = unrefused (refusal m (call.Load address count)) (Answers m (call.Load address count) f.reply) f.reply f.allowed f.answered in (
        p.1.0,
        same_reply f.reply f.answered ∙ p.1.1,
        agreed_long m address count p.1.0 p.1.2,
        agreed m address count p.1.0 p.1.2,
        subst (λ (n : Machine). StandsFor new n) (unchanged (refusal m (call.Load address count)) m) f.stands,
      )

  pub load_stands : (m : Machine) (address count : ℕ) (answer : Result Reply Code) (new : Engine D A G) → Follows m (call.Load address count) answer new → StandsFor new m
  load_stands m address count answer new f = subst (λ (n : Machine). StandsFor new n) (unchanged (refusal m (call.Load address count)) m) f.stands

  -- a store that is answered by a reply was not refused
  pub store_replied : (m : Machine) (address : ℕ) (bytes : List ℕ) (x : Reply) (new : Engine D A G) → Follows m (call.Store address bytes) (Ok x) new
      → (refusal m (call.Store address bytes) ≡ None) × StandsFor new (next m (call.Store address bytes))
  store_replied m address bytes x new f =
      ((unrefused (refusal m (call.Store address bytes)) (Answers m (call.Store address bytes) f.reply) f.reply f.allowed f.answered).0, f.stands)

  -- one that is answered by a code changed nothing
  pub store_refused : (m : Machine) (address : ℕ) (bytes : List ℕ) (e : Code) (new : Engine D A G) → Follows m (call.Store address bytes) (Err e) new → StandsFor new m
  store_refused m address bytes e new f =
      subst (λ (n : Machine). StandsFor new n)
      (refused_next (refusal m (call.Store address bytes)) m (change m (call.Store address bytes)) f.reply f.allowed f.answered) f.stands

  -- nothing was stored yet
  pub stored_none : (m : Machine) (address : ℕ) (bytes : List ℕ) (e : Engine D A G) → StandsFor e m → Stored m address 0 bytes e
  stored_none m address bytes e stands = record { pieces = []; some = tt; whole = refl; after = m; lead = refl; stands = stands }

  -- the same bytes were stored where the engine still stands for the machine after them
  pub stored_still : (m : Machine) (address done : ℕ) (bytes : List ℕ) (old new : Engine D A G) (s : Stored m address done bytes old) → StandsFor new s.after → Stored m address done bytes new
  stored_still m address done bytes old new s still = record { pieces = s.pieces; some = s.some; whole = s.whole; after = s.after; lead = s.lead; stands = still }

  -- and a piece after the first bytes
  pub stored_then : (m : Machine) (address done n : ℕ) (bytes : List ℕ) (old new : Engine D A G) (s : Stored m address done bytes old) → done ≤ length bytes
      → IsPiece (address + done) (length bytes - done) n → StoredPiece s.after (address + done) (slice_range bytes done (done + n)) new
      → Stored m address (done + n) bytes new
  stored_then m address done n bytes old new s within is p =
      let piece = slice_range bytes done (done + n) in
      let long : length (concat s.pieces) ≡ done = ap (λ (l : List ℕ). length l) s.whole ∙ length-take-le done bytes within in
      let at : address + done ≡ address + length (concat s.pieces) = omega (arith, long) in
      let count : (done + n) - done ≡ n = omega arith in
      record {
        pieces = s.pieces ++ piece ∷ [];
        some = some_then s.pieces piece s.some (omega (arith, piece_long done n bytes within is.within, is.some));
        whole = concat-append s.pieces (piece ∷ []) ∙ ap (λ (l : List ℕ). l ++ (piece ++ [])) s.whole ∙ ap (λ (l : List ℕ). take done bytes ++ l) (append-nil piece)
            ∙ ap (λ (k : ℕ). take done bytes ++ take k (drop done bytes)) count ∙ sym (take-add done n bytes);
        after = next s.after (call.Store (address + length (concat s.pieces)) piece);
        lead = lead_then m address s.pieces s.after piece s.lead (subst (λ (a : ℕ). refusal s.after (call.Store a piece) ≡ None) at p.0);
        stands = subst (λ (a : ℕ). StandsFor new (next s.after (call.Store a piece))) at p.1;
      }

  -- and bytes in a row after the first ones
  pub stored_row : (m : Machine) (address done n : ℕ) (bytes rest : List ℕ) (old new : Engine D A G) → done ≤ length bytes → rest ≡ drop done bytes → (s : Stored m address done bytes old)
      → Stored s.after (address + done) n rest new → Stored m address (done + n) bytes new
  stored_row m address done n bytes rest old new within is s t =
      let long : length (concat s.pieces) ≡ done = ap (λ (l : List ℕ). length l) s.whole ∙ length-take-le done bytes within in
      let at : address + done ≡ address + length (concat s.pieces) = omega (arith, long) in
      record {
        pieces = s.pieces ++ t.pieces;
        some = some_row s.pieces t.pieces s.some t.some;
        whole = concat-append s.pieces t.pieces ∙ ap (λ (l : List ℕ). l ++ concat t.pieces) s.whole ∙ ap (λ (l : List ℕ). take done bytes ++ l) (t.whole ∙ ap (λ (l : List ℕ). take n l) is)
            ∙ sym (take-add done n bytes);
        after = t.after;
        lead = lead_row m address (address + done) s.pieces t.pieces s.after t.after at s.lead t.lead;
        stands = t.stands;
      }

  -- The same, from what the call did to the engine.

  pub load_ok : (m : Machine) (address count : ℕ) (old new : Engine D A G) (x : Reply) → Called (call.Load address count) old (Ok x) new → StandsFor old m
      → (bytes : List ℕ) × (x ≡ reply.Bytes bytes) × (length bytes ≡ count) × AreAt m address count bytes × StandsFor new m
  load_ok m address count old new x c stands = elim (c.answers m stands) [
    | inl f ↦ load_replied m address count x new f
    | inr is ↦ absurd (cc is)
  ]

  pub load_err : (m : Machine) (address count : ℕ) (old new : Engine D A G) (e : Code) → Called (call.Load address count) old (Err e) new → StandsFor old m
      → StandsFor new m ⊎ (e ≡ code.Halted halt.Disk)
  load_err m address count old new e c stands = elim (c.answers m stands) [
    | inl f ↦ inl (load_stands m address count (Err e) new f)
    | inr is ↦ inr (cc is)
  ]

  pub store_ok : (m : Machine) (address : ℕ) (bytes : List ℕ) (old new : Engine D A G) (x : Reply) → Called (call.Store address bytes) old (Ok x) new → StandsFor old m
      → StoredPiece m address bytes new
  store_ok m address bytes old new x c stands = elim (c.answers m stands) [
    | inl f ↦ store_replied m address bytes x new f
    | inr is ↦ absurd (cc is)
  ]

  pub store_err : (m : Machine) (address : ℕ) (bytes : List ℕ) (old new : Engine D A G) (e : Code) → Called (call.Store address bytes) old (Err e) new → StandsFor old m
      → StandsFor new m ⊎ (e ≡ code.Halted halt.Disk)
  store_err m address bytes old new e c stands = elim (c.answers m stands) [
    | inl f ↦ inl (store_refused m address bytes e new f)
    | inr is ↦ inr (cc is)
  ]

  -- Why a call that is answered by a code is not carried out.

  pub load_why : (m : Machine) (address count : ℕ) (old new : Engine D A G) (e : Code) → Called (call.Load address count) old (Err e) new → StandsFor old m
      → (e ≡ code.Halted halt.Disk) ⊎ IsRefused m (call.Load address count) e
  load_why m address count old new e c stands = elim (c.answers m stands) [
    | inl f ↦ inr (refused_why (refusal m (call.Load address count)) (Answers m (call.Load address count) f.reply) f.reply f.allowed (λ p. (reply.Bytes p.0, ap answer_to p.1)) f.answered)
    | inr is ↦ inl (cc is)
  ]

  pub store_why : (m : Machine) (address : ℕ) (bytes : List ℕ) (old new : Engine D A G) (e : Code) → Called (call.Store address bytes) old (Err e) new → StandsFor old m
      → (e ≡ code.Halted halt.Disk) ⊎ IsRefused m (call.Store address bytes) e
  store_why m address bytes old new e c stands = elim (c.answers m stands) [
    | inl f ↦ inr (refused_why (refusal m (call.Store address bytes)) (Answers m (call.Store address bytes) f.reply) f.reply f.allowed (λ p. (reply.Done, ap answer_to p)) f.answered)
    | inr is ↦ inl (cc is)
  ]

  -- so a load stops at a piece, and a store after the first bytes

  pub load_stops : (m : Machine) (at rest k n : ℕ) (old new : Engine D A G) (e : Code) → k ≡ n → IsPiece at rest n → Called (call.Load at k) old (Err e) new → StandsFor old m → StopsLoad m at rest e
  load_stops m at rest k n old new e same piece c stands = elim (load_why m at k old new e c stands) [
    | inl is ↦ inl is
    | inr refused ↦ inr (k, subst (λ (i : ℕ). IsPiece at rest i) (sym same) piece, refused)
  ]

  pub store_stops : (m : Machine) (address done n : ℕ) (bytes : List ℕ) (old new : Engine D A G) (e : Code) (s : Stored m address done bytes old) → IsPiece (address + done) (length bytes - done) n
      → Called (call.Store (address + done) (slice_range bytes done (done + n))) old (Err e) new → StopsAfter m address done bytes e
  store_stops m address done n bytes old new e s piece c = record {
    pieces = s.pieces;
    whole = s.whole;
    after = s.after;
    lead = s.lead;
    stops = elim (store_why s.after (address + done) (slice_range bytes done (done + n)) old new e c s.stands) [
      | inl is ↦ inl is
      | inr refused ↦ inr (n, piece, refused)
    ];
  }
