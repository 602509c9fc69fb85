use Rattle.std.proofs.Common.{◌≡◌, ◌+◌, ◌-◌, ℕ, ap, arith, length, refl, subst, Err, Ok, inl, inr}
use Rattle.std.specs.Prelude.{slice_range}
use Rattle.labelled_disk.specs.declared.evidence.Halt.TheVariants as halt
use Rattle.flat_machine.specs.declared.call.Call.TheVariants as call
use Rattle.flat_machine.specs.declared.call.Reply.TheVariants as reply
use Rattle.embedded.specs.declared.code.Code.{Code}
use Rattle.embedded.specs.declared.code.Code.TheVariants as code
use Rattle.embedded.specs.Called.{Called}
use Rattle.embedded.specs.References.{IsPiece, StoredPiece}
use Rattle.embedded.proofs.ReferenceLemmas.{store_err, store_ok, store_stops, stored_still, stored_then}
use Rattle.embedded.proofs.StopLemmas.{store_leaves}
use Rattle.embedded.proofs.SpendLemmas.{spends_none, spends_piece}
use Rattle.embedded.proofs.engine.Engine.put_next.Goals as goal

pub returns-in-Ok-clause-stored : goal.returns-in-Ok-clause-stored
returns-in-Ok-clause-stored g c = λ m s.
    let bytes = c.args.bytes.now in
    let done = c.args.done in
    let n = c.in_piece-count.result in
    stored_then m c.args.address done n bytes c.args.self.now c.store_piece.new.self s (omega (arith, c.requires))
    (subst (λ (a : ℕ). IsPiece a (length bytes - done) n) c.in-Some.ensures c.in_piece-count.ensures.piece)
    (subst (λ (a : ℕ). StoredPiece s.after a (slice_range bytes done (done + n)) c.store_piece.new.self) c.in-Some.ensures
    (store_ok s.after _ _ _ _ _ c.in-Ok.ensures.called s.stands))

pub returns-in-Err-clause-still : goal.returns-in-Err-clause-still
returns-in-Err-clause-still g c = λ m s. elim (store_err s.after _ _ _ _ _ c.in-Err.ensures.called s.stands) [
  | inl still ↦ inl (stored_still m _ _ _ _ _ s still)
  | inr is ↦ inr is
]

-- a halt is the piece's
pub returns-in-Err-clause-stopped : goal.returns-in-Err-clause-stopped
returns-in-Err-clause-stopped g c = λ why is.
    let same : c.in-Err.code ≡ code.Halted why = cc is in
    c.in-Err.ensures.called.stopped why (ap (λ (e : Code). Err e) same)

-- the machine refuses the piece, or the disk failed
pub returns-in-Err-clause-stops : goal.returns-in-Err-clause-stops
returns-in-Err-clause-stops g c = λ m s low.
    let bytes = c.args.bytes.now in
    let done = c.args.done in
    let n = c.in_piece-count.result in
    let why = c.in-Err.code in
    store_stops m c.args.address done n bytes c.args.self.now c.store_piece.new.self why s
    (subst (λ (a : ℕ). IsPiece a (length bytes - done) n) c.in-Some.ensures c.in_piece-count.ensures.piece)
    (subst (λ (a : ℕ). Called (call.Store a (slice_range bytes done (done + n))) c.args.self.now (Err why) c.store_piece.new.self) c.in-Some.ensures c.in-Err.ensures.called)

-- and the disk is blamed where the piece's call blames it
pub returns-in-Err-clause-cause : goal.returns-in-Err-clause-cause
returns-in-Err-clause-cause g c = λ is.
    let same : c.in-Err.code ≡ code.Halted halt.Disk = cc is in
    c.in-Err.ensures.called.cause (ap (λ (e : Code). Err e) same)

pub returns-in_default-clause-leaves : goal.returns-in_default-clause-leaves
returns-in_default-clause-leaves g c = λ m s. inl refl

-- in each crash state of the piece the first bytes are there, or the piece is too
pub returns-in-Ok-clause-leaves : goal.returns-in-Ok-clause-leaves
returns-in-Ok-clause-leaves g c = λ m s.
    let bytes = c.args.bytes.now in
    let done = c.args.done in
    let n = c.in_piece-count.result in
    store_leaves m c.args.address done n bytes c.args.self.now c.store_piece.new.self (Ok reply.Done) (omega (arith, c.requires)) s
    (subst (λ (a : ℕ). IsPiece a (length bytes - done) n) c.in-Some.ensures c.in_piece-count.ensures.piece)
    (subst (λ (a : ℕ). Called (call.Store a (slice_range bytes done (done + n))) c.args.self.now (Ok reply.Done) c.store_piece.new.self) c.in-Some.ensures c.in-Ok.ensures.called)

pub returns-in-Err-clause-leaves : goal.returns-in-Err-clause-leaves
returns-in-Err-clause-leaves g c = λ m s.
    let bytes = c.args.bytes.now in
    let done = c.args.done in
    let n = c.in_piece-count.result in
    store_leaves m c.args.address done n bytes c.args.self.now c.store_piece.new.self (Err c.in-Err.code) (omega (arith, c.requires)) s
    (subst (λ (a : ℕ). IsPiece a (length bytes - done) n) c.in-Some.ensures c.in_piece-count.ensures.piece)
    (subst (λ (a : ℕ). Called (call.Store a (slice_range bytes done (done + n))) c.args.self.now (Err c.in-Err.code) c.store_piece.new.self) c.in-Some.ensures c.in-Err.ensures.called)

-- the piece goes up to the end of its page, unless it is the last one
pub returns-in-Ok-clause-ends : goal.returns-in-Ok-clause-ends
returns-in-Ok-clause-ends g c = λ more. omega (arith, c.in-Some.ensures, c.in_piece-count.ensures.ends (omega (arith, more)))

-- what is spent is spent on the piece
pub returns-in_default-clause-spends : goal.returns-in_default-clause-spends
returns-in_default-clause-spends g c = spends_none 0 1 c.args.self.now

pub returns-in-Ok-clause-spends : goal.returns-in-Ok-clause-spends
returns-in-Ok-clause-spends g c = spends_piece _ c.args.self.now c.store_piece.new.self _ refl c.in-Ok.ensures.called

pub returns-in-Err-clause-spends : goal.returns-in-Err-clause-spends
returns-in-Err-clause-spends g c = spends_piece _ c.args.self.now c.store_piece.new.self _ refl c.in-Err.ensures.called
