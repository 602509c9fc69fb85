use Rattle.std.proofs.Common.{◌≡◌, ◌∙◌, ◌+◌, ◌-◌, ◌%◌, ◌≤◌, ℕ, List, length, ap, arith, refl, subst, sym, inl, inr, Err, rules}
use Rattle.labelled_disk.specs.declared.evidence.Halt.TheVariants as halt
use Rattle.embedded.specs.declared.code.Code.{Code}
use Rattle.embedded.specs.declared.code.Code.TheVariants as code
use Rattle.embedded.specs.References.{AreAt, StopsLoad}
use Rattle.fault_core.proofs.PutLemmas.{put_here, put_other}
use Rattle.embedded.proofs.PieceLemmas.{loaded_at}
use Rattle.embedded.proofs.ReferenceLemmas.{load_err, load_stops, placed}
use Rattle.embedded.proofs.StopLemmas.{load_leaves}
use borrow.Rule.Slice.PartMut.{mid_of, put_mid, put_same}
use Rattle.embedded.proofs.SpendLemmas.{spends_none, spends_piece}
use Rattle.embedded.proofs.engine.Engine.fetch_next.Goals as goal

pub returns-in-Ok-clause-loaded : goal.returns-in-Ok-clause-loaded
returns-in-Ok-clause-loaded g c = λ m stands had.
    let address = c.args.address in
    let done = c.args.done in
    let n = c.in_piece-count.result in
    let into = c.args.into.now in
    let bytes = c.load_piece.new.into in
    let part = (done + n) - done in
    let fits : done + n ≤ length into = search rules in
    let long : length bytes ≡ n = search rules in
    let piece : AreAt m (address + done) n bytes =
    subst (λ (a : ℕ). AreAt m a n bytes) c.in-Some.ensures
    (subst (λ (k : ℕ). AreAt m c.in-Some.at k bytes) (sym c.load_piece.ensures.width ∙ long) (loaded_at m _ _ _ _ _ c.in-Ok.ensures.called stands).0) in
    placed m address done n into (put_mid done part into bytes) bytes had piece
    (put_other done n part into bytes fits long (omega arith))
    (put_here done n part into bytes fits long (omega arith))

pub returns-in-Ok-clause-still : goal.returns-in-Ok-clause-still
returns-in-Ok-clause-still g c = λ m stands. inl (loaded_at m _ _ _ _ _ c.in-Ok.ensures.called stands).1

-- the piece is on one page, so none of it was moved
pub returns-in-Err-clause-rest : goal.returns-in-Err-clause-rest
returns-in-Err-clause-rest g c =
    let done = c.args.done in
    let n = c.in_piece-count.result in
    let into = c.args.into.now in
    let part = (done + n) - done in
    let on_page : c.in-Some.at % 512 + length (mid_of done part into) ≤ 512 = search rules in
    (tt, ap (λ (ys : List ℕ). put_mid done part into ys) (c.in-Err.ensures.intact on_page) ∙ put_same done part into)

pub returns-in-Err-clause-still : goal.returns-in-Err-clause-still
returns-in-Err-clause-still g c = λ m stands. elim (load_err m _ _ _ _ _ c.in-Err.ensures.called stands) [
  | inl still ↦ inl still
  | inr is ↦ inr (ap (λ (e : Code). Err e) is)
]

-- a halt is the piece's
pub returns-in-Err-clause-stopped : goal.returns-in-Err-clause-stopped
returns-in-Err-clause-stopped g c = λ why is.
    let same : c.in-Err.code ≡ code.Halted why = cc is in
    c.in-Err.ensures.called.stopped why (ap (λ (e : Code). Err e) same)

-- the machine refuses the piece, or the disk failed
pub returns-in-Err-clause-stops : goal.returns-in-Err-clause-stops
returns-in-Err-clause-stops g c = λ m stands low.
    let rest = length c.args.into.now - c.args.done in
    let n = c.in_piece-count.result in
    let bytes = c.load_piece.new.into in
    let long : length bytes ≡ n = search rules in
    subst (λ (a : ℕ). StopsLoad m a rest c.in-Err.code) c.in-Some.ensures
    (load_stops m c.in-Some.at rest _ n _ _ _ (sym c.load_piece.ensures.width ∙ long) c.in_piece-count.ensures.piece c.in-Err.ensures.called stands)

-- and the disk is blamed where the piece's call blames it
pub returns-in-Err-clause-cause : goal.returns-in-Err-clause-cause
returns-in-Err-clause-cause g c = λ is.
    let same : c.in-Err.code ≡ code.Halted halt.Disk = cc is in
    c.in-Err.ensures.called.cause (ap (λ (e : Code). Err e) same)

pub returns-in_default-clause-leaves : goal.returns-in_default-clause-leaves
returns-in_default-clause-leaves g c = λ m stands. inl refl

-- what was there is there in each crash state of the piece
pub returns-in-Ok-clause-leaves : goal.returns-in-Ok-clause-leaves
returns-in-Ok-clause-leaves g c = λ m stands. load_leaves m _ _ c.args.self.now c.load_piece.new.self _ c.in-Ok.ensures.called stands

pub returns-in-Err-clause-leaves : goal.returns-in-Err-clause-leaves
returns-in-Err-clause-leaves g c = λ m stands. load_leaves m _ _ c.args.self.now c.load_piece.new.self _ c.in-Err.ensures.called stands

-- the piece goes up to the end of its page, unless it is the last one
pub returns-in-Ok-clause-more : goal.returns-in-Ok-clause-more
returns-in-Ok-clause-more g c = (search rules, search rules, λ more. omega (arith, c.in-Some.ensures, c.in_piece-count.ensures.ends (omega (arith, more))))

-- what is spent is spent on the piece
pub returns-in_default-clause-spends : goal.returns-in_default-clause-spends
returns-in_default-clause-spends g c = spends_none 0 1 c.args.self.now

pub returns-in-Ok-clause-spends : goal.returns-in-Ok-clause-spends
returns-in-Ok-clause-spends g c = spends_piece _ c.args.self.now c.load_piece.new.self _ refl c.in-Ok.ensures.called

pub returns-in-Err-clause-spends : goal.returns-in-Err-clause-spends
returns-in-Err-clause-spends g c = spends_piece _ c.args.self.now c.load_piece.new.self _ refl c.in-Err.ensures.called
