-- What one line takes, and where it leads.
use Rattle.std.proofs.Common.{◌≡◌, ◌⊎◌, inl, inr, ℕ, ◌<◌, List, [], ◌∷◌, ◌++◌, length, Option, Some, None, ap, ◌∙◌, subst, sym, arith, length-append}
use Rattle.std.specs.Prelude.{IfSome}
use Rattle.pair_machine.specs.Pair.{Pair}
use Rattle.pair_machine.specs.declared.call.PairReply.{PairReply}
use Rattle.trace_io.specs.PairLines.{TakesPairLine, pair_line_after}
use Rattle.trace_io.specs.Progress.{Progress}
use Rattle.trace_io.specs.declared.pair_line.PairLine.{PairLine}
use Rattle.trace_io.specs.declared.pair_line.PairLine.TheVariants as line
use Rattle.trace_io.specs.declared.progress.Stop.{Stop}
use Rattle.trace_io.specs.declared.progress.Stop.TheVariants as stop
use Rattle.labelled_disk.specs.Sectors.{Sector}
use Rattle.volume_pair.specs.Kept.{IsRootOf}
use Rattle.pair_session.specs.Causes.{IfHalted, ShowsHalt}
use Rattle.pair_session.specs.Ending.{IsOpenAt, StandsOr, outcome_of}
use Rattle.pair_session.specs.Lines.{Answers, Item, after_lines}
use Rattle.pair_session.specs.Pairs.{GoesOn, MayBeAsked, PairView, StandsFor}
use Rattle.pair_session.specs.Second.{EndsAfter}
use Rattle.pair_session.specs.Turn.{EndsSo, HaltsBy, IfHalts, StaysOpen, Steps}
use Rattle.pair_session.specs.declared.ending.Ending.{Ending}
use Rattle.pair_session.specs.declared.ending.Ending.TheVariants as ending
use Rattle.pair_session.specs.declared.turn.Turn.TheVariants as turn
use Rattle.pair_session.proofs.EndLemmas.{begun_lines}
use Rattle.volume_pair.proofs.SyncedLemmas.{ended_states, ended_step}
use Rattle.pair_session.proofs.LineLemmas.{after_more, answers_more, answers_none, copied_more}
use Rattle.pair_session.proofs.OwnedLemmas.{OwnsEach, owns_more}
use Rattle.pair_session.proofs.StateLemmas.{KeepsEach, ends_more, ends_with, keeps_more}
use Rattle.pair_session.proofs.WroteLemmas.{halt_after}

-- a line has a byte
pub takes_more : (item : Item) (b c : Option (List ℕ)) (p q : Progress) → TakesPairLine item b c p q → p.taken < q.taken
takes_more item b c p q takes =
    elim takes.ends [
      | inl fed ↦ omega (arith, takes.taken, ap length fed.0, length-append takes.line (10 ∷ []))
      | inr ended ↦ omega (arith, takes.taken, ap length ended.0, ended.1)
    ]

-- a line comes only where the reading was not at its end
pub none_stopped : (A B : Type 0) (s : Option Stop) (l : PairLine) → (s ≡ None) ⊎ (s ≡ Some stop.End) → IfSome s (λ why. (l ≡ pair_line_after why) × A × B) → (l ≡ line.End → ⊥) → s ≡ None
none_stopped A B s l (inl none) again other = none
none_stopped A B s l (inr end) again other = absurd (other (subst (λ (o : Option Stop). IfSome o (λ why. (l ≡ pair_line_after why) × A × B)) end again).0)

-- the replies are allowed to these lines, and the pair stands for the machine that follows, whatever it stood for
abbrev pub LeadsEach : PairView → PairView → List Item → List PairReply → Type 0
LeadsEach v w items replies = (p : Pair) → StandsFor v p → Answers p items replies × StandsFor w (after_lines p items)

pub leads_none : (v : PairView) → LeadsEach v v [] []
leads_none v p stands = (answers_none p, stands)

-- one line more
module _ (u v w : PairView) (item : Item) (r : PairReply) (steps : Steps v w item r) (items : List Item) (replies : List PairReply) (leads : LeadsEach u v items replies) where
  pub leads_more : LeadsEach u w (items ++ item ∷ []) (replies ++ r ∷ [])
  leads_more p stands =
      let before = leads p stands in
      let step = steps.1 (after_lines p items) before.1 in
      (answers_more p items replies item r before.0 step.allowed, subst (λ (q : Pair). StandsFor w q) (sym (after_more p items item)) step.stands)

  pub keeps_line : GoesOn u v → GoesOn v w → KeepsEach u v items items replies → KeepsEach u w (items ++ item ∷ []) (items ++ item ∷ []) (replies ++ r ∷ [])
  keeps_line goes next keeps p stands d is =
      let before = leads p stands in
      let step = steps.1 (after_lines p items) before.1 in
      let final = ends_with v w (after_lines p items) item step.stands next.same_root in
      keeps_more u v w items item p d (goes.same_root ∙ is) goes.to.went.syncs next.to.went.syncs (keeps p stands d is) (ended_states step.crash_states final)
      (λ j copied. elim (copied_more items replies item r before.0.one_a_line j copied) [ inl was ↦ inl was | inr (last, id, line, done) ↦ inr (last, step.synced done, ended_step step.crash_states final) ])

-- ---- Where no line follows.

module _ (u v w : PairView) (b c : Option (List ℕ)) (x y : Progress) (items : List Item) (replies : List PairReply) (leads : LeadsEach u v items replies) where
  -- the pair stands for the same machine still, or a disk failed
  pub stands_or : (how : Ending) → EndsSo how b c x y (HaltsBy v w) → StaysOpen (turn.Ends how) v w → (p : Pair) → StandsFor u p → StandsOr how w (after_lines p items)
  stands_or (ending.Halted why) is stays p stands = (is.4.1 (after_lines p items) (leads p stands).1).0
  stands_or ending.Close is stays p stands = subst (λ (x : PairView). StandsFor x (after_lines p items)) (sym stays) (leads p stands).1
  stands_or ending.End is stays p stands = subst (λ (x : PairView). StandsFor x (after_lines p items)) (sym stays) (leads p stands).1
  stands_or ending.Long is stays p stands = subst (λ (x : PairView). StandsFor x (after_lines p items)) (sym stays) (leads p stands).1
  stands_or ending.ReadFault is stays p stands = subst (λ (x : PairView). StandsFor x (after_lines p items)) (sym stays) (leads p stands).1
  stands_or ending.SinkFault is stays p stands = absurd is

  -- what the lines that were begun left in each crash state
  pub keeps_end : GoesOn u v → GoesOn v w → KeepsEach u v items items replies → (how : Ending) (is : EndsSo how b c x y (HaltsBy v w)) → StaysOpen (turn.Ends how) v w → KeepsEach u w (begun_lines (HaltsBy v w) b c x y how is items) items replies
  keeps_end goes next keeps (ending.Halted why) is stays p stands d of_root =
      keeps_more u v w items is.1 p d (goes.same_root ∙ of_root) goes.to.went.syncs next.to.went.syncs (keeps p stands d of_root) (is.4.1 (after_lines p items) (leads p stands).1).1 (λ j copied. inl copied)
  keeps_end goes next keeps ending.Close is stays p stands d of_root = subst (λ (x : PairView). KeepsEach u x items items replies) (sym stays) keeps p stands d of_root
  keeps_end goes next keeps ending.End is stays p stands d of_root = subst (λ (x : PairView). KeepsEach u x items items replies) (sym stays) keeps p stands d of_root
  keeps_end goes next keeps ending.Long is stays p stands d of_root = subst (λ (x : PairView). KeepsEach u x items items replies) (sym stays) keeps p stands d of_root
  keeps_end goes next keeps ending.ReadFault is stays p stands d of_root = subst (λ (x : PairView). KeepsEach u x items items replies) (sym stays) keeps p stands d of_root
  keeps_end goes next keeps ending.SinkFault is stays p stands d of_root = absurd is

  -- and what was written for them
  pub owns_end : OwnsEach u v items → (how : Ending) (is : EndsSo how b c x y (HaltsBy v w)) → StaysOpen (turn.Ends how) v w → OwnsEach u w (begun_lines (HaltsBy v w) b c x y how is items)
  owns_end owns (ending.Halted why) is stays = owns_more u v w items is.1 owns is.4.0
  owns_end owns ending.Close is stays = subst (λ (x : PairView). OwnsEach u x items) (sym stays) owns
  owns_end owns ending.End is stays = subst (λ (x : PairView). OwnsEach u x items) (sym stays) owns
  owns_end owns ending.Long is stays = subst (λ (x : PairView). OwnsEach u x items) (sym stays) owns
  owns_end owns ending.ReadFault is stays = subst (λ (x : PairView). OwnsEach u x items) (sym stays) owns
  owns_end owns ending.SinkFault is stays = absurd is

  -- where it halted
  pub halts_after : GoesOn u v → (how : Ending) (is : EndsSo how b c x y (HaltsBy v w)) (p : Pair) → StandsFor u p → (d : List Sector) → IsRootOf d u.volume.root
      → IfHalted (outcome_of how) (λ why. EndsAfter d p (begun_lines (HaltsBy v w) b c x y how is items) (length items) (length (begun_lines (HaltsBy v w) b c x y how is items)) w.to.disk)
  halts_after goes (ending.Halted why) is p stands d of_root =
      let there = (leads p stands).1.to_is.stands in
      ends_more u v w items is.1 p d (goes.same_root ∙ of_root) there.sectors there.revealed (is.4.1 (after_lines p items) (leads p stands).1).1
  halts_after goes ending.Close is p stands d of_root = tt
  halts_after goes ending.End is p stands d of_root = tt
  halts_after goes ending.Long is p stands d of_root = tt
  halts_after goes ending.ReadFault is p stands d of_root = tt
  halts_after goes ending.SinkFault is p stands d of_root = tt

-- it may be asked still, unless it halted
pub open_at : (how : Ending) (v w : PairView) → StaysOpen (turn.Ends how) v w → MayBeAsked v → IsOpenAt how w
open_at (ending.Halted why) v w stays asked = tt
open_at ending.Close v w stays asked = subst MayBeAsked (sym stays) asked
open_at ending.End v w stays asked = subst MayBeAsked (sym stays) asked
open_at ending.Long v w stays asked = subst MayBeAsked (sym stays) asked
open_at ending.ReadFault v w stays asked = subst MayBeAsked (sym stays) asked
open_at ending.SinkFault v w stays asked = subst MayBeAsked (sym stays) asked

-- a halt shows why, after other lines
pub turn_halts : (how : Ending) {u v : PairView} (w : PairView) → GoesOn u v → IfHalts (turn.Ends how) (ShowsHalt v.from.disk v.to.disk w.from.disk w.to.disk)
    → IfHalted (outcome_of how) (ShowsHalt u.from.disk u.to.disk w.from.disk w.to.disk)
turn_halts (ending.Halted why) w goes shows = halt_after w.from.disk w.to.disk goes.from.went goes.to.went why shows
turn_halts ending.Close w goes shows = tt
turn_halts ending.End w goes shows = tt
turn_halts ending.Long w goes shows = tt
turn_halts ending.ReadFault w goes shows = tt
turn_halts ending.SinkFault w goes shows = tt
