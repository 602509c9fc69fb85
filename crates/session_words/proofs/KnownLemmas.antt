-- Known pages come into frames.
use Rattle.std.proofs.Common.{inl, inr, ℕ, List, refl, ◌∙◌, ap, subst}
use Rattle.frame_pool.specs.declared.home.Home.{Home}
use Rattle.frame_pool.specs.Frames.{Slots}
use Rattle.flat_machine.specs.declared.space.Space.{Space}
use Rattle.session_words.specs.FrameLaws.{HasFrames, BringsKnown, IsKnown}

pub frames_brought : (before after : Slots) (spaces : List Space) → BringsKnown spaces before after → HasFrames before spaces → HasFrames after spaces
frames_brought before after spaces brings frames = record {
  known = λ id page there. elim (brings.homes there.frame.home (record { slot = there.slot; frame = there.frame; has = there.has; at = refl })) [
    | inl was ↦ frames.known id page (record { slot = was.slot; frame = was.frame; has = was.has; same_id = ap (λ (h : Home). h.id) was.at ∙ there.same_id; same_page = ap (λ (h : Home). h.page) was.at ∙ there.same_page })
    | inr new ↦ subst (λ (n : ℕ). IsKnown spaces id n) there.same_page (subst (λ (n : ℕ). IsKnown spaces n there.frame.home.page) there.same_id new)
  ];
}
