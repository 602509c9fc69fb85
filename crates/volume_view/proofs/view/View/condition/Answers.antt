use Rattle.std.proofs.Common.{◌∙◌, Bool, true, false, Some, sym, ap}
use Rattle.std.proofs.lemmas.Bool.{eqb-true, eq-eqb, true≢false}
use Rattle.volume_view.proofs.OrderLemmas.{root_closed, says_sound, sound_right, sound_placed}
use Rattle.volume_view.proofs.view.View.condition.Goals as goal

pub returns-else-not-says_placed : goal.returns-else-not-says_placed
returns-else-not-says_placed g c = λ d s view here.
    let root = root_closed d s c.args.self.now.root (view.root s here) true (sym c.closed_by.ensures ∙ c.in-Some-true.is ∙ ap (λ (b : Bool). Some b) c.in-Some-true.field-0-test) in
    says_sound c.sound_when_closed.ensures.by_room c.valid_roots_pass.ensures d s c.args.self.now view here root.0 (eqb-true _ 1 root.1) (c.says_right.ensures.0 c.if-not-says_right.false) (c.says_placed.ensures.0 c.if-not-says_placed.false)

pub returns-then-not-says_right : goal.returns-then-not-says_right
returns-then-not-says_right g c = λ d s view here.
    let root = root_closed d s c.args.self.now.root (view.root s here) true (sym c.closed_by.ensures ∙ c.in-Some-true.is ∙ ap (λ (b : Bool). Some b) c.in-Some-true.field-0-test) in
    (root.0, eqb-true _ 1 root.1, λ sound. true≢false (sym (c.says_right.ensures.1 (sound_right c.sound_when_closed.ensures.by_room c.valid_roots_pass.ensures d s c.args.self.now view here sound)) ∙ c.if-not-says_right.true))

pub returns-then-not-says_placed : goal.returns-then-not-says_placed
returns-then-not-says_placed g c = λ d s view here.
    let root = root_closed d s c.args.self.now.root (view.root s here) true (sym c.closed_by.ensures ∙ c.in-Some-true.is ∙ ap (λ (b : Bool). Some b) c.in-Some-true.field-0-test) in
    (root.0, eqb-true _ 1 root.1, λ sound. true≢false (sym (c.says_placed.ensures.1 (sound_placed c.sound_when_closed.ensures.by_room c.valid_roots_pass.ensures d s c.args.self.now view here root.0 sound)) ∙ c.if-not-says_placed.true))

pub returns-in-Some-false : goal.returns-in-Some-false
returns-in-Some-false g c = λ d s view here.
    let root = root_closed d s c.args.self.now.root (view.root s here) false (sym c.closed_by.ensures ∙ c.in-Some-false.is ∙ ap (λ (b : Bool). Some b) c.in-Some-false.field-0-test) in
    (root.0, λ closed. true≢false (sym (eq-eqb _ 1 closed) ∙ root.1))
