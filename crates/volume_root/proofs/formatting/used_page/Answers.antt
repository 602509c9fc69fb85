use Rattle.std.proofs.Common.{◌≡◌, ℕ, ◌*◌, List, replicate, length, refl, ◌∙◌, ap, arith}
use Rattle.std.specs.Prelude.{slice_set}
use Rattle.volume_root.specs.Format.{used_byte, used_page}
use Rattle.volume_root.proofs.Filling.{filled, advance, complete}
use Rattle.volume_root.proofs.formatting.used_page.Goals as goal

pub loop-at-preserved : goal.loop-at-preserved
loop-at-preserved c =
    let long : length {A = ℕ} (replicate 512 0) ≡ 512 = refl in
    ap (λ (bytes : List ℕ). slice_set bytes c.loop-at.at c.used_byte.result) c.loop-at.invariant
    ∙ ap (λ (b : ℕ). slice_set (filled (used_byte c.args.used) (512 * c.args.page) (replicate 512 0) c.loop-at.at) c.loop-at.at b) c.used_byte.ensures
    ∙ advance (used_byte c.args.used) (512 * c.args.page) c.loop-at.at (replicate 512 0) (omega (arith, c.loop-at-test.true, long))

pub returns : goal.returns
unfolding used_page
returns c =
    let long : length {A = ℕ} (replicate 512 0) ≡ 512 = refl in
    let all : c.loop-at.at ≡ 512 = omega (arith, c.loop-at-test.false, c.loop-at.auto) in
    c.loop-at.invariant
    ∙ ap (λ (k : ℕ). filled (used_byte c.args.used) (512 * c.args.page) (replicate 512 0) k) all
    ∙ complete (used_byte c.args.used) (512 * c.args.page) 512 (replicate 512 0) (omega (arith, long))
