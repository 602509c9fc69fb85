use Rattle.std.proofs.Common.{◌≡◌, ◌<◌, ap, length, get_or, refl, rules, Err}
use Rattle.std.proofs.lemmas.Option.{slice_get-get_or}
use Rattle.frame_pool.specs.declared.home.Home.{Home}
use Rattle.swapper_kernel.specs.Homes.{IsAmong, no_home}
use Rattle.swapper_kernel.specs.GoesLaws.{swaps_then, swaps_stands, went_itself}
use Rattle.swapper_kernel.specs.CourseLaws.{steps_then, steps_wider}
use Rattle.swapper_kernel.specs.HaltLaws.{brings_then, brings_wider, halts_later}
use Rattle.swapper_kernel.proofs.BringLemmas.{there_more, bring_more, stays_idle, among_at, all_there, all_shown}
use Rattle.swapper_kernel.proofs.swapper.Swapper.bring.Goals as goal

pub loop-k-preserved : goal.loop-k-preserved
loop-k-preserved g c =
    let homes = c.args.homes.now in
    let k = c.loop-k.k in
    let nothing : Home = record { sector = 0; id = 0; page = 0 } in
    let there = c.in_ok-fetch.ensures.there in
    let below : k < length homes = c.loop-k-test.true in
    bring_more c.loop-k.invariant (get_or homes k nothing) (slice_get-get_or homes k nothing below) _ _ _ c.fetch.ensures.moves.swaps c.fetch.ensures.moves.steps c.fetch.ensures.moves.brings c.fetch.ensures.layout c.fetch.ensures.cost
    (λ i has. let e = c.fetch.ensures.idle i has in (ap g.D.Disk.state e.0, e.1))
    (there_more homes c.loop-k.self.pool c.fetch.new.self.pool k (get_or homes 0 nothing) (get_or homes k nothing) c.requires.run.row (slice_get-get_or homes 0 nothing c.requires.run.some) (slice_get-get_or homes k nothing below) below
    c.loop-k.invariant.there c.fetch.ensures.stays c.in_ok-fetch.field-0 (there.0, there.1, (there.2, there.3)))

pub returns-in_err-fetch-clause-sound : goal.returns-in_err-fetch-clause-sound
returns-in_err-fetch-clause-sound g c = λ m h named.
    let homes = c.args.homes.now in
    let same : c.from_residual.result ≡ Err c.in_err-fetch.field-0.0 = search rules in
    rw same (c.in_err-fetch.ensures.sound m (swaps_stands c.loop-k.invariant.swaps m h) (named _ (among_at homes c.loop-k.k _ c.loop-k-test.true refl)))

pub returns-in_err-fetch-clause-cause : goal.returns-in_err-fetch-clause-cause
returns-in_err-fetch-clause-cause g c =
    let homes = c.args.homes.now in
    let same : c.from_residual.result ≡ Err c.in_err-fetch.field-0.0 = search rules in
    let out = c.loop-k.invariant.swaps.makes in
    let later = halts_later _ (IsAmong homes) (λ h own. among_at homes c.loop-k.k h c.loop-k-test.true own) out.went out.wrote c.loop-k.invariant.brings
    (went_itself (g.D.Disk.state c.fetch.new.self.disk)) c.in_err-fetch.field-0.0 c.in_err-fetch.ensures.cause in
    rw same later

pub returns-in_err-fetch-clause-idle : goal.returns-in_err-fetch-clause-idle
returns-in_err-fetch-clause-idle g c =
    let homes = c.args.homes.now in
    let k = c.loop-k.k in
    let nothing : Home = record { sector = 0; id = 0; page = 0 } in
    stays_idle c.loop-k.invariant (get_or homes k nothing) (slice_get-get_or homes k nothing c.loop-k-test.true) _ _ (λ i has. let e = c.fetch.ensures.idle i has in (ap g.D.Disk.state e.0, e.1))

pub returns-clause-pages : goal.returns-clause-pages
returns-clause-pages g c = λ m h.
    let homes = c.args.homes.now in
    let bringing = c.loop-k.invariant in
    all_shown homes _ c.loop-k.self.pool m (swaps_stands bringing.swaps m h) (all_there homes c.loop-k.self.pool c.loop-k.k c.loop-k-test.false bringing.there)

pub returns-in_err-fetch-clause-moves : goal.returns-in_err-fetch-clause-moves
returns-in_err-fetch-clause-moves g c = record {
  swaps = swaps_then c.loop-k.invariant.swaps c.fetch.ensures.moves.swaps;
  steps =
      let homes = c.args.homes.now in
      steps_then c.loop-k.invariant.steps (steps_wider (IsAmong homes) no_home (λ h own. among_at homes c.loop-k.k h c.loop-k-test.true own) (λ h no. no) c.fetch.ensures.moves.steps);
  brings =
      let homes = c.args.homes.now in
      brings_then c.loop-k.invariant.brings (brings_wider (IsAmong homes) (λ h own. among_at homes c.loop-k.k h c.loop-k-test.true own) c.fetch.ensures.moves.brings);
}

pub returns-clause-moves : goal.returns-clause-moves
returns-clause-moves g c = record {
  swaps = c.loop-k.invariant.swaps;
  steps = c.loop-k.invariant.steps;
  brings = c.loop-k.invariant.brings;
}
