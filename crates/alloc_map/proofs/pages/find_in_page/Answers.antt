use Rattle.std.proofs.Common.{◌-◌, ◌+◌, ◌%◌, ◌<◌, not, arith}
use Rattle.alloc_map.proofs.PageLemmas.{all_in_page, found_in_page}
use Rattle.alloc_map.proofs.pages.find_in_page.Goals as goal

pub returns-clause-before : goal.returns-clause-before
returns-clause-before g c = λ b h.
    all_in_page b c.read.new.into c.args.at (c.in_ok-read.ensures.read b h) (not c.args.used) c.find-found.result (omega (arith, c.find-found.ensures.range, c.requires.one_page, c.requires.order)) c.find-found.ensures.before

pub returns-clause-found : goal.returns-clause-found
returns-clause-found g c = λ b h below.
    let low = c.find-found.ensures.range.0 in
    let prefix : c.find-found.result < c.args.at % 4096 + (c.args.stop - c.args.at) = omega (arith, below, low) in
    found_in_page b c.read.new.into c.args.at (c.in_ok-read.ensures.read b h) c.args.used c.find-found.result low (omega (arith, prefix, c.requires.one_page, c.requires.order)) (c.find-found.ensures.found prefix)
