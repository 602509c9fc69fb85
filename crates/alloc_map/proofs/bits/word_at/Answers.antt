use Rattle.std.proofs.Common.{◌/◌, refl, sym, ◌∙◌}
use Rattle.alloc_map.proofs.WordLemmas.{word_used, word_free}
use Rattle.alloc_map.proofs.bits.word_at.Goals as goal

pub returns-clause-used : goal.returns-clause-used
returns-clause-used c = λ is.
    word_used c.args.page.now (c.args.sector / 8) c.fits-page c.args.sector refl c.requires.whole (sym c.from_be_bytes.ensures ∙ is)

pub returns-clause-free : goal.returns-clause-free
returns-clause-free c = λ is.
    word_free c.args.page.now (c.args.sector / 8) c.fits-page c.args.sector refl c.requires.whole (sym c.from_be_bytes.ensures ∙ is)
