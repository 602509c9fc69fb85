use Rattle.std.proofs.Common.{refl}
use Rattle.volume_view.proofs.pages.read_page.Goals as goal

pub returns-in-Ok-clause-page : goal.returns-in-Ok-clause-page
returns-in-Ok-clause-page g c = λ d revealed. record { s = (c.in-Ok.field-0, c.read.new.page); here = c.in-Ok.ensures.found d revealed; is = refl }
