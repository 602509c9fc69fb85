use Rattle.std.proofs.Common.{rules, refl}
use Rattle.image_disk.proofs.ImageWords.{path_after_colon, path_before_colon}
use Rattle.image_disk.proofs.word.image_of.Goals as goal

pub returns-in-None : goal.returns-in-None
returns-in-None c = (refl, path_after_colon c.args.word.now c.in-Some.path.now (search rules) (search rules) c.in-None.ensures.none)

pub returns-in-None-count_of : goal.returns-in-None-count_of
returns-in-None-count_of c = (refl, path_before_colon c.args.word.now c.in-Some.count.now (search rules) (search rules) c.in-None-count_of.ensures.none)
