use Rattle.std.proofs.Common.{◌∙◌, drop, arith}
use Rattle.std.proofs.lemmas.List.{length-drop, take_all}
use Rattle.image_disk.proofs.bytes.parted.Goals as goal

pub returns-clause-page : goal.returns-clause-page
returns-clause-page c = let bytes = c.args.bytes.now in
    c.copy_from_slice.ensures.after ∙ take_all 512 (drop 16 bytes) (omega (arith, length-drop 16 bytes, c.told-bytes))
