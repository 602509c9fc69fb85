use Rattle.labelled_disk.specs.declared.evidence.Halt.TheVariants as halt
use Rattle.documents.proofs.CourseLemmas.{led_made}
use Rattle.documents.proofs.PutLemmas.{made_by}
use Rattle.embedded.proofs.SpendLemmas.{spends_called}
use Rattle.documents.proofs.UnseenLemmas.{stays_create}
use Rattle.documents.proofs.RoomLemmas.{made_full}
use Rattle.documents.proofs.putting.new_file.Goals as goal

pub returns-clause-led : goal.returns-clause-led
returns-clause-led g c =
    led_made c.args.engine.now c.create-made.new.self c.create-made.result c.file_of.result
    c.create-made.ensures c.file_of.ensures.ok

pub returns-clause-created : goal.returns-clause-created
returns-clause-created g c = (c.args.engine.now, c.create-made.result, c.create-made.ensures)

pub returns-clause-stopped : goal.returns-clause-stopped
returns-clause-stopped g c = λ why is. c.create-made.ensures.stopped why (c.file_of.ensures.halted why is)

pub returns-clause-made : goal.returns-clause-made
returns-clause-made g c = λ m stands.
    made_by m c.args.engine.now c.create-made.new.self c.create-made.result c.file_of.result c.create-made.ensures
    c.file_of.ensures.file c.file_of.ensures.code stands

pub returns-clause-spends : goal.returns-clause-spends
returns-clause-spends g c = spends_called _ c.args.engine.now c.create-made.new.self _ c.create-made.ensures

pub returns-clause-cause : goal.returns-clause-cause
returns-clause-cause g c = λ is. c.create-made.ensures.cause (c.file_of.ensures.halted halt.Disk is)

pub returns-clause-stops : goal.returns-clause-stops
returns-clause-stops g c = λ id.
    stays_create id _ _ c.args.engine.now c.create-made.new.self _ c.create-made.ensures

pub returns-clause-full : goal.returns-clause-full
returns-clause-full g c = λ m stands is.
    made_full m c.args.engine.now c.create-made.new.self c.create-made.result c.file_of.result c.create-made.ensures
    c.file_of.ensures.file c.file_of.ensures.code stands is
