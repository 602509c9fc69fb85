use Rattle.space_tables.proofs.Right.{found_holds, one_found}
use Rattle.space_tables.proofs.projection.index_of.Goals as goal

pub returns-in-Ok-Entry-clause-found : goal.returns-in-Ok-Entry-clause-found
returns-in-Ok-Entry-clause-found g c = λ slots xs ss h are long inside.
    found_holds h.bytes slots xs h.are ss are c.args.count c.args.page c.requires.few long inside c.look_up_record.new.into c.in-Ok-Entry.index (rw c.in-Ok-Entry.field-0-is at (c.in-Ok-Entry.ensures.answer h.bytes h.revealed))

pub returns-in-Ok-Before-clause-found : goal.returns-in-Ok-Before-clause-found
returns-in-Ok-Before-clause-found g c = λ slots xs ss h are long inside.
    absurd (one_found h.bytes slots xs h.are ss are c.args.count c.args.page c.requires.few long inside c.look_up_record.new.into (rw c.in-Ok-Before.field-0-is at (c.in-Ok-Before.ensures.answer h.bytes h.revealed)))
