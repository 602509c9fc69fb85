use Rattle.space_tables.proofs.tables.SpaceTables.shows_file.Goals as goal

pub returns-clause-answer : goal.returns-clause-answer
returns-clause-answer g c = λ ss t. c.showing.ensures.answer ss t

pub returns-clause-right : goal.returns-clause-right
returns-clause-right g c = λ ss t. c.showing.ensures.right ss t
