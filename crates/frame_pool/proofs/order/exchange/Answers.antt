use Rattle.frame_pool.proofs.OrderLemmas.{exchanged_order, exchanged_places}
use Rattle.frame_pool.proofs.order.exchange.Goals as goal

pub returns-clause-order : goal.returns-clause-order
returns-clause-order g c =
    rw (c.set_position-2.ensures, c.set_order-2.ensures, c.set_position.ensures, c.set_order.ensures, c.order-other.ensures, c.position-from.ensures)
    (exchanged_order c.args.table.now c.args.slot c.args.place c.requires.sized c.requires.order c.requires.slot c.requires.place)

pub returns-clause-moved : goal.returns-clause-moved
returns-clause-moved g c =
    rw (c.set_position-2.ensures, c.set_order-2.ensures, c.set_position.ensures, c.set_order.ensures, c.order-other.ensures, c.position-from.ensures)
    (exchanged_places c.args.table.now c.args.slot c.args.place c.requires.sized c.requires.order c.requires.slot c.requires.place)
