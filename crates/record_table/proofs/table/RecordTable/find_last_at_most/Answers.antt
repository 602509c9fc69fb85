use Rattle.record_table.proofs.table.RecordTable.find_last_at_most.Goals as goal

pub returns-in_err-index-clause-cost : goal.returns-in_err-index-clause-cost
returns-in_err-index-clause-cost g c = λ t le. c.look_up.ensures.cost t (λ n few met. rw met le)

pub returns-in_err-index-clause-same_list : goal.returns-in_err-index-clause-same_list
returns-in_err-index-clause-same_list g c = λ xs h. record { bytes = h.bytes; revealed = c.look_up.ensures.unchanged h.bytes h.revealed; are = h.are }

pub returns-in-Entry-clause-cost : goal.returns-in-Entry-clause-cost
returns-in-Entry-clause-cost g c = λ t le. c.look_up.ensures.cost t (λ n few met. rw met le)

pub returns-in-Entry-clause-same_list : goal.returns-in-Entry-clause-same_list
returns-in-Entry-clause-same_list g c = λ xs h. record { bytes = h.bytes; revealed = c.look_up.ensures.unchanged h.bytes h.revealed; are = h.are }

pub returns-in-Before-clause-cost : goal.returns-in-Before-clause-cost
returns-in-Before-clause-cost g c = λ t le. c.look_up.ensures.cost t (λ n few met. rw met le)

pub returns-in-Before-clause-same_list : goal.returns-in-Before-clause-same_list
returns-in-Before-clause-same_list g c = λ xs h. record { bytes = h.bytes; revealed = c.look_up.ensures.unchanged h.bytes h.revealed; are = h.are }
