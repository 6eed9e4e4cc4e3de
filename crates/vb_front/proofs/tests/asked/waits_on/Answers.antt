use Rattle.vb_front.proofs.tests.asked.waits_on.Goals as goal

pub tried-requires-2-clause-prior : goal.tried-requires-2-clause-prior
tried-requires-2-clause-prior c =
    c.tried.ensures.asked c.in-Fetch.ticket (let some = c.in_ok-first.was in let waits = c.in-Fetch.is in cc)

pub tried-requires-3-clause-prior : goal.tried-requires-3-clause-prior
tried-requires-3-clause-prior c =
    c.tried-2.ensures.asked c.in-Fetch-again.ticket (let some = c.in_ok-again.was in let waits = c.in-Fetch-again.is in cc)
