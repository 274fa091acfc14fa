use Rattle.ymx_hub.proofs.hub.Hub.reset.Goals as goal

pub returns-clause-booked : goal.returns-clause-booked
returns-clause-booked g c = c.reset-was_reset.ensures.booked
