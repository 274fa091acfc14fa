use Rattle.ymx_hub.proofs.hub.Hub.finish.Goals as goal

pub returns-clause-booked : goal.returns-clause-booked
returns-clause-booked g c = c.finish-finished.ensures.booked
