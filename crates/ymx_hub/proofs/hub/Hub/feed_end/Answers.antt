use Rattle.ymx_hub.proofs.hub.Hub.feed_end.Goals as goal

pub returns-clause-booked : goal.returns-clause-booked
returns-clause-booked g c = c.feed_end-ended.ensures.booked
