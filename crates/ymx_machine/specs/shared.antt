-- What the queue machine and the session share on purpose: limits, the state of an end, the reply to a
-- call on a stream, lists by number, steps and answers. A mistake here would stand in both, so no
-- comparison of the two can show it: the worked examples do.
pub mod Events
pub mod Evidence
pub mod Limits
pub mod Lists
pub mod Phases
pub mod Replies
pub mod Steps
