-- The law of a lane: what is on its way, unread, may be written and is owed is the window.
pub mod LaneLaws
pub mod StreamFacts
pub mod StreamLaws
pub mod MachineLaws
