-- Why a stream is offered or refused.
pub mod SynCauses
