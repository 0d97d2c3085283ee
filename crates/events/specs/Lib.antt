-- Laws for the ticks from one event to the next.
pub mod Events
