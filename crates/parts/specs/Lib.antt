-- A day file whose frame is without fault, with its counts in hand, and what is then known of each of its sections.
pub mod Of
