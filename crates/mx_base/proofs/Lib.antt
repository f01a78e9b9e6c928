pub mod AsciiLemmas
pub mod CalendarLemmas
pub mod IdentifierLemmas
pub mod RoundTrips
pub mod TextLemmas
pub mod Worked
pub mod RowsProofs
