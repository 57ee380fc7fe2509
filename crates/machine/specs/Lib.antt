pub mod Reports
pub mod Turns
pub mod Calls
pub mod Ends
pub mod Guarantee
pub mod Views
pub mod Uses
