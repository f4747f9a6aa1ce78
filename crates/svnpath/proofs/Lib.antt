pub mod BeneathLemmas
pub mod TextLemmas
pub mod UrlLemmas
pub mod ParsedTexts
pub mod TextOrders
pub mod ListingLemmas
