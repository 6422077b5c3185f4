pub mod ByteTrips
pub mod CountTables
