pub mod LentArray
