pub mod ItemOrder
