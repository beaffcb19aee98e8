pub mod SetWithin
