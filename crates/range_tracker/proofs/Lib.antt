pub mod OffsetsLemmas
pub mod RepliesLemmas
