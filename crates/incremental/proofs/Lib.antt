pub mod StateLaws
pub mod FieldLaws
pub mod PieceLaws
pub mod PassLaws
pub mod TakeLaws
pub mod RecordLaws
pub mod FeedLaws
pub mod RoundTrip
