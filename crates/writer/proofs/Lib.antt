pub mod PartLaws
pub mod RecordBytes
pub mod RecordLaws
pub mod StateLaws
pub mod WriterRoundTrip
