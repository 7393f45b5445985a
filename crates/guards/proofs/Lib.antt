pub mod ModeLaws
pub mod RowsLaws
