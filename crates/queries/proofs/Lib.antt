pub mod EntryLaws
pub mod ListingLaws
pub mod EntriesCode
pub mod MeetingLaws
pub mod SummaryLaws
pub mod ReadingLaws
