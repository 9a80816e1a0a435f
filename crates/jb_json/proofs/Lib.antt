pub mod Printing
pub mod QuotedTexts
pub mod ReadingBack
