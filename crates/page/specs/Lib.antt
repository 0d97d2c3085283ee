-- Laws for words and lines on a page.
pub mod Page
