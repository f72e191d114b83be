-- What a term can take is what is listed.
pub mod FreeTaken
pub mod FreeNext
