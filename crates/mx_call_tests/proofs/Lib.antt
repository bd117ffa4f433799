pub mod RestLaws
pub mod WorldLaws
