-- What stayed of Render's answers, and what may be another.
pub mod FewerPasses
