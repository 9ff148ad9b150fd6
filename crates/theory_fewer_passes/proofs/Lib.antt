-- The proof of what specs/ claims of Render's answers before and since Paper 13.
pub mod FewerPasses
