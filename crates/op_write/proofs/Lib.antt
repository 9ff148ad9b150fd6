-- Mathematics of the written text; no function of src/ is named.
pub mod ExpressionLaws
pub mod NeverLaws
pub mod WrittenText
pub mod Outcomes
