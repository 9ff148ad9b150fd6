-- Mathematics of one group's passes and of counting all of them; no function of src/ is named.
pub mod PairLaws
pub mod GroupLaws
pub mod PassLaws
pub mod CountLaws
