-- The statement for those who evaluate gates in their own order.
pub mod AnyOrder
