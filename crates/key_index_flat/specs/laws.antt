pub mod ArrayLaws
pub mod ByteOrder
pub mod CapOrder
pub mod Laws
pub mod NumberOrder
