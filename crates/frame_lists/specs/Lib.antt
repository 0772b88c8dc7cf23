pub mod Near
pub mod Items
pub mod Laws
