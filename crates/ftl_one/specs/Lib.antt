-- What public contracts rest on.
pub mod Stock
pub mod OneFtl
pub mod Laws
pub mod Collections
-- How the layer keeps its pages and roles: internal.
pub mod Entries
pub mod Store
pub mod Lawful
