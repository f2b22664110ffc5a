pub mod History
pub mod Rule
pub mod Map
pub mod Examples
