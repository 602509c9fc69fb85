pub mod Image
pub mod ImageWord
