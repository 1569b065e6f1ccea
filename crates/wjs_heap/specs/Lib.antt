pub mod Heap
pub mod Acts
pub mod Means
pub mod HeapLaws
