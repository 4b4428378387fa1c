pub mod PushPop
pub mod Lengths
