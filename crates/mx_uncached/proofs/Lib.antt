pub mod LeafLaws
pub mod CallLaws
pub mod TurnLaws
pub mod RunLaws
pub mod Examples
