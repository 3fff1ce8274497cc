pub mod StreamsSeen
pub mod Faults
pub mod LayersFit
pub mod SceneCommitted
pub mod Screens
pub mod CreationsRefused
pub mod CallsAnswered
pub mod ObjectsDestroyed
