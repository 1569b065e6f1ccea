pub mod TargetNodes
