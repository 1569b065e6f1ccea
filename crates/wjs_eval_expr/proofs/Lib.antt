pub mod NoExpr
pub mod OperationLines
pub mod Passing
