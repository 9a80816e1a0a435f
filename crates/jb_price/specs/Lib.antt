pub mod Certificate
pub mod Claims
pub mod Faults
pub mod FirstUndercut
pub mod Grammar
pub mod ReadBack
pub mod Sum
pub mod Verdict
