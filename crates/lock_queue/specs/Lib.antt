pub mod Agreement
pub mod Links
pub mod LockTable
pub mod Order
pub mod Queues
pub mod Ready
