pub mod Lifted
