pub mod Goes
pub mod Later
pub mod Noted
pub mod Noting
pub mod Spelling
pub mod StringLemmas
