pub mod Bits
pub mod BlocksSound
pub mod BlocksComplete
pub mod BlocksExactly
pub mod RecordsSound
pub mod RecordsComplete
pub mod RecordsExactly
pub mod Messages
