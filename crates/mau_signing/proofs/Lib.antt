pub mod Refusing
pub mod Declaring
pub mod Signing
pub mod OneSignature
