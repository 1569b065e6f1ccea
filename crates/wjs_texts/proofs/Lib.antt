pub mod Decimals
mod Finding
mod Hashes
mod Letters
mod Standing
mod Transcoding
