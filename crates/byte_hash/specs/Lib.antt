pub mod ByteHash
