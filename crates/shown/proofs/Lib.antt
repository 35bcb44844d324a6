pub mod Adler
