pub mod Pam
