pub mod Installs
