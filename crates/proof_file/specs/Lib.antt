pub mod FileCheck
