pub mod TagCodes
