pub mod TagDelivery
