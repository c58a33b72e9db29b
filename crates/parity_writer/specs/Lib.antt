pub mod Room
pub mod WriterLaws
pub mod ShardLaws
pub mod CallLaws
