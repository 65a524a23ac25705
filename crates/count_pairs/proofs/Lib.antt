pub mod BitLaws
pub mod ChangeLaws
pub mod CountLaws
