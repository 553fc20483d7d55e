pub mod RunListLaws
