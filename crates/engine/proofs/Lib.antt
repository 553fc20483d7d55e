pub mod SpreadLaws
pub mod StretchLaws
pub mod PaintLaws
pub mod MarkLaws
pub mod FrontierLaws
pub mod ReachLaws
pub mod WholeLaws
pub mod VisitLaws
