pub mod RoomLaws
pub mod PiecesLemmas
pub mod PageLemmas
pub mod OpenedLaws
pub mod FileNameLaws
pub mod FileFaultLaws
pub mod ConsumedLaws
pub mod EndLaws
