pub mod SpelledAgain
pub mod LinesAgain
pub mod RowsAgain
pub mod HexSound
pub mod RowsSound
