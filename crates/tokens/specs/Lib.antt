pub mod Lexeme
pub mod Piece
