-- Images: what one is, what a paint leaves, images by the number of their stream, and what an image is once its lent
-- bytes come back.

-- What is promised: the words that the clauses of public functions stand on.
pub mod Bitmap
pub mod Paints
pub mod Contents
pub mod Lending
-- What callers prove with: words and facts that other crates use.
pub mod Pieces
pub mod Drawn
pub mod Listed
-- What is kept inside.
pub mod Copies
pub mod Alike
