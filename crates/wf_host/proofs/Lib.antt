mod Taken
mod Asked
mod Ended
mod Frames
mod RowsCopied
mod Packed
mod NextPort
mod NotDeclared
