-- The rules' stages over two files, and the laws by which the rules follow each other.
pub mod Judge
