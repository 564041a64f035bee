-- The modules with the grammar of options and operands as POSIX states it, and with the theorems by which the parsed
-- command is that of the grammar.
pub mod Args
pub mod Theorems
