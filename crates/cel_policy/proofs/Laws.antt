-- What is true of the definitions. A reader who believes the checker need not read on.

-- lists and places
pub mod Each
pub mod Places
-- the length of a printed text
pub mod Lengths
-- the mapping does not look into strings; what it can give
pub mod Natural
pub mod Shape
pub mod Counts
-- a printed text is a value of the grammar, and is read as its policy
pub mod Written
pub mod PrintedTree
pub mod RoundTrip
pub mod Ascii
-- what is read is proper, and prints from its own table
pub mod Readable
pub mod SpanTable
-- what judging says of a policy, and where 22 falls away
pub mod Judging
-- the entries: their refusals, demand 3, canonicalising, 8,192 bytes
pub mod Refusals
pub mod Entries
pub mod Canonical
pub mod Limits
