-- Lemmas on what the contracts cite.
mod Held
