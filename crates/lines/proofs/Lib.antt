-- Lemmas on what the contracts cite.
mod Fields
mod Parts
