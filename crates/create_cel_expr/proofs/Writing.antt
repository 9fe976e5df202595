-- Pieces that are written one after the other, where there is room for all. Assumes nothing.
use Rattle.pieces.specs.Laws.{wrote_then, fits-first, fits-then}

pub ruleset writing = (wrote_then, fits-first, fits-then)
