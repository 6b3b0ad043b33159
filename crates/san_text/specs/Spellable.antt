-- Inner: no public clause cites this file.
-- What can be spelled of an origin.
use Rattle.san_text.specs.Small.{IsSmall}
use Rattle.san_text.specs.declared.grammar.San.{San}
use Rattle.san_text.specs.declared.grammar.San.TheVariants.{Short, Long, Goes}

-- a file and a rank that are told are of the board
abbrev pub IsSmallSaid : San → Type 0
IsSmallSaid Short = Unit {0}
IsSmallSaid Long = Unit {0}
IsSmallSaid (Goes d) = IsSmall d.file × IsSmall d.rank
