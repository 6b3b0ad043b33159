-- Inner: no public clause cites this file.
-- Kinds of inputs.
use Rattle.retro_top.specs.declared.rows.InputKind.{InputKind}
use Rattle.retro_top.specs.declared.rows.InputKind.TheVariants.{Certificate, Proof, Game, Notation, Moves}

-- it is a certificate, or may be one
abbrev pub IsCertificate : InputKind → Type 0
IsCertificate Certificate = Unit {0}
IsCertificate Proof = Unit {0}
IsCertificate kind = ⊥

-- it has the moves of a game, or a game in algebraic notation
abbrev pub IsGame : InputKind → Type 0
IsGame Game = Unit {0}
IsGame Notation = Unit {0}
IsGame Moves = Unit {0}
IsGame kind = ⊥
