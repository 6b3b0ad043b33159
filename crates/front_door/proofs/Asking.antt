-- Which commands read a game, and which a certificate.
use Rattle.std.proofs.Common.{ℕ, List, inl, inr, subst}
use Rattle.std.specs.Global.{Global}
use Rattle.std.specs.Prelude.{String}
use Rattle.retro_top.specs.Names.{Begin, IsReadBy}
use Rattle.retro_top.specs.declared.rows.InputKind.{InputKind}
use Rattle.retro_top.specs.declared.rows.InputKind.TheVariants.{Certificate, Proof, Game, Notation, Moves}
use Rattle.front_door.specs.Hints.{AskForCertificate, AskForGame}
use Rattle.front_door.specs.Kinds.{IsCertificate, IsGame}

pub asks-game : (words : List (String Global)) (name : List ℕ) (kind : InputKind) → Begin words name → IsReadBy kind name → IsGame kind → AskForGame words
asks-game words name Game begin read game = inl (subst (Begin words) read begin)
asks-game words name Notation begin read game = inr (inl (subst (Begin words) read begin))
asks-game words name Moves begin read game = inr (inr (subst (Begin words) read begin))
asks-game words name _ begin read game = absurd game

pub asks-certificate : (words : List (String Global)) (name : List ℕ) (kind : InputKind) → Begin words name → IsReadBy kind name → IsCertificate kind → AskForCertificate words
asks-certificate words name Certificate begin read certificate = inl (subst (Begin words) read begin)
asks-certificate words name Proof begin read certificate = inr (subst (Begin words) read begin)
asks-certificate words name _ begin read certificate = absurd certificate
