-- A game that contradicts a claim reaches its target.
use Rattle.std.proofs.Common.{inl, inr, List, sym, subst}
use Rattle.std.specs.Prelude.{IfSome, IsTrue, Option, Some}
use Rattle.board_base.specs.Game.{unmoved}
use Rattle.board_base.proofs.Rights.{held_or_added}
use Rattle.board_base.specs.Rights.{Rights, holds, with_castling}
use Rattle.board_base.specs.declared.castles.Castle.{Castle}
use Rattle.board_base.specs.declared.moves.Move.{Move}
use Rattle.query_base.specs.Asked.{Asked}
use Rattle.query_base.specs.Reach.{Contradicts, EndsWith, Holds, Reaches}
use Rattle.query_base.specs.Targets.{target}
use Rattle.query_base.specs.declared.claims.Claim.{Claim}
use Rattle.query_base.specs.declared.claims.Claim.TheVariants.{Illegal, Last, Lost, Ep}
use Rattle.query_base.proofs.EnPassant.{ep-reaches}
use Rattle.cert_text.specs.Certificate.{Certificate}
use Rattle.cert_checker.specs.Proving.{ProvesClaim, target_of}
use Rattle.cert_checker.proofs.Sound.{sound}

-- a game that reaches a query also reaches one that asks for other castlings and bars another move, where it keeps to these
asked-otherwise : (g : List Move) (q : Asked) (held : Rights) (barred : Option Move) → Reaches g q → ((x : Castle) → IsTrue (holds held x) → IsTrue (unmoved q.odds g x)) → IfSome barred (λ m. EndsWith g m → ⊥) → Reaches g (record q { held = held; barred = barred })
asked-otherwise g q held barred r kept other = record { odds = r.odds; game = r.game; board = r.board; turn = r.turn; held = kept; only = r.only; barred = other; clock = r.clock }

pub contradiction-reaches : (g : List Move) (claim : Claim) (q : Asked) → Contradicts g claim q → Reaches g (target q claim)
contradiction-reaches g Illegal q h = h
contradiction-reaches g (Last m) q h = asked-otherwise g q q.held (Some m) h.0 h.0.held h.1
contradiction-reaches g (Lost x) q h = let r : Reaches g q = h.0 in asked-otherwise g q (with_castling q.held x) q.barred r (λ c there. elim (held_or_added q.held x c there) [
  | inl same ↦ subst (λ (y : Castle). IsTrue (unmoved q.odds g y)) (sym same) h.1
  | inr before ↦ r.held c before
]) r.barred
contradiction-reaches g (Ep m) q h = ep-reaches g m q h

-- no game contradicts the claim of a certificate that proves it
pub proved_holds : (cert : Certificate) → ProvesClaim cert → Holds cert.claim cert.query
proved_holds cert proves g contradicts = sound cert.root (target_of cert) proves g (contradiction-reaches g cert.claim cert.query contradicts)
