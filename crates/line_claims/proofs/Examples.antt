-- Lines that are claims and lines that are none, and unmoves of one move.
use Rattle.std.proofs.Common.{◌≡◌, true, false, [], ◌∷◌, refl, Some, None}
use Rattle.std.proofs.lemmas.Bool.{and_from}
use Rattle.std.specs.Prelude.{codes}
use Rattle.board_base.specs.declared.castles.Castle.TheVariants.{WhiteShort, BlackShort}
use Rattle.board_base.specs.declared.men.Kind.TheVariants.{Knight, Pawn}
use Rattle.board_base.specs.declared.moves.Move.{Move}
use Rattle.board_base.specs.Texts.{unmove_from}
use Rattle.board_base.proofs.Equal.{move_self}
use Rattle.fen_text.specs.Parts.{parted}
use Rattle.unmove_gen.specs.Listed.{taking, taking_en_passant}
use Rattle.line_claims.specs.declared.claims.LineClaim.TheVariants.{NotBoth, Line}
use Rattle.line_claims.specs.Due.{is_other}
use Rattle.line_claims.specs.Lines.{line_claim_of, steps_of}

-- a pawn that was captured en passant is another capture than a pawn on the target
passing_pawn : (m : Move) → is_other (taking m (Some Pawn)) (taking_en_passant m) ≡ true
passing_pawn m = and_from _ _ (move_self m) refl

both_kings : line_claim_of (codes "claim notboth K k") ≡ Some (NotBoth WhiteShort BlackShort)
unfolding line_claim_of
both_kings = refl

out_of_order : line_claim_of (codes "claim notboth k K") ≡ None
unfolding line_claim_of
out_of_order = refl

twice : line_claim_of (codes "claim notboth k k") ≡ None
unfolding line_claim_of
twice = refl

-- the last move, and the one before it
two_steps : line_claim_of (codes "claim line d7d5 e2e3xn") ≡ Some (Line (record { mv = record { from = 51; to = 35; promo = None }; captured = None; ep = false } ∷ record { mv = record { from = 12; to = 20; promo = None }; captured = Some Knight; ep = false } ∷ []))
unfolding line_claim_of steps_of parted unmove_from
two_steps = refl

no_step : line_claim_of (codes "claim line ") ≡ None
unfolding line_claim_of steps_of parted unmove_from
no_step = refl

two_spaces : line_claim_of (codes "claim line d7d5  e2e3") ≡ None
unfolding line_claim_of steps_of parted unmove_from
two_spaces = refl
