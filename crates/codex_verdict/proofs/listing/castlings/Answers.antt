use Rattle.std.proofs.Common.{◌∙◌, ap, List, [], ◌∷◌, ◌++◌}
use Rattle.board_base.specs.declared.castles.Castle.TheVariants.{WhiteShort, WhiteLong, BlackShort, BlackLong}
use Rattle.castle_history.specs.Homes.{are_at_home}
use Rattle.codex_verdict.specs.declared.kinds.Right.{Right}
use Rattle.codex_verdict.specs.declared.kinds.Right.TheVariants.{Castling}
use Rattle.codex_verdict.proofs.Gathered.{made, made-four}
use Rattle.codex_verdict.proofs.listing.castlings.Goals as goal

pub returns-clause-all : goal.returns-clause-all
returns-clause-all c =
    made-four (λ x. Castling x) (are_at_home c.args.board.now) WhiteShort WhiteLong BlackShort BlackLong
    c.add_castling.new.rights.items c.add_castling-2.new.rights.items c.add_castling-3.new.rights.items c.add_castling-4.new.rights.items
    (c.add_castling.ensures.added ∙ ap (λ (l : List Right). l ++ made (λ x. Castling x) (are_at_home c.args.board.now) (WhiteShort ∷ [])) c.new-rights.ensures)
    c.add_castling-2.ensures.added c.add_castling-3.ensures.added c.add_castling-4.ensures.added
