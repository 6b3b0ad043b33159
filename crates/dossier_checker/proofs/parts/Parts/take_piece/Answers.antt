use Rattle.std.proofs.Common.{◌≡◌, ◌+◌, ◌-◌, ◌<◌, ◌++◌, length, sym, ap, subst, arith}
use Rattle.dossier_checker.specs.Remaining.{Parting, PartsRemain}
use Rattle.dossier_checker.specs.contracts.parts.Parts.{the_view}
use Rattle.dossier_checker.proofs.Stepping.{last_piece, piece_came}
use Rattle.dossier_checker.proofs.parts.Parts.take_piece.Goals as goal

pub returns-then-self-gt0-clause-rest : goal.returns-then-self-gt0-clause-rest
returns-then-self-gt0-clause-rest c = λ bytes a rest.
    let k : Parting = the_view c.self.inside in
    let left = c.self.inside.left - length c.args.piece.now in
    let size : left + length c.args.piece.now ≡ k.left = omega (arith, ap (λ (p : Parting). p.left) c.self.view_is, c.requires.within) in
    subst (λ (p : Parting). PartsRemain p (c.args.piece.now ++ bytes) a) c.self.view_is (piece_came k c.feed.new.self left c.args.piece.now bytes a c.if-self-gt0.true size c.feed.ensures.rest rest)

pub returns-clause-rest : goal.returns-clause-rest
returns-clause-rest c = λ bytes a rest.
    let k : Parting = the_view c.self.inside in
    let left = c.self.inside.left - length c.args.piece.now in
    let size : left + length c.args.piece.now ≡ k.left = omega (arith, ap (λ (p : Parting). p.left) c.self.view_is, c.requires.within) in
    let some : 0 < k.left = subst (λ (p : Parting). 0 < p.left) (sym c.self.view_is) c.requires.some in
    subst (λ (p : Parting). PartsRemain p (c.args.piece.now ++ bytes) a) c.self.view_is (last_piece k c.feed.new.self left c.clear.new.self.items c.args.piece.now bytes a some size c.feed.ensures.rest (c.end_part.ensures.rest bytes a rest))
