use Rattle.std.proofs.Common.{subst, take, List, ℕ}
use Rattle.std.specs.List.{All}
use Rattle.std.proofs.lemmas.List.{take_all}
use Rattle.std.proofs.lemmas.List.Elements.{All-more}
use Rattle.std.specs.Prelude.{◌≡◌, false}
use Rattle.proof_story.specs.Rendering.{castles_from}
use Rattle.proof_story.proofs.checking.none_castles.Goals as goal

pub loop-from-preserved : goal.loop-from-preserved
loop-from-preserved c =
    All-more (λ (s : ℕ). castles_from c.args.board.now c.args.way.now s ≡ false) c.args.origins.now c.loop-from.from-index c.from-item.result c.loop-from-test.true c.loop-from.invariant
    (subst (λ (x : ℕ). (λ (s : ℕ). castles_from c.args.board.now c.args.way.now s ≡ false) x) c.from-item.is (c.is_no_castling.ensures c.if-not-is_no_castling.false))

pub returns : goal.returns
returns c = λ yes. subst (λ (l : List ℕ). All (λ (s : ℕ). castles_from c.args.board.now c.args.way.now s ≡ false) l) (take_all c.loop-from.from-index c.args.origins.now c.loop-from-test.false) c.loop-from.invariant
