use Rattle.std.proofs.Common.{◌≡◌, ◌-◌, drop}
use Rattle.std.specs.List.{filter}
use Rattle.std.specs.Option.{IfSome}
use Rattle.unmove_gen.specs.Listed.{candidates, is_listed}
use Rattle.unmove_gen.specs.Cursors.{number_of}
use Rattle.unmove_gen.specs.Plain.{AreFacts, KnowsAlone}
use Rattle.unmove_gen.specs.Ready.{AreReady, AreTargets}
use Rattle.unmove_gen.proofs.lists.QueryUnmoves.next.Given as goal

abbrev pub invariant-loop-self : goal.invariant-loop-self
invariant-loop-self l = record {
  left : filter (is_listed l.self-inside.query) (drop (number_of l.self-inside.stop.cursor) candidates) ≡ l.fn.self.left;
  query : l.self-inside.query ≡ l.fn.self.query;
  facts : IfSome l.self-inside.facts (λ f. AreFacts l.self-inside.query f);
  targets : AreTargets l.self-inside.query l.self-inside.targets;
  alone : IfSome l.self-inside.facts (λ f. KnowsAlone l.self-inside.query f.king l.self-inside.stop.cursor.to l.self-inside.stop.alone);
  ready : AreReady l.self-inside.query l.self-inside.stop.cursor l.self-inside.stop.listed;
}

abbrev pub decreases-loop-self : goal.decreases-loop-self
decreases-loop-self l = 150000 - number_of l.self-inside.stop.cursor
