use Rattle.std.proofs.Common.{refl, arith}
use Rattle.dossier_prose.proofs.Ways.{last_square, next_square}
use Rattle.dossier_prose.proofs.lengths.push_ways.Goals as goal

pub loop-i-init : goal.loop-i-init
loop-i-init c = record { words = refl; within = omega arith }

pub loop-i-preserved : goal.loop-i-preserved
loop-i-preserved c = record {
  words = next_square c.args.odds c.args.side c.args.board.now c.loop-i.i c.known-s.result c.args.homes.now c.loop-i.number c.in_ok-next.next c.loop-i.out.items c.push_if_of.new.out.items _ (omega arith) c.known-s.ensures (c.in_ok-next.ensures.words _) c.loop-i.invariant.words;
  within = c.in_ok-next.ensures.number;
}

pub returns : goal.returns
returns c = last_square c.args.odds c.args.side c.args.board.now c.loop-i.i _ c.loop-i.out.items _ (omega arith) c.loop-i.invariant.words
