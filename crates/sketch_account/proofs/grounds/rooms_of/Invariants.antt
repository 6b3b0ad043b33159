use Rattle.std.proofs.Common.{◌≡◌, ◌<◌, ℕ, true, [], length, slice_index_or}
use Rattle.std.specs.Prelude.{Some}
use Rattle.board_base.specs.Board.{at}
use Rattle.board_base.specs.Legal.{is_officer}
use Rattle.board_base.specs.declared.men.Man.{Man}
use Rattle.balance_rule.specs.LeastWays.{seen_by}
use Rattle.sketch_grounds.specs.Zones.{reached_from, roams_past}
use Rattle.sketch_account.proofs.grounds.rooms_of.Given as goal

abbrev pub invariant-loop-f : goal.invariant-loop-f
invariant-loop-f l = record {
  size : length l.rooms ≡ 8;
  done : (f : ℕ) (m : Man) → f < l.f → at l.first (seen_by l.side f) ≡ Some m → is_officer m.kind ≡ true → slice_index_or l.rooms f [] ≡ reached_from (roams_past l.wall l.zones (Some m)) (seen_by l.side f);
}
