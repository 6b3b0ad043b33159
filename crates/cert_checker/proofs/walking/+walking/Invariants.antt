use Rattle.std.proofs.Common.{◌≡◌, ◌+◌, [], ◌∷◌, ◌++◌, reverse}
use Rattle.std.specs.List.{Contains}
use Rattle.board_base.specs.declared.unmoves.Unmove.{Unmove}
use Rattle.unmove_gen.specs.Listed.{unmoves}
use Rattle.cert_text.specs.Sizes.{rest_of, size, size_all}
use Rattle.cert_text.specs.Seen.{tree_of}
use Rattle.cert_checker.specs.Walk.{Walked, WalksEach}
use Rattle.cert_checker.specs.Walking.{HaveSketches, lines_in_all}
use Rattle.cert_checker.proofs.walking.+walking.Given as goal

abbrev pub decreases-check_kids : goal.decreases-check_kids
decreases-check_kids l = size_all l.kids.now

abbrev pub decreases-check_node : goal.decreases-check_node
decreases-check_node l = size (tree_of l.node.now)

abbrev pub invariant-check_kids-loop-i : goal.invariant-check_kids-loop-i
invariant-check_kids-loop-i l = record {
  whole : (walked : Walked) → WalksEach (rest_of l.kids l.i) l.query l.unmoves (reverse l.fn.ancestors.items) l.top l.next walked
      → WalksEach l.kids l.query (unmoves l.query) (reverse l.fn.ancestors.items) l.top (l.top + 1) walked;
  listed : (u : Unmove) → Contains l.unmoves u → Contains (unmoves l.query) u;
  kept : l.ancestors.items ≡ l.fn.ancestors.items ++ l.query ∷ [];
  place : l.next + lines_in_all (rest_of l.kids l.i) ≡ l.top + 1 + lines_in_all l.kids;
  sketches : HaveSketches (rest_of l.kids l.i);
}
