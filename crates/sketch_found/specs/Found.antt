-- What is found of a query.
use Rattle.std.specs.Prelude.{ℕ, ◌≡◌, ◌≤◌, Bool, true, ◌&&◌, nat_le, length, map}
use Rattle.std.specs.List.{list_all}
use Rattle.query_base.specs.Asked.{Asked}
use Rattle.past_sketches.specs.Figures.{sketch_of}
use Rattle.sketch_text.specs.declared.nodes.End.{End}
use Rattle.sketch_text.specs.declared.nodes.End.TheVariants.{Void, Closed, Steps, Split}
use Rattle.sketch_text.specs.Marks.{is_mark}
use Rattle.sketch_text.specs.Nodes.{is_node}
use Rattle.sketch_text.specs.Trees.{Line, of_marks, of_node}
use Rattle.sketch_checker.specs.Proofs.{Proves}
use Rattle.sketch_checker.specs.Seen.{line_of}
use Rattle.sketch_found.specs.declared.found.FoundSketch.{FoundSketch}

-- its lines prove that no game comes to the query's sketch, at the query's odds, with the rights that it holds
abbrev pub IsProofOf : Asked → FoundSketch → Type 0
IsProofOf q f = Proves (record { odds = q.odds; held = q.held; exact = f.exact; prices = f.prices.items }) (sketch_of q.board) (map line_of f.lines.items)

-- no more steps than this follow
abbrev pub has_few : ℕ → End → Bool
has_few most Void = true
has_few most (Closed k) = true
has_few most (Steps m) = nat_le m most
has_few most (Split s) = true

-- with so many lines of prices the line can be written, and no more steps than this follow it
abbrev pub is_line : ℕ → ℕ → Line → Bool
is_line P most (of_node n) = is_node P n && has_few most n.end
is_line P most (of_marks m) = is_mark P m

-- it has at most 64 lines of prices; each other line can be written, and no node has more steps than this
pub record IsWithin (most : ℕ) (f : FoundSketch) : Type 0 where
  pub few : length f.prices.items ≤ 64
  pub lines : list_all (λ l. is_line (length f.prices.items) most (line_of l)) f.lines.items ≡ true
