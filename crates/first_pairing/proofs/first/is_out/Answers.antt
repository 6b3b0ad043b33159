use Rattle.std.proofs.Common.{◌≡◌, ℕ, ◌+◌, false, List, inl, inr, sym, ◌∙◌, arith}
use Rattle.assignment.specs.Assignments.{is_among}
use Rattle.first_pairing.proofs.Endings.{cost-more, find-dear, find-loose}
use Rattle.first_pairing.proofs.first.is_out.Goals as goal

pub returns-then-is_among : goal.returns-then-is_among
returns-then-is_among c = record {
  out = λ h. inl (sym c.is_among.ensures ∙ c.if-is_among.true);
  free = λ h. absurd cc;
}

pub returns-then-is_loose : goal.returns-then-is_loose
returns-then-is_loose c =
    let free : is_among c.args.column c.args.columns.now.items ≡ false = sym c.is_among.ensures ∙ c.if-is_among.false in
    record {
      out = λ h. inr (free, find-loose c.args.costs.now c.args.solution.now.u.items c.args.solution.now.v c.args.solution.now.cost 16 c.args.row c.args.column c.args.columns.now.items c.requires.bounded c.requires.reached (omega arith) c.requires.apart (omega arith) free (c.is_loose.ensures.0 c.if-is_loose.true));
      free = λ h. free;
    }

pub returns : goal.returns
returns c =
    let columns : List ℕ = c.args.columns.now.items in
    let table : List (List ℕ) = c.args.costs.now in
    let free : is_among c.args.column columns ≡ false = sym c.is_among.ensures ∙ c.if-is_among.false in
    let sum = cost-more table (c.args.row + 1) c.args.row c.args.column columns (omega arith) (omega arith) in
    record {
      out = λ h.
          let dear = c.is_dear.ensures h in
          inr (free, find-dear table c.args.solution.now.cost 16 c.args.row c.args.column dear.0 columns (omega arith) c.requires.apart (omega arith) free dear.1 (omega (arith, dear.2, sum, c.requires.spent)));
      free = λ h. free;
    }
