use Rattle.std.proofs.Common.{◌≡◌, ◌<◌, ◌≤◌, ◌*◌, ◌∙◌, ap, arith, sym, subst, length, map, List, ℕ, pos, neg_ℤ, rules, slice_index, slice_index_or}
use Rattle.std.specs.Prelude.{ℤ}
use Rattle.std.specs.List.{All}
use Rattle.std.proofs.lemmas.List.{get_or-map}
use Rattle.assignment.specs.Assignments.{IsInjection, assignment_cost}
use Rattle.assignment.proofs.Costs.{assignment_cost-le}
use Rattle.assignment.proofs.ReadOff.{IsReadOff-places}
use Rattle.assignment.proofs.Solved.{IsInjection-solved, IsSolved, IsSolved-read}
use Rattle.assignment.proofs.solving.solve_large.Goals as goal

pub cost_of-cost-requires : goal.cost_of-cost-requires
cost_of-cost-requires g c =
    let p = c.paired-p.result in
    let places = c.places_of-places in
    let columns : List ℕ = map (slice_index p.columns) places.result.items in
    let injection : IsInjection g.row.W (length c.args.costs.now) columns =
    IsInjection-solved c.args.costs.now g.row.W p c.paired-p.ensures columns (IsReadOff-places g.row.W (length c.args.costs.now) p.rows p.columns places.result.items places.ensures) in
    let read : c.as_slice.result.now ≡ columns = c.as_slice.ensures.value ∙ c.read_off-columns.ensures in (
      search rules,
      (
        c.requires,
        (
          ap (λ (l : List ℕ). length l) read ∙ injection.size,
          subst (λ (l : List ℕ). All (λ j. j < g.row.W) l) (sym read) injection.within,
        ),
      ),
    )

pub returns : goal.returns
returns g c =
    let p = c.paired-p.result in
    let places = c.places_of-places in
    let ends = c.places_of in
    let turned : (j : ℕ) → j < g.row.W → slice_index_or c.turned.result j (pos 0) ≡ neg_ℤ (pos (slice_index (map (slice_index p.prices) ends.result.items) j)) =
    λ j low. c.turned.ensures.turned j low ∙ ap (λ (x : ℕ). neg_ℤ (pos x)) (sym (get_or-map (slice_index p.prices) ends.result.items j 0 0 (omega (arith, ends.ensures.size)))) in
    let read = IsSolved-read c.args.costs.now g.row.W p c.requires.rows c.paired-p.ensures places.result.items ends.result.items c.turned.result places.ensures ends.ensures c.turned.ensures.size turned in
    let by_columns : IsSolved g.row.W c.args.costs.now c.read_off-columns.result.items (map pos (map (slice_index p.u) places.result.items)) c.turned.result =
    subst (λ (l : List ℕ). IsSolved g.row.W c.args.costs.now l (map pos (map (slice_index p.u) places.result.items)) c.turned.result) (sym c.read_off-columns.ensures) read in
    let solved : IsSolved g.row.W c.args.costs.now c.read_off-columns.result.items c.signed.result.items c.turned.result =
    subst (λ (l : List ℤ). IsSolved g.row.W c.args.costs.now c.read_off-columns.result.items l c.turned.result) (sym c.signed.ensures) by_columns in
    let cost : c.cost_of-cost.result ≡ assignment_cost c.args.costs.now c.read_off-columns.result.items = c.cost_of-cost.ensures ∙ ap (assignment_cost c.args.costs.now) c.as_slice.ensures.value in
    record {
      injection = solved.injection;
      cost = cost;
      least = cost ∙ solved.least;
      bounded = solved.bounded;
      reached = solved.reached ∙ ap pos (sym cost);
      small = λ limit costs.
          let most = assignment_cost-le limit c.args.costs.now c.read_off-columns.result.items costs.costs in
          subst (λ (n : ℕ). n ≤ limit * length c.args.costs.now) (sym cost) most;
      u_within = solved.u_within;
      v_within = solved.v_within;
    }
