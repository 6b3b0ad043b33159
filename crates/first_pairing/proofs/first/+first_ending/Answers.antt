use Rattle.std.proofs.Common.{◌≡◌, ℕ, suc, ◌-◌, ◌+◌, ◌==◌, Bool, true, false, List, length, ◌∷◌, drop, inl, inr, sym, ap, ◌∙◌, subst, arith}
use Rattle.std.specs.Prelude.{Some, None}
use Rattle.std.specs.List.{find}
use Rattle.assignment.specs.Assignments.{IsInjection, assignment_cost, is_among}
use Rattle.first_pairing.specs.Endings.{injections_ending}
use Rattle.first_pairing.proofs.Endings.{IsInjection-before, cost-more, from-first, from-none, from-past, from-some, from-taken, last-found, last-other}
use Rattle.first_pairing.proofs.first.+first_ending.Goals as goal

pub returns-then-spent-solution : goal.returns-then-spent-solution
returns-then-spent-solution t c = sym (last-found c.args.costs.now c.args.solution.now.cost 16 c.args.left c.args.spent c.args.columns.items (omega arith) c.requires.spent (omega arith))

pub returns-else-spent-solution : goal.returns-else-spent-solution
returns-else-spent-solution t c = sym (last-other c.args.costs.now c.args.solution.now.cost 16 c.args.left c.args.spent c.args.columns.items (omega arith) c.requires.spent (omega arith))

pub loop-column-init : goal.loop-column-init
loop-column-init t c = from-first (λ way. assignment_cost c.args.costs.now way == c.args.solution.now.cost) 16 c.args.left (c.args.left - 1) c.args.columns.items (omega arith)

pub is_out-requires : goal.is_out-requires
is_out-requires t c =
    let left : (c.args.left - 1) + 1 ≡ c.args.left = omega arith in
    record {
      table = c.requires.table;
      rows = omega arith;
      column = omega arith;
      apart = c.requires.apart;
      spent = c.requires.spent ∙ ap (λ (n : ℕ). assignment_cost (drop n c.args.costs.now) c.args.columns.items) (sym left);
      small = c.requires.small;
      bounded = c.requires.bounded;
      reached = c.requires.reached;
    }

pub loop-column-preserved-then-is_out : goal.loop-column-preserved-then-is_out
loop-column-preserved-then-is_out t c =
    let p : List ℕ → Bool = λ way. assignment_cost c.args.costs.now way == c.args.solution.now.cost in
    elim (c.is_out.ensures.out c.if-is_out.true) [
      | inl taken ↦ sym (from-taken p 16 (c.args.left - 1) c.args.columns.items c.loop-column.column (omega arith) taken) ∙ c.loop-column.invariant
      | inr none ↦ sym (from-none p 16 (c.args.left - 1) c.args.columns.items c.loop-column.column (omega arith) none.0 none.1) ∙ c.loop-column.invariant
    ]

pub first_ending-requires : goal.first_ending-requires
first_ending-requires t c =
    let columns : List ℕ = c.args.columns.items in
    let table : List (List ℕ) = c.args.costs.now in
    let j : ℕ = c.loop-column.column in
    let more : ℕ = c.args.left - 1 in
    let free : is_among j columns ≡ false = c.is_out.ensures.free c.if-is_out.false in
    let size : length c.with_first-more.result.items ≡ suc (length columns) = ap (λ (l : List ℕ). length l) c.with_first-more.ensures in
    let sum = cost-more table c.args.left more j columns (omega arith) (omega arith) in
    let same = ap (assignment_cost (drop more table)) c.with_first-more.ensures in
    let cost = c.requires.table.costs more j in (
      omega arith,
      (
        c.requires.table,
        (
          omega arith,
          (
            subst (λ (l : List ℕ). IsInjection 16 (length l) l) (sym c.with_first-more.ensures) (IsInjection-before 16 j columns c.requires.apart (omega arith) free),
            (omega arith, (omega arith, (c.requires.bounded, c.requires.reached))),
          ),
        ),
      ),
    )

pub returns-in-Some : goal.returns-in-Some
returns-in-Some t c =
    let p : List ℕ → Bool = λ way. assignment_cost c.args.costs.now way == c.args.solution.now.cost in
    let found : find p (injections_ending 16 (c.args.left - 1) (c.loop-column.column ∷ c.args.columns.items)) ≡ Some c.in-Some.way.items =
    ap (λ (l : List ℕ). find p (injections_ending 16 (c.args.left - 1) l)) (sym c.with_first-more.ensures) ∙ sym c.in-Some.ensures in
    sym (from-some p 16 (c.args.left - 1) c.args.columns.items c.loop-column.column c.in-Some.way.items (omega arith) (c.is_out.ensures.free c.if-is_out.false) found) ∙ c.loop-column.invariant

pub loop-column-preserved : goal.loop-column-preserved
loop-column-preserved t c =
    let p : List ℕ → Bool = λ way. assignment_cost c.args.costs.now way == c.args.solution.now.cost in
    let none : find p (injections_ending 16 (c.args.left - 1) c.with_first-more.result.items) ≡ None = sym c.in_default.ensures in
    let found : find p (injections_ending 16 (c.args.left - 1) (c.loop-column.column ∷ c.args.columns.items)) ≡ None =
    ap (λ (l : List ℕ). find p (injections_ending 16 (c.args.left - 1) l)) (sym c.with_first-more.ensures) ∙ none in
    sym (from-none p 16 (c.args.left - 1) c.args.columns.items c.loop-column.column (omega arith) (c.is_out.ensures.free c.if-is_out.false) found) ∙ c.loop-column.invariant

pub returns : goal.returns
returns t c = sym (from-past (λ way. assignment_cost c.args.costs.now way == c.args.solution.now.cost) 16 (c.args.left - 1) c.args.columns.items c.loop-column.column (omega arith)) ∙ c.loop-column.invariant
