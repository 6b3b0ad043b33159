use Rattle.std.proofs.Common.{◌≡◌, ℕ, suc, ◌-◌, ◌==◌, Bool, false, List, length, ◌∷◌, drop, sym, ap, ◌∙◌, subst, arith}
use Rattle.std.specs.Prelude.{Some, None}
use Rattle.std.specs.List.{find}
use Rattle.assignment.specs.Assignments.{IsInjection, assignment_cost, is_among}
use Rattle.first_pairing.specs.Endings.{injections_ending}
use Rattle.first_pairing.proofs.Endings.{IsInjection-before, cost-more, find-loose, from-first, from-none, from-past, from-some, from-taken, last-found, last-other}
use Rattle.proof_sentences.proofs.ways.+first_ending.Goals as goal
use Rattle.proof_sentences.proofs.ways.+first_ending.Goals.{then-is_taken-via-then-is_taken, then-is_taken-via-else-is_taken+then-is_loose}

pub returns-then-spent-least : goal.returns-then-spent-least
returns-then-spent-least t c = sym (last-found c.args.costs.now c.args.least.now.cost 8 c.args.left c.args.spent c.args.files.items (omega arith) c.requires.spent (omega arith))

pub returns-else-spent-least : goal.returns-else-spent-least
returns-else-spent-least t c = sym (last-other c.args.costs.now c.args.least.now.cost 8 c.args.left c.args.spent c.args.files.items (omega arith) c.requires.spent (omega arith))

pub loop-file-init : goal.loop-file-init
loop-file-init t c = from-first (λ way. assignment_cost c.args.costs.now way == c.args.least.now.cost) 8 c.args.left (c.args.left - 1) c.args.files.items (omega arith)

pub loop-file-preserved-then-is_taken : goal.loop-file-preserved-then-is_taken
loop-file-preserved-then-is_taken t c =
    let p : List ℕ → Bool = λ way. assignment_cost c.args.costs.now way == c.args.least.now.cost in
    elim c.then-is_taken.branch [
      | then-is_taken-via-then-is_taken w ↦
          sym (from-taken p 8 (c.args.left - 1) c.args.files.items c.loop-file.file (omega arith) (sym c.is_taken.ensures ∙ w.if-is_taken.true)) ∙ c.loop-file.invariant
      | then-is_taken-via-else-is_taken+then-is_loose w ↦
          let free : is_among c.loop-file.file c.args.files.items ≡ false = sym c.is_taken.ensures ∙ w.if-is_taken.false in
          let loose = w.is_loose.ensures.0 w.if-is_loose.true in
          sym (from-none p 8 (c.args.left - 1) c.args.files.items c.loop-file.file (omega arith) free
          (find-loose c.args.costs.now c.args.least.now.potentials.u c.args.least.now.potentials.v c.args.least.now.cost 8 (c.args.left - 1) c.loop-file.file c.args.files.items c.requires.bounded c.requires.reached (omega arith) c.requires.apart (omega arith) free loose))
          ∙ c.loop-file.invariant
    ]

pub first_ending-requires : goal.first_ending-requires
first_ending-requires t c =
    let columns : List ℕ = c.args.files.items in
    let table : List (List ℕ) = c.args.costs.now in
    let j : ℕ = c.loop-file.file in
    let more : ℕ = c.args.left - 1 in
    let free : is_among j columns ≡ false = sym c.is_taken.ensures ∙ c.if-is_taken.false in
    let size : length c.with_first-more.result.items ≡ suc (length columns) = ap (λ (l : List ℕ). length l) c.with_first-more.ensures in
    let sum = cost-more table c.args.left more j columns (omega arith) (omega arith) in
    let same = ap (assignment_cost (drop more table)) c.with_first-more.ensures in (
      omega arith,
      (
        omega arith,
        (
          c.requires.few,
          (
            subst (λ (l : List ℕ). IsInjection 8 (length l) l) (sym c.with_first-more.ensures) (IsInjection-before 8 j columns c.requires.apart (omega arith) free),
            (omega arith, (omega arith, (c.requires.bounded, c.requires.reached))),
          ),
        ),
      ),
    )

pub returns-in-Some : goal.returns-in-Some
returns-in-Some t c =
    let p : List ℕ → Bool = λ way. assignment_cost c.args.costs.now way == c.args.least.now.cost in
    let found : find p (injections_ending 8 (c.args.left - 1) (c.loop-file.file ∷ c.args.files.items)) ≡ Some c.in-Some.way.items =
    ap (λ (l : List ℕ). find p (injections_ending 8 (c.args.left - 1) l)) (sym c.with_first-more.ensures) ∙ sym c.in-Some.ensures in
    sym (from-some p 8 (c.args.left - 1) c.args.files.items c.loop-file.file c.in-Some.way.items (omega arith) (sym c.is_taken.ensures ∙ c.if-is_taken.false) found) ∙ c.loop-file.invariant

pub loop-file-preserved : goal.loop-file-preserved
loop-file-preserved t c =
    let p : List ℕ → Bool = λ way. assignment_cost c.args.costs.now way == c.args.least.now.cost in
    let none : find p (injections_ending 8 (c.args.left - 1) c.with_first-more.result.items) ≡ None = sym c.in_default.ensures in
    let found : find p (injections_ending 8 (c.args.left - 1) (c.loop-file.file ∷ c.args.files.items)) ≡ None =
    ap (λ (l : List ℕ). find p (injections_ending 8 (c.args.left - 1) l)) (sym c.with_first-more.ensures) ∙ none in
    sym (from-none p 8 (c.args.left - 1) c.args.files.items c.loop-file.file (omega arith) (sym c.is_taken.ensures ∙ c.if-is_taken.false) found) ∙ c.loop-file.invariant

pub returns : goal.returns
returns t c = sym (from-past (λ way. assignment_cost c.args.costs.now way == c.args.least.now.cost) 8 (c.args.left - 1) c.args.files.items c.loop-file.file (omega arith)) ∙ c.loop-file.invariant
