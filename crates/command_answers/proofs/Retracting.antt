-- The unmoves that were given so far, and the lines of those that are left.
use Rattle.std.proofs.Common.{◌≡◌, ℕ, ◌+◌, List, [], ◌∷◌, ◌++◌, length, refl, ap, sym, subst, ◌∙◌, arith, append_assoc, append-nil, length-append}
use Rattle.std.proofs.lemmas.List.Concat.{flat_map-cons}
use Rattle.std.proofs.lemmas.List.Elements.{Contains-append_right}
use Rattle.std.specs.Fmt.{decimal}
use Rattle.std.specs.List.{Contains}
use Rattle.std.specs.Prelude.{codes}
use Rattle.board_base.specs.declared.unmoves.Unmove.{Unmove}
use Rattle.cert_text.specs.Lines.{ended}
use Rattle.query_base.specs.Asked.{Asked}
use Rattle.unmove_gen.specs.Listed.{unmoves}
use Rattle.command_answers.specs.Unmoves.{unmove_line, unmoves_lines}

-- the unmoves in front of those that are left, and their number
pub record GivenSoFar (q : Asked) (left : List Unmove) (total : ℕ) : Type 0 where
  pub given : List Unmove
  pub split : given ++ left ≡ unmoves q
  pub counted : total ≡ length given

pub given-none : (q : Asked) → GivenSoFar q (unmoves q) 0
given-none q = record { given = []; split = refl; counted = refl }

pub given-more : (q : Asked) (u : Unmove) (old left : List Unmove) (total : ℕ) → GivenSoFar q old total → old ≡ u ∷ left → GivenSoFar q left (total + 1)
given-more q u old left total so_far front = record {
  given = so_far.given ++ u ∷ [];
  split = append_assoc so_far.given (u ∷ []) left ∙ ap (λ (l : List Unmove). so_far.given ++ l) (sym front) ∙ so_far.split;
  counted = omega (arith, so_far.counted, length-append so_far.given (u ∷ []));
}

-- the next one is an unmove of the query
pub next-listed : (q : Asked) (u : Unmove) (old left : List Unmove) (total : ℕ) → GivenSoFar q old total → old ≡ u ∷ left → Contains (unmoves q) u
next-listed q u old left total so_far front =
    let here : Contains old u = subst (λ (l : List Unmove). Contains l u) (sym front) (0, omega arith, refl) in
    subst (λ (l : List Unmove). Contains l u) so_far.split (Contains-append_right so_far.given old u here)

-- the line of the number of unmoves
abbrev pub total_line : ℕ → List ℕ
total_line total = ended (codes "total " ++ decimal total)

-- the lines of those that are left, and of the number of all
abbrev pub lines_left : Asked → List Unmove → List ℕ
lines_left q left = unmoves_lines q left ++ total_line (length (unmoves q))

pub lines_left-next : (q : Asked) (u : Unmove) (old left : List Unmove) → old ≡ u ∷ left → lines_left q old ≡ unmove_line q u ++ lines_left q left
unfolding unmoves_lines
lines_left-next q u old left front =
    ap (lines_left q) front ∙ ap (λ (l : List ℕ). l ++ total_line (length (unmoves q))) (flat_map-cons (unmove_line q) u left) ∙ append_assoc (unmove_line q u) (unmoves_lines q left) (total_line (length (unmoves q)))

-- where none is left, the number of those that were given is that of all
pub lines_left-none : (q : Asked) (left : List Unmove) (total : ℕ) → GivenSoFar q left total → left ≡ [] → lines_left q left ≡ total_line total
unfolding unmoves_lines
lines_left-none q left total so_far none =
    let all : length (unmoves q) ≡ total = ap length (sym so_far.split ∙ ap (λ (l : List Unmove). so_far.given ++ l) none ∙ append-nil so_far.given) ∙ sym so_far.counted in
    ap (lines_left q) none ∙ ap total_line all
