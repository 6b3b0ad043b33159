-- The first line of an input, and what follows it.
use Rattle.std.proofs.Common.{◌≡◌, ℕ, List, [], ◌∷◌, ◌++◌, ap, ◌∙◌}
use Rattle.std.specs.Prelude.{Option, Some, None}
use Rattle.fen_text.specs.Parts.{cut_at, IsPart}
use Rattle.fen_text.proofs.PartLemmas.{cut_next, cut_none}
use Rattle.question_text.specs.InputLines.{first_and_rest, first_line, after_first, without_return}

pub line-more : (input line rest : List ℕ) → IsPart 10 input line → input ≡ line ++ 10 ∷ rest → (first_line input ≡ without_return line) × (after_first input ≡ rest)
unfolding first_line after_first
line-more input line rest part whole =
    let e : cut_at 10 input ≡ Some (line, rest) = ap (cut_at 10) whole ∙ cut_next 10 line rest part.free in
    (ap (λ (o : Option (List ℕ × List ℕ)). (first_and_rest input o).0) e, ap (λ (o : Option (List ℕ × List ℕ)). (first_and_rest input o).1) e)

pub line-only : (input line : List ℕ) → IsPart 10 input line → input ≡ line → (first_line input ≡ line) × (after_first input ≡ [])
unfolding first_line after_first
line-only input line part whole =
    let e : cut_at 10 input ≡ None = ap (cut_at 10) whole ∙ cut_none 10 line part.free in
    (ap (λ (o : Option (List ℕ × List ℕ)). (first_and_rest input o).0) e ∙ whole, ap (λ (o : Option (List ℕ × List ℕ)). (first_and_rest input o).1) e)
