-- The line of a child by its parts.
use Rattle.std.proofs.Common.{◌≡◌, ℕ, List, ◌∷◌, ◌++◌, Option, Some, None, ap, ◌∙◌}
use Rattle.std.specs.Option.{option_map}
use Rattle.board_base.specs.Texts.{unmove_from}
use Rattle.board_base.specs.declared.unmoves.Unmove.{Unmove}
use Rattle.fen_text.specs.Parts.{Free}
use Rattle.fen_text.proofs.PartLemmas.{part_more}
use Rattle.cert_text.specs.NodeLines.{body_at, kid_body}
use Rattle.cert_text.specs.declared.node_lines.BodyLine.{BodyLine}
use Rattle.cert_text.proofs.PartTexts.{no_part, no_rest}

-- a label and a body
abbrev pub labelled : Unmove → Option BodyLine → Option (Unmove × BodyLine)
labelled u o = option_map (λ b. (u, b)) o

pub no_space : (depth : ℕ) (text part : List ℕ) → Free 32 part → text ≡ part → kid_body depth text ≡ None
unfolding kid_body
no_space depth text part free whole = no_rest unmove_from (λ (u : Unmove) (rest : List ℕ). labelled u (body_at depth rest)) text part free whole

pub no_unmove : (depth : ℕ) (text part rest : List ℕ) → Free 32 part → text ≡ part ++ 32 ∷ rest → unmove_from part ≡ None → kid_body depth text ≡ None
unfolding kid_body
no_unmove depth text part rest free whole none = no_part unmove_from (λ (u : Unmove) (rest : List ℕ). labelled u (body_at depth rest)) text part rest free whole none

pub kid_is : (depth : ℕ) (text part rest : List ℕ) (u : Unmove) (o : Option BodyLine) → Free 32 part → text ≡ part ++ 32 ∷ rest → unmove_from part ≡ Some u → body_at depth rest ≡ o → kid_body depth text ≡ labelled u o
unfolding kid_body
kid_is depth text part rest u o free whole label body =
    part_more 32 unmove_from (λ (x : Unmove). None) (λ (u : Unmove) (rest : List ℕ). labelled u (body_at depth rest)) text part rest u free whole label ∙ ap (labelled u) body
