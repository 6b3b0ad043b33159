-- Texts with a space, and without one.
use Rattle.std.proofs.Common.{◌≡◌, ℕ, List, ◌∷◌, ◌++◌, Option, Some, None, refl, ap, ◌∙◌}
use Rattle.board_base.specs.Texts.{◌>>=◌}
use Rattle.fen_text.specs.Parts.{Free, cut_at}
use Rattle.fen_text.proofs.PartLemmas.{cut_next, cut_none}

-- nothing follows
pub none_always : {A B : Type 0} (o : Option A) → (o >>= (λ (x : A). let n : Option B = None in n)) ≡ None
none_always None = refl
none_always (Some x) = refl

pub no_space : (text front : List ℕ) → Free 32 front → text ≡ front → cut_at 32 text ≡ None
no_space text front free whole = ap (cut_at 32) whole ∙ cut_none 32 front free

pub at_space : (text front rest : List ℕ) → Free 32 front → text ≡ front ++ 32 ∷ rest → cut_at 32 text ≡ Some (front, rest)
at_space text front rest free whole = ap (cut_at 32) whole ∙ cut_next 32 front rest free
