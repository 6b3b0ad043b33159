-- One text behind another, where the last call's answer is returned as it is.
use Rattle.std.proofs.Common.{◌≡◌, ℕ, List, ◌++◌, Result, ap, ◌∙◌, append_assoc}
use Rattle.std.specs.Prelude.{IfOk}
use Rattle.std.proofs.lemmas.Result.{IfOk-equal}

pub behind : {T E : Type 0} (r : Result T E) (o p q a b : List ℕ) → p ≡ o ++ a → IfOk r (λ _. q ≡ p ++ b) → IfOk r (λ _. q ≡ o ++ (a ++ b))
behind r o p q a b e f = IfOk-equal r q (p ++ b) (o ++ (a ++ b)) f (ap (λ (l : List ℕ). l ++ b) e ∙ append_assoc o a b)
