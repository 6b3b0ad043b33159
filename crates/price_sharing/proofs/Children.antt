-- The children of a node that proves its query.
use Rattle.std.proofs.Common.{◌≡◌, ℕ, zero, suc, List, [], ◌∷◌, sym, subst}
use Rattle.std.specs.Prelude.{Some}
use Rattle.std.specs.List.{Contains}
use Rattle.std.proofs.lemmas.List.Elements.{Contains-append_right}
use Rattle.std.proofs.lemmas.Option.{some_pair_parts}
use Rattle.board_base.specs.declared.unmoves.Unmove.{Unmove}
use Rattle.general_lemmas.proofs.Lists.{contains-first}
use Rattle.query_base.specs.Asked.{Asked}
use Rattle.unmove_gen.specs.Listed.{unmoves}
use Rattle.unmove_gen.specs.Predecessor.{predecessor}
use Rattle.cert_text.specs.Tree.{Tree, Forest, none, more, kid_at}
use Rattle.cert_checker.specs.Proving.{Proves, ProvesEach}
use Rattle.price_sharing.specs.Children.{AreProvedBelow}
use Rattle.price_sharing.specs.Proved.{IsProvedBelow}

each_listed : (f : Forest) (i : ℕ) (label : Unmove) (t : Tree) (q : Asked) (us : List Unmove) (above : List Asked) → ProvesEach f q us above → kid_at f i ≡ Some (label, t) → Contains us label
each_listed none i label t q us above p e = absurd cc
each_listed (more l s rest) zero label t q us above p e =
    let same = some_pair_parts l label s t e in
    subst (λ (u : Unmove). Contains us u) same.0 (subst (λ (v : List Unmove). Contains v l) (sym p.1) (contains-first l p.0))
each_listed (more l s rest) (suc i) label t q us above p e =
    subst (λ (v : List Unmove). Contains v label) (sym p.1) (Contains-append_right (l ∷ []) p.0 label (each_listed rest i label t q p.0 above p.3 e))

each_proved : (f : Forest) (i : ℕ) (label : Unmove) (t : Tree) (q : Asked) (us : List Unmove) (above : List Asked) → ProvesEach f q us above → kid_at f i ≡ Some (label, t) → IsProvedBelow t (predecessor q label)
each_proved none i label t q us above p e = absurd cc
each_proved (more l s rest) zero label t q us above p e =
    let same = some_pair_parts l label s t e in
    (q ∷ above, subst (λ (u : Unmove). Proves t (predecessor q u) (q ∷ above)) same.0 (subst (λ (u : Tree). Proves u (predecessor q l) (q ∷ above)) same.1 p.2))
each_proved (more l s rest) (suc i) label t q us above p e = each_proved rest i label t q p.0 above p.3 e

-- the label of a child is listed
pub kid_listed : (f : Forest) (i : ℕ) (label : Unmove) (t : Tree) (q : Asked) → AreProvedBelow f q → kid_at f i ≡ Some (label, t) → Contains (unmoves q) label
kid_listed f i label t q p e = each_listed f i label t q (unmoves q) p.0 p.1 e

-- and it proves the query before its label
pub kid_proved : (f : Forest) (i : ℕ) (label : Unmove) (t : Tree) (q : Asked) → AreProvedBelow f q → kid_at f i ≡ Some (label, t) → IsProvedBelow t (predecessor q label)
kid_proved f i label t q p e = each_proved f i label t q (unmoves q) p.0 p.1 e
