-- First open lines, from their ends.
use Rattle.std.proofs.Common.{◌≡◌, ℕ, zero, suc, ◌⊎◌, inl, inr, List, [], ◌∷◌, ◌++◌, Bool, reverse, refl, sym, ap, subst, arith}
use Rattle.std.specs.Prelude.{IsTrue, ◌↔◌}
use Rattle.std.specs.List.{Contains}
use Rattle.std.proofs.lemmas.List.Elements.{Contains-append_right}
use Rattle.board_base.specs.declared.unmoves.Unmove.{Unmove}
use Rattle.general_lemmas.proofs.Lasts.{pushed}
use Rattle.general_lemmas.proofs.Lists.{contains-first}
use Rattle.query_base.specs.Asked.{Asked}
use Rattle.query_base.specs.Reach.{Reaches}
use Rattle.unmove_gen.specs.Listed.{unmoves}
use Rattle.unmove_gen.specs.Predecessor.{predecessor}
use Rattle.retro_search.specs.Refutable.{IsRefutable, IsShut}
use Rattle.retro_search.specs.Lines.{EndsAtArray, IsFirstOpen}
use Rattle.retro_search.specs.Unrefuted.{IfOpen, IfSpent, IfTooLarge, IsLengthened}
use Rattle.retro_search.specs.Searched.{IsOpen}
use Rattle.retro_search.specs.declared.unrefuted.OpenLine.{OpenLine}
use Rattle.retro_search.specs.declared.unrefuted.Unrefuted.{Unrefuted}
use Rattle.retro_search.specs.declared.unrefuted.Unrefuted.TheVariants as stop

pub leaf-unrefuted : (depth : ℕ) (q : Asked) (ancestors : List Asked) → (IsShut q ancestors → ⊥) → (depth ≡ 0) ⊎ Reaches [] q → IsRefutable q depth ancestors → ⊥
leaf-unrefuted zero q ancestors unshut end h = unshut h
leaf-unrefuted (suc depth) q ancestors unshut (inl e) h = absurd (omega arith)
leaf-unrefuted (suc depth) q ancestors unshut (inr here) (inl h) = unshut h
leaf-unrefuted (suc depth) q ancestors unshut (inr here) (inr h) = h.0 here

leaf-first : (depth : ℕ) (q : Asked) (ancestors : List Asked) → (depth ≡ 0) ⊎ Reaches [] q → IsFirstOpen q depth ancestors []
leaf-first zero q ancestors end = refl
leaf-first (suc depth) q ancestors (inl e) = absurd (omega arith)
leaf-first (suc depth) q ancestors (inr here) = here

-- a query that isn't shut is open with no unmove, where none is taken back
pub leaf_open : (line : OpenLine) (depth : ℕ) (q : Asked) (ancestors : List Asked) → line.back.items ≡ [] → (IsTrue line.at_array ↔ Reaches [] q) → (IsShut q ancestors → ⊥) → (depth ≡ 0) ⊎ Reaches [] q → IsOpen line q depth ancestors
leaf_open line depth q ancestors empty marked unshut end =
    let none : [] ≡ reverse line.back.items = ap reverse (sym empty) in
    record {
      unrefuted = leaf-unrefuted depth q ancestors unshut end;
      first = subst (IsFirstOpen q depth ancestors) none (leaf-first depth q ancestors end);
      marked = subst (λ (l : List Unmove). IsTrue line.at_array ↔ EndsAtArray q l) none marked;
    }

-- a query is open whose first predecessor that isn't refutable is open
pub longer_open : (kid line : OpenLine) (q : Asked) (u : Unmove) (done rest : List Unmove) (depth : ℕ) (ancestors : List Asked) → unmoves q ≡ done ++ u ∷ rest → ((v : Unmove) → Contains done v → IsRefutable (predecessor q v) depth (q ∷ ancestors)) → (Reaches [] q → ⊥) → (IsShut q ancestors → ⊥) → line.back.items ≡ kid.back.items ++ u ∷ [] → line.at_array ≡ kid.at_array → IsOpen kid (predecessor q u) depth (q ∷ ancestors) → IsOpen line q (suc depth) ancestors
longer_open kid line q u done rest depth ancestors parts all elsewhere unshut grown same o =
    let back : u ∷ reverse kid.back.items ≡ reverse line.back.items = sym (pushed kid.back.items line.back.items u grown) in
    let listed : Contains (unmoves q) u = subst (λ (l : List Unmove). Contains l u) (sym parts) (Contains-append_right done (u ∷ rest) u (contains-first u rest)) in
    let failed : IsRefutable q (suc depth) ancestors → ⊥ = λ h. elim h [ inl shut ↦ unshut shut | inr below ↦ o.unrefuted (below.1 u listed) ] in
    record {
      unrefuted = failed;
      first = subst (IsFirstOpen q (suc depth) ancestors) back (elsewhere, (done, rest, parts, all, o.unrefuted), o.first);
      marked = subst (λ (l : List Unmove). IsTrue line.at_array ↔ EndsAtArray q l) back (subst (λ (b : Bool). IsTrue b ↔ EndsAtArray (predecessor q u) (reverse kid.back.items)) (sym same) o.marked);
    }

pub if_open : (s : Unrefuted) (P Q : OpenLine → Type 0) → ((line : OpenLine) → P line → Q line) → IfOpen s P → IfOpen s Q
if_open (stop.Open line) P Q on h = on line h
if_open stop.Spent P Q on h = h
if_open stop.TooLarge P Q on h = h
if_open stop.Memory P Q on h = h

-- what stops the search of a predecessor stops that of the query
pub stop_open : (s t : Unrefuted) (u : Unmove) (P Q : OpenLine → Type 0) → ((kid line : OpenLine) → line.back.items ≡ kid.back.items ++ u ∷ [] → line.at_array ≡ kid.at_array → P kid → Q line) → IsLengthened s u t → IfOpen s P → IfOpen t Q
stop_open (stop.Open kid) (stop.Open line) u P Q on (grown, same) h = on kid line grown same h
stop_open stop.Spent (stop.Open line) u P Q on is h = absurd is
stop_open stop.TooLarge (stop.Open line) u P Q on is h = absurd is
stop_open stop.Memory (stop.Open line) u P Q on is h = absurd is
stop_open s stop.Spent u P Q on is h = tt
stop_open s stop.TooLarge u P Q on is h = tt
stop_open s stop.Memory u P Q on is h = tt

pub stop_spent : (s t : Unrefuted) (u : Unmove) (P Q : Type 0) → (P → Q) → IsLengthened s u t → IfSpent s P → IfSpent t Q
stop_spent (stop.Open kid) stop.Spent u P Q on is h = absurd is
stop_spent stop.Spent stop.Spent u P Q on is h = on h
stop_spent stop.TooLarge stop.Spent u P Q on is h = absurd is
stop_spent stop.Memory stop.Spent u P Q on is h = absurd is
stop_spent s (stop.Open line) u P Q on is h = tt
stop_spent s stop.TooLarge u P Q on is h = tt
stop_spent s stop.Memory u P Q on is h = tt

pub stop_large : (s t : Unrefuted) (u : Unmove) (P Q : Type 0) → (P → Q) → IsLengthened s u t → IfTooLarge s P → IfTooLarge t Q
stop_large (stop.Open kid) stop.TooLarge u P Q on is h = absurd is
stop_large stop.Spent stop.TooLarge u P Q on is h = absurd is
stop_large stop.TooLarge stop.TooLarge u P Q on is h = on h
stop_large stop.Memory stop.TooLarge u P Q on is h = absurd is
stop_large s (stop.Open line) u P Q on is h = tt
stop_large s stop.Spent u P Q on is h = tt
stop_large s stop.Memory u P Q on is h = tt
