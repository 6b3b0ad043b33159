-- Each query that isn't refutable has one first open line.
use Rattle.std.proofs.Common.{◌≡◌, ℕ, zero, suc, inl, inr, List, [], ◌∷◌, ◌++◌, refl, sym, ap, ◌∙◌, subst}
use Rattle.std.specs.List.{Contains}
use Rattle.board_base.specs.declared.unmoves.Unmove.{Unmove}
use Rattle.general_lemmas.proofs.Lists.{contains-cases, contains-first, contains-later, contains-none}
use Rattle.query_base.specs.Asked.{Asked}
use Rattle.query_base.proofs.Settled.{array_settled}
use Rattle.general_lemmas.proofs.Settling.{Settled}
use Rattle.unmove_gen.specs.Listed.{unmoves}
use Rattle.unmove_gen.specs.Predecessor.{predecessor}
use Rattle.retro_search.specs.Refutable.{IsRefutable}
use Rattle.retro_search.specs.Lines.{IsFirstNot, IsFirstOpen}
use Rattle.retro_search.proofs.Settled.{refutable_settled}

-- the first of some unmoves of which P doesn't hold
first_not : (P : Unmove → Type 0) (us : List Unmove) → ((u : Unmove) → Settled (P u)) → (((u : Unmove) → Contains us u → P u) → ⊥) → (u : Unmove) × IsFirstNot P us u
first_not P [] s fails = absurd (fails (λ u there. absurd (contains-none u there)))
first_not P (u ∷ us) s fails = elim (s u) [
  | inr not_here ↦ (u, ([], us, refl, (λ v there. absurd (contains-none v there)), not_here))
  | inl here ↦
      let rest = first_not P us s (λ all. fails (λ v there. elim (contains-cases u us v there) [ inl same ↦ subst P same here | inr later ↦ all v later ])) in
      (rest.0, (u ∷ rest.1.0, rest.1.1, ap (λ (l : List Unmove). u ∷ l) rest.1.2, (λ v there. elim (contains-cases u rest.1.0 v there) [ inl same ↦ subst P same here | inr later ↦ rest.1.3 v later ]), rest.1.4))
]

pub line_exists : (depth : ℕ) (q : Asked) (ancestors : List Asked) → (IsRefutable q depth ancestors → ⊥) → (line : List Unmove) × IsFirstOpen q depth ancestors line
line_exists zero q ancestors open_ = ([], refl)
line_exists (suc depth) q ancestors open_ = elim (array_settled q) [
  | inl here ↦ ([], here)
  | inr elsewhere ↦
      let first = first_not (λ u. IsRefutable (predecessor q u) depth (q ∷ ancestors)) (unmoves q) (λ u. refutable_settled depth (predecessor q u) (q ∷ ancestors)) (λ all. open_ (inr (elsewhere, all))) in
      let rest = line_exists depth (predecessor q first.0) (q ∷ ancestors) first.1.4 in
      (first.0 ∷ rest.0, (elsewhere, first.1, rest.1))
]

-- two lists that are equal have the same first unmove of which P doesn't hold
same_first : (P : Unmove → Type 0) (a b : List Unmove) (u v : Unmove) (c d : List Unmove) → a ++ u ∷ c ≡ b ++ v ∷ d → ((w : Unmove) → Contains a w → P w) → (P u → ⊥) → ((w : Unmove) → Contains b w → P w) → (P v → ⊥) → u ≡ v
same_first P [] [] u v c d e all not_u all2 not_v = cc
same_first P [] (x ∷ b) u v c d e all not_u all2 not_v = absurd (not_u (let same : u ≡ x = cc in subst P (sym same) (all2 x (contains-first x b))))
same_first P (x ∷ a) [] u v c d e all not_u all2 not_v = absurd (not_v (let same : x ≡ v = cc in subst P same (all x (contains-first x a))))
same_first P (x ∷ a) (y ∷ b) u v c d e all not_u all2 not_v =
    let rest : a ++ u ∷ c ≡ b ++ v ∷ d = cc in
    same_first P a b u v c d rest (λ w there. all w (contains-later x a w there)) not_u (λ w there. all2 w (contains-later y b w there)) not_v

pub line_one : (depth : ℕ) (q : Asked) (ancestors : List Asked) (a b : List Unmove) → IsFirstOpen q depth ancestors a → IsFirstOpen q depth ancestors b → a ≡ b
line_one zero q ancestors a b e f = e ∙ sym f
line_one (suc depth) q ancestors [] [] e f = refl
line_one (suc depth) q ancestors [] (v ∷ b) here (elsewhere, first, rest) = absurd (elsewhere here)
line_one (suc depth) q ancestors (u ∷ a) [] (elsewhere, first, rest) here = absurd (elsewhere here)
line_one (suc depth) q ancestors (u ∷ a) (v ∷ b) (elsewhere, first, rest) (elsewhere2, first2, rest2) =
    let same : u ≡ v = same_first (λ w. IsRefutable (predecessor q w) depth (q ∷ ancestors)) first.0 first2.0 u v first.1 first2.1 (sym first.2 ∙ first2.2) first.3 first.4 first2.3 first2.4 in
    let below = line_one depth (predecessor q v) (q ∷ ancestors) a b (subst (λ (w : Unmove). IsFirstOpen (predecessor q w) depth (q ∷ ancestors) a) same rest) rest2 in
    cc
