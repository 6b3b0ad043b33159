-- What is kept, with all that its trees expand.
use Rattle.std.proofs.Common.{◌≡◌, ℕ, zero, suc, inl, inr, List, [], ◌∷◌, ◌++◌, sym, ap, ◌∙◌, subst}
use Rattle.std.specs.List.{All, Contains}
use Rattle.std.specs.Map.{keys_of, values_of}
use Rattle.std.proofs.lemmas.List.Elements.{All-head, All-tail, Contains-append_cases, Contains-append_left}
use Rattle.board_base.specs.declared.unmoves.Unmove.{Unmove}
use Rattle.general_lemmas.proofs.Lists.{contains-cases, contains-first, contains-later, contains-none}
use Rattle.query_base.specs.Asked.{Asked}
use Rattle.unmove_gen.specs.Listed.{unmoves}
use Rattle.unmove_gen.specs.Predecessor.{predecessor}
use Rattle.retro_search.specs.Lone.{StandsIn}
use Rattle.retro_search.specs.Good.{AreWhole, IsDone}
use Rattle.retro_search.specs.declared.memos.Kept.{Kept}

-- what is done stays done where more is kept
pub done_on : (old new : List Asked) (q : Asked) → ((p : Asked) → Contains old p → Contains new p) → IsDone old q → IsDone new q
done_on old new q more (inl closed) = inl closed
done_on old new q more (inr there) = inr (more q there)

-- a query whose predecessors are done may be kept
pub whole_more : (kept : List Asked) (q : Asked) → AreWhole kept → ((u : Unmove) → Contains (unmoves q) u → IsDone kept (predecessor q u)) → AreWhole (kept ++ q ∷ [])
whole_more kept q whole own p there u listed =
    let more : (x : Asked) → Contains kept x → Contains (kept ++ q ∷ []) x = λ x inside. Contains-append_left kept (q ∷ []) x inside in
    elim (Contains-append_cases kept (q ∷ []) p there) [
      | inl old ↦ done_on kept (kept ++ q ∷ []) (predecessor p u) more (whole p old u listed)
      | inr last ↦ elim (contains-cases q [] p last) [
        | inl same ↦
            let mine : Contains (unmoves q) u = subst (λ (a : Asked). Contains (unmoves a) u) (sym same) listed in
            subst (λ (a : Asked). IsDone (kept ++ q ∷ []) (predecessor a u)) same (done_on kept (kept ++ q ∷ []) (predecessor q u) more (own u mine))
        | inr none ↦ absurd (contains-none p none)
      ]
    ]

-- all that stands in the tree of a query that is done is done
pub tree_done : (depth : ℕ) (p q : Asked) (kept : List Asked) → AreWhole kept → IsDone kept q → StandsIn p q depth → IsDone kept p
tree_done zero p q kept whole done same = subst (λ (a : Asked). IsDone kept a) (sym same) done
tree_done (suc depth) p q kept whole done (inl same) = subst (λ (a : Asked). IsDone kept a) (sym same) done
tree_done (suc depth) p q kept whole (inl closed) (inr (unclosed, below)) = absurd (unclosed closed)
tree_done (suc depth) p q kept whole (inr there) (inr (unclosed, (u, listed, stands))) = tree_done depth p (predecessor q u) kept whole (whole q there u listed) stands

-- the query of a tree that is kept is a key
pub value_key : (es : List (Asked × Kept)) (k : Kept) → All (λ e. e.1.query ≡ e.0) es → Contains (values_of es) k → Contains (keys_of es) k.query
value_key [] k own there = absurd (contains-none k there)
value_key (e ∷ es) k own there = elim (contains-cases e.1 (values_of es) k there) [
  | inl same ↦ subst (λ (a : Asked). Contains (keys_of (e ∷ es)) a) (sym (All-head (λ (x : Asked × Kept). x.1.query ≡ x.0) e es own) ∙ ap (λ (x : Kept). x.query) same) (contains-first e.0 (keys_of es))
  | inr later ↦ contains-later e.0 (keys_of es) k.query (value_key es k (All-tail (λ (x : Asked × Kept). x.1.query ≡ x.0) e es own) later)
]
