-- A search among candidates, one from each square.
use Rattle.std.proofs.Common.{◌≡◌, ◌<◌, ◌≤◌, ℕ, Bool, true, false, ◌∙◌, subst, arith}
use Rattle.std.proofs.lemmas.Bool.{both_ways, false_from_ne_true}
use Rattle.std.specs.Prelude.{Option, Some, None}
use Rattle.board_base.specs.declared.moves.Move.{Move}
use Rattle.san_text.specs.Fits.{IsOnly, HasNone}

-- what passes the test is the candidate from its square
abbrev pub AreCandidates : (Move → Bool) → (ℕ → Move) → Type 0
AreCandidates test candidate = (m : Move) → test m ≡ true → (m.from < 64) × (m ≡ candidate m.from)

-- none of the candidates from squares below i passes
abbrev pub NoneBelow : (Move → Bool) → (ℕ → Move) → ℕ → Type 0
NoneBelow test candidate i = (s : ℕ) → s < i → test (candidate s) ≡ false

-- of the candidates from squares below i this one alone passes
pub record OneBelow (test : Move → Bool) (candidate : ℕ → Move) (i : ℕ) (m : Move) : Type 0 where
  pub passes : test m ≡ true
  pub below : m.from < i
  pub alone : (s : ℕ) → s < i → test (candidate s) ≡ true → candidate s ≡ m

-- what was found among the candidates from squares below i
abbrev pub FoundBelow : (Move → Bool) → (ℕ → Move) → ℕ → Option Move → Type 0
FoundBelow test candidate i None = NoneBelow test candidate i
FoundBelow test candidate i (Some m) = OneBelow test candidate i m

-- at the end the one that was found is the only one
pub only_found : (test : Move → Bool) (candidate : ℕ → Move) (i : ℕ) (m : Move) → 64 ≤ i → AreCandidates test candidate → OneBelow test candidate i m → IsOnly test m
only_found test candidate i m past are found = record {
  passes = found.passes;
  alone = λ n passes.
      let c = are n passes in
      let low : n.from < 64 = c.0 in
      c.1 ∙ found.alone n.from (omega arith) (subst (λ (k : Move). test k ≡ true) c.1 passes);
}

-- and where none was found none passes
pub none_found : (test : Move → Bool) (candidate : ℕ → Move) (i : ℕ) → 64 ≤ i → AreCandidates test candidate → NoneBelow test candidate i → HasNone test
none_found test candidate i past are none = λ n. false_from_ne_true _ (λ passes.
    let c = are n passes in
    let low : n.from < 64 = c.0 in
    both_ways _ (none n.from (omega arith)) (subst (λ (k : Move). test k ≡ true) c.1 passes))
