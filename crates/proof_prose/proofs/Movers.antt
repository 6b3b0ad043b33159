-- What is said of retractions holds.
use Rattle.std.proofs.Common.{◌≡◌, ℕ, ◌==◌, Bool, [], length, inl, inr, sym, ◌∙◌, subst, arith}
use Rattle.std.proofs.lemmas.Bool.{cases_Bool, cond-false, cond-true, eqb-false, eqb-true}
use Rattle.query_base.specs.Asked.{Asked}
use Rattle.retraction_bars.specs.Told.{NobodyMoved}
use Rattle.unmove_gen.specs.Listed.{unmoves}
use Rattle.proof_prose.specs.Bodies.{moves_sentence}
use Rattle.proof_sentences.specs.Sentences.{Says}
use Rattle.proof_sentences.specs.declared.sentences.Sentence.{Sentence}
use Rattle.proof_sentences.specs.declared.sentences.Sentence.TheVariants.{Still, Moved}
use Rattle.proof_prose.proofs.Runs.{none-left}

-- there are so many retractions, and of none what is told is so
pub says-moves : (q : Asked) (n : ℕ) (first : Bool) → length (unmoves q) ≡ n → (unmoves q ≡ [] → NobodyMoved q) → Says (moves_sentence n first) q
says-moves q n first e law = elim (cases_Bool (n == 0)) [
  | inl is ↦ subst (λ (s : Sentence). Says s q) (sym (cond-true (n == 0) (Still first) (Moved first) is)) (law (none-left (unmoves q) (e ∙ eqb-true n 0 is)))
  | inr fails ↦
      let some : n ≡ 0 → ⊥ = eqb-false n 0 fails in
      subst (λ (s : Sentence). Says s q) (sym (cond-false (n == 0) (Still first) (Moved first) fails)) (omega (arith, e, some))
]
