-- The least of what is told of ways.
use Rattle.std.proofs.Common.{◌≡◌, ℕ, ◌+◌, ◌<◌, ◌≤◌, ◌⊎◌, inl, inr, Bool, true, min, List, sym, ◌∙◌, arith}
use Rattle.std.proofs.lemmas.Bool.{cases_lt}
use Rattle.board_base.specs.declared.men.Colour.{Colour}
use Rattle.men_fates.specs.Ways.{is_way}
use Rattle.balance_rule.specs.Costs.{never}
use Rattle.balance_rule.specs.LeastWays.{IsLeast}

module _ (c : Colour) (set : List Bool) (h : ℕ) where
  -- only one number is the least
  no-less : (p : List ℕ → Bool) (f : List ℕ → ℕ) (n m : ℕ) → IsLeast c set h p f n → IsLeast c set h p f m → n < m → ⊥
  no-less p f n m a b less =
      let low : n < never = omega (arith, b.most) in
      let some = a.found low in
      let bound : m ≤ f some.0 = b.below some.0 some.1 some.2 in
      let here : f some.0 ≡ n = some.3 in
      omega arith

  pub only-least : (p : List ℕ → Bool) (f : List ℕ → ℕ) (n m : ℕ) → IsLeast c set h p f n → IsLeast c set h p f m → n ≡ m
  only-least p f n m a b = elim (cases_lt n m) [
    | inl less ↦ absurd (no-less p f n m a b less)
    | inr no_less ↦ elim (cases_lt m n) [ inl more ↦ absurd (no-less p f m n b a more) | inr no_more ↦ omega arith ]
  ]

  -- no way passes the test
  pub least-none : (p : List ℕ → Bool) (f : List ℕ → ℕ) → ((way : List ℕ) → is_way c set h way ≡ true → p way ≡ true → ⊥) → IsLeast c set h p f never
  least-none p f none = record {
    most = omega arith;
    below = λ way is passes. absurd (none way is passes);
    found = λ low. absurd (omega arith);
  }

  -- the same ways pass, and the same is told of them
  pub least-like : (p q : List ℕ → Bool) (f g : List ℕ → ℕ) (n : ℕ) → ((way : List ℕ) → is_way c set h way ≡ true → q way ≡ true → p way ≡ true) → ((way : List ℕ) → is_way c set h way ≡ true → p way ≡ true → (q way ≡ true) × (g way ≡ f way)) → IsLeast c set h p f n → IsLeast c set h q g n
  least-like p q f g n back there a = record {
    most = a.most;
    below = λ way is passes.
        let had = back way is passes in
        let bound : n ≤ f way = a.below way is had in
        let same : g way ≡ f way = (there way is had).1 in
        omega arith;
    found = λ low.
        let some = a.found low in
        let more = there some.0 some.1 some.2 in
        (some.0, some.1, more.0, more.1 ∙ some.3);
  }

  -- a way that passes one of two tests
  pub least-either : (p q r : List ℕ → Bool) (f : List ℕ → ℕ) (n m : ℕ) → ((way : List ℕ) → is_way c set h way ≡ true → r way ≡ true → (p way ≡ true) ⊎ (q way ≡ true)) → ((way : List ℕ) → is_way c set h way ≡ true → p way ≡ true → r way ≡ true) → ((way : List ℕ) → is_way c set h way ≡ true → q way ≡ true → r way ≡ true) → IsLeast c set h p f n → IsLeast c set h q f m → IsLeast c set h r f (min n m)
  least-either p q r f n m split first second a b = record {
    most = omega (arith, a.most);
    below = λ way is passes. elim (split way is passes) [
      | inl one ↦ let bound : n ≤ f way = a.below way is one in omega arith
      | inr other ↦ let bound : m ≤ f way = b.below way is other in omega arith
    ];
    found = λ low. elim (cases_lt n m) [
      | inl less ↦
          let some = a.found (let l : n < never = omega arith in l) in
          let e : min n m ≡ n = omega arith in
          (some.0, some.1, first some.0 some.1 some.2, some.3 ∙ sym e)
      | inr no_less ↦
          let some = b.found (let l : m < never = omega arith in l) in
          let e : min n m ≡ m = omega arith in
          (some.0, some.1, second some.0 some.1 some.2, some.3 ∙ sym e)
    ];
  }

  -- a number more for each way
  pub least-plus : (p : List ℕ → Bool) (f g : List ℕ → ℕ) (a n : ℕ) → ((way : List ℕ) → is_way c set h way ≡ true → p way ≡ true → g way ≡ a + f way) → IsLeast c set h p f n → IsLeast c set h p g (min never (a + n))
  least-plus p f g a n more was = record {
    most = omega arith;
    below = λ way is passes.
        let bound : n ≤ f way = was.below way is passes in
        let here : g way ≡ a + f way = more way is passes in
        omega arith;
    found = λ low.
        let some = was.found (let l : n < never = omega arith in l) in
        let here : g some.0 ≡ a + f some.0 = more some.0 some.1 some.2 in
        let there : f some.0 ≡ n = some.3 in
        (some.0, some.1, some.2, omega arith);
  }
