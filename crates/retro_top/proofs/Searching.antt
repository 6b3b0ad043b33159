-- Which status `verdict` and `tree` answer, and what `verdict` says.
use Rattle.std.proofs.Common.{◌≡◌, ℕ, ◌≤◌, Bool, List, [], ◌∷◌, refl, arith}
use Rattle.std.specs.List.{Contains}
use Rattle.query_base.specs.Asked.{Asked}
use Rattle.codex_verdict.specs.Rights.{AreRights, claim_of}
use Rattle.codex_verdict.specs.declared.kinds.Right.{Right}
use Rattle.tree_browser.specs.Trees.{HasMoreLines, IsTreeText}
use Rattle.retro_top.specs.Answers.{Decides}
use Rattle.question_text.specs.Questions.{AsksAlone}
use Rattle.command_answers.specs.Solves.{IsCheap}
use Rattle.command_answers.specs.Trees.{AnswersTree, AnswersTreeOf, AsksForFewLines, AsksForMoreLines}
use Rattle.command_answers.specs.Verdicts.{AnswersPosition, AnswersRights, AnswersVerdict, AsksForCheap, Each, IsSettled, verdicts_text}
use Rattle.command_answers.specs.declared.statuses.Status.{Status}
use Rattle.command_answers.specs.declared.statuses.Status.TheVariants.{Done, Spent}
use Rattle.retro_top.proofs.Asking.{done-alone, said-alone}

-- the targets of these rights have costs of at most so many nodes
abbrev AreCheap : ℕ → ℕ → Asked → Type 0
AreCheap depth nodes q = (rights : List Right) → AreRights q.board q.turn rights → (right : Right) → Contains rights right → IsCheap depth nodes (claim_of right) q

rights-done : (depth nodes : ℕ) (q : Asked) (rights : List Right) (ending : Status) (text : List ℕ) → AnswersRights depth nodes q rights ending text → ((right : Right) → Contains rights right → IsCheap depth nodes (claim_of right) q) → ending ≡ Done
rights-done depth nodes q rights Done text answers cheap = refl
rights-done depth nodes q rights Spent text answers cheap =
    let enough = cheap answers.right answers.is_one in absurd (omega (arith, answers.dear.cost enough.0 enough.1, enough.2))
rights-done depth nodes q rights _ text answers cheap = absurd answers

-- where the nodes suffice for each right, each is told
pub cheap-done : (depth nodes : ℕ) (input : List ℕ) (ending : Status) (text : List ℕ) → AnswersVerdict depth nodes input ending text → AsksForCheap depth nodes input → ending ≡ Done
cheap-done depth nodes input ending text answers cheap =
    let said = said-alone (AnswersPosition depth nodes) (AreCheap depth nodes) input cheap.0 ending text answers cheap.1 cheap.2 in
    rights-done depth nodes said.0 said.2.0 ending text said.2.2 (said.1 said.2.0 said.2.1)

-- what holds of each right and its truth value may be weakened
each-weaker : (P Q : Right → Bool → Type 0) → ((right : Right) (s : Bool) → P right s → Q right s) → (rights : List Right) (settled : List Bool) → Each P rights settled → Each Q rights settled
each-weaker P Q law [] [] each = tt
each-weaker P Q law [] (s ∷ others) each = absurd each
each-weaker P Q law (right ∷ rights) [] each = absurd each
each-weaker P Q law (right ∷ rights) (s ∷ others) each = (law right s each.0, each-weaker P Q law rights others each.1)

-- where `verdict` is done, its text tells which rights are settled, and what is settled holds
pub record Decided (depth : ℕ) (input text : List ℕ) : Type 0 where
  pub query : Asked
  pub rights : List Right
  pub settled : List Bool
  pub alone : AsksAlone input query
  pub are : AreRights query.board query.turn rights
  pub lines : text ≡ verdicts_text depth rights settled
  pub hold : Each (Decides query) rights settled

pub done-decided : (depth nodes : ℕ) (input text : List ℕ) → AnswersVerdict depth nodes input Done text → Decided depth input text
done-decided depth nodes input text answers =
    let alone = done-alone (AnswersPosition depth nodes) input text answers in
    let told = alone.2.2 in
    record {
      query = alone.0;
      rights = alone.2.0;
      settled = told.0;
      alone = alone.1;
      are = alone.2.1;
      lines = told.2;
      hold = each-weaker (IsSettled alone.0 depth nodes) (Decides alone.0) (λ right s settles. settles.holds) alone.2.0 told.0 told.1;
    }

-- each query has at most one tree, of one number of lines
abbrev pub OneTextEach : Type 0
OneTextEach = (q : Asked) (depth m n : ℕ) (s t : List ℕ) → IsTreeText q depth m s → IsTreeText q depth n t → (m ≡ n) × (s ≡ t)

-- no tree has both few lines and more
few-not-more : OneTextEach → (q : Asked) (depth nodes n : ℕ) (text : List ℕ) → IsTreeText q depth n text → n ≤ nodes → HasMoreLines q depth nodes → ⊥
few-not-more one q depth nodes n text is few more = let same = (one q depth n more.0 text more.1 is more.2).0 in omega (arith, same, few, more.3)

-- so a tree is written where it has few lines, and else said to have more
tree-done : OneTextEach → (depth nodes : ℕ) (q : Asked) (ending : Status) (text : List ℕ) → AnswersTreeOf depth nodes q ending text → (n : ℕ) × (lines : List ℕ) × IsTreeText q depth n lines × (n ≤ nodes) → ending ≡ Done
tree-done one depth nodes q Done text answers few = refl
tree-done one depth nodes q Spent text answers few = absurd (few-not-more one q depth nodes few.0 few.1 few.2 few.3 answers.0)
tree-done one depth nodes q _ text answers few = absurd answers

pub few-done : OneTextEach → (depth nodes : ℕ) (input : List ℕ) (ending : Status) (text : List ℕ) → AnswersTree depth nodes input ending text → AsksForFewLines depth nodes input → ending ≡ Done
few-done one depth nodes input ending text answers few =
    let said = said-alone (AnswersTreeOf depth nodes) (λ q. (n : ℕ) × (lines : List ℕ) × IsTreeText q depth n lines × (n ≤ nodes)) input few.0 ending text answers few.3 (few.1, few.2, few.4, few.5) in
    tree-done one depth nodes said.0 ending text said.2 said.1

tree-spent : OneTextEach → (depth nodes : ℕ) (q : Asked) (ending : Status) (text : List ℕ) → AnswersTreeOf depth nodes q ending text → HasMoreLines q depth nodes → ending ≡ Spent
tree-spent one depth nodes q Done text answers more = absurd (few-not-more one q depth nodes answers.0 text answers.1 answers.2 more)
tree-spent one depth nodes q Spent text answers more = refl
tree-spent one depth nodes q _ text answers more = absurd answers

pub more-spent : OneTextEach → (depth nodes : ℕ) (input : List ℕ) (ending : Status) (text : List ℕ) → AnswersTree depth nodes input ending text → AsksForMoreLines depth nodes input → ending ≡ Spent
more-spent one depth nodes input ending text answers more =
    let said = said-alone (AnswersTreeOf depth nodes) (λ q. HasMoreLines q depth nodes) input more.0 ending text answers more.1 more.2 in
    tree-spent one depth nodes said.0 ending text said.2 said.1
