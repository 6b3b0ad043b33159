-- What is so of the sentences of each line and of each group is so of all.
use Rattle.std.proofs.Common.{◌≡◌, inl, inr, Bool, true, List, [], ◌∷◌, ◌++◌}
use Rattle.std.specs.List.{All, Contains, flat_map}
use Rattle.std.proofs.lemmas.Bool.{cases_Bool, cond-false, cond-true}
use Rattle.std.proofs.lemmas.List.Elements.{All-append, All-cons, All-nil, All-same}
use Rattle.board_base.specs.declared.men.Colour.{Colour}
use Rattle.board_base.specs.declared.men.Colour.TheVariants.{White, Black}
use Rattle.general_lemmas.proofs.Lists.{contains-first, contains-later}
use Rattle.query_base.specs.Asked.{Asked}
use Rattle.ledger_lines.specs.declared.lines.Line.{Line}
use Rattle.ledger_prose.specs.Sentences.{Sentence, captured_sentences, closing, falls, group_sentences, line_sentences, one_if, opening, part_sentences, sentences_in, sentences_of, topic_sentences}
use Rattle.ledger_prose.specs.declared.parts.Group.{Group}
use Rattle.ledger_prose.specs.declared.parts.Part.{Part}
use Rattle.ledger_prose.specs.declared.parts.Part.TheVariants.{Captured, Each, Together}
use Rattle.ledger_prose.specs.declared.parts.Topic.{Topic}

-- a sentence that is due, or none
pub all-one : (R : Sentence → Type 0) (due : Bool) (s : Sentence) → (due ≡ true → R s) → All R (one_if due s)
all-one R due s holds = elim (cases_Bool due) [
  | inl is ↦ All-same R (one_if due s) (s ∷ []) (cond-true due (s ∷ []) [] is) (All-cons R s [] (holds is) (All-nil R))
  | inr less ↦ All-same R (one_if due s) [] (cond-false due (s ∷ []) [] less) (All-nil R)
]

module _ (R : Sentence → Type 0) (q : Asked) (lines : List Line) (each : (topic : Topic) (x : Line) → Contains lines x → All R (line_sentences topic q lines x)) (pawns : (c : Colour) → All R (captured_sentences c q lines)) (grouped : (group : Group) → All R (group_sentences group q lines)) where
  all-lines : (topic : Topic) (xs : List Line) → ((x : Line) → Contains xs x → Contains lines x) → All R (flat_map (line_sentences topic q lines) xs)
  all-lines topic [] among = All-nil R
  all-lines topic (x ∷ xs) among =
      All-append R (line_sentences topic q lines x) (flat_map (line_sentences topic q lines) xs) (each topic x (among x (contains-first x xs))) (all-lines topic xs (λ y h. among y (contains-later x xs y h)))

  of-topic : (topic : Topic) → All R (topic_sentences topic q lines)
  unfolding topic_sentences
  of-topic topic = all-lines topic lines (λ x h. h)

  of-part : (part : Part) → All R (part_sentences part q lines)
  of-part (Each topic) = of-topic topic
  of-part (Captured c) = pawns c
  of-part (Together group) = grouped group

  of-each : (parts : List Part) → All R (flat_map (λ (part : Part). part_sentences part q lines) parts)
  of-each [] = All-nil R
  of-each (part ∷ parts) =
      All-append R (part_sentences part q lines) (flat_map (λ (p : Part). part_sentences p q lines) parts) (of-part part) (of-each parts)

  of-parts : (parts : List Part) → All R (sentences_in parts q lines)
  unfolding sentences_in
  of-parts parts = of-each parts

  both : (xs ys : List Sentence) → All R xs → All R ys → All R (xs ++ ys)
  both xs ys first last = All-append R xs ys first last

  of-all : All R (sentences_of q lines)
  of-all = both _ _ (both _ _ (both _ _ (of-parts opening) (of-parts (falls White))) (of-parts (falls Black))) (of-parts closing)

pub all-sentences : (R : Sentence → Type 0) (q : Asked) (lines : List Line) → ((topic : Topic) (x : Line) → Contains lines x → All R (line_sentences topic q lines x)) → ((c : Colour) → All R (captured_sentences c q lines)) → ((group : Group) → All R (group_sentences group q lines)) → All R (sentences_of q lines)
all-sentences R q lines each pawns grouped = of-all R q lines each pawns grouped
