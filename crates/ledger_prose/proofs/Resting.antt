-- Each sentence rests on lines of the ledger.
use Rattle.std.proofs.Common.{Bool, List, [], ◌∷◌}
use Rattle.std.specs.Prelude.{◌&&◌, nat_lt}
use Rattle.std.specs.List.{All, Contains, filter}
use Rattle.std.proofs.lemmas.List.Elements.{All-cons, All-contains_itself, All-filter, All-nil}
use Rattle.board_base.specs.declared.men.Colour.{Colour}
use Rattle.board_base.specs.declared.men.Colour.TheVariants.{White, Black}
use Rattle.query_base.specs.Asked.{Asked}
use Rattle.ledger_lines.specs.declared.lines.Line.{Line}
use Rattle.ledger_prose.specs.Sentences.{RestsOn, alone, are_all_taken, are_untold, captured, captured_sentences, group_lines, group_sentences, has_taken_all, is_change, is_lacking, is_of_group, is_origin, is_taken, lacks, line_sentences, needed, number_named, sentences_of, together, took}
use Rattle.ledger_prose.specs.declared.parts.Group.{Group}
use Rattle.ledger_prose.specs.declared.parts.Group.TheVariants.{Captors}
use Rattle.ledger_prose.specs.declared.parts.Topic.{Topic}
use Rattle.ledger_prose.specs.declared.parts.Topic.TheVariants.{Lacking, Taken, Spare, Changed, Origins}
use Rattle.ledger_prose.proofs.EachSentence.{all-one, all-sentences}

-- what a filter keeps is among them
filtered : (p : Line → Bool) (lines : List Line) → All (Contains lines) (filter p lines)
filtered p lines = All-filter p (Contains lines) lines (All-contains_itself lines)

more : (lines : List Line) (x : Line) (xs : List Line) → Contains lines x → All (Contains lines) xs → All (Contains lines) (x ∷ xs)
more lines x xs here rest = All-cons (Contains lines) x xs here rest

just : (lines : List Line) (x : Line) → Contains lines x → All (Contains lines) (x ∷ [])
just lines x here = more lines x [] here (All-nil (Contains lines))

line-rests : (q : Asked) (lines : List Line) (topic : Topic) (x : Line) → Contains lines x → All (RestsOn lines) (line_sentences topic q lines x)
line-rests q lines (Lacking c) x here = all-one (RestsOn lines) (is_lacking c x) (lacks x) (λ due. just lines x here)
line-rests q lines (Taken c) x here =
    all-one (RestsOn lines) (is_taken c x) (took x (group_lines (Captors c) q lines)) (λ due. more lines x (group_lines (Captors c) q lines) here (filtered (is_of_group (Captors c) q lines) lines))
line-rests q lines Spare x here =
    all-one (RestsOn lines) (are_all_taken White x && has_taken_all Black lines) (needed x (filter (are_all_taken Black) lines)) (λ due. more lines x (filter (are_all_taken Black) lines) here (filtered (are_all_taken Black) lines))
line-rests q lines Changed x here = all-one (RestsOn lines) (is_change x) (alone x) (λ due. just lines x here)
line-rests q lines Origins x here = all-one (RestsOn lines) (is_origin x) (alone x) (λ due. just lines x here)

pawns-rest : (q : Asked) (lines : List Line) (c : Colour) → All (RestsOn lines) (captured_sentences c q lines)
pawns-rest q lines c =
    let ways : List Line = group_lines (Captors c) q lines in
    all-one (RestsOn lines) (are_untold c lines ways) (captured c ways) (λ due. filtered (is_of_group (Captors c) q lines) lines)

group-rests : (q : Asked) (lines : List Line) (group : Group) → All (RestsOn lines) (group_sentences group q lines)
group-rests q lines group =
    all-one (RestsOn lines) (nat_lt 0 (number_named q (group_lines group q lines))) (together group (group_lines group q lines)) (λ due. filtered (is_of_group group q lines) lines)

pub all-rest : (q : Asked) (lines : List Line) → All (RestsOn lines) (sentences_of q lines)
all-rest q lines = all-sentences (RestsOn lines) q lines (line-rests q lines) (pawns-rest q lines) (group-rests q lines)
