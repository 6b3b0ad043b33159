-- The sentences that tell why nobody can have moved last.
use Rattle.std.specs.Prelude.{ℕ, Bool, cond, ◌&&◌, not, ◌==◌, nat_lt, length, List, [], ◌++◌, Option, Some, None}
use Rattle.std.specs.List.{flat_map, list_any, range_with_len}
use Rattle.board_base.specs.Board.{at, is_the, rank}
use Rattle.board_base.specs.Legal.{pawn_rank}
use Rattle.board_base.specs.declared.men.Kind.TheVariants.{Pawn}
use Rattle.query_base.specs.Asked.{Asked}
use Rattle.unmove_gen.specs.Listed.{mover}
use Rattle.retraction_bars.specs.Clauses.{clauses}
use Rattle.retraction_bars.specs.Exceptions.{main_of, told_clauses}
use Rattle.retraction_bars.specs.Pairs.{pair_of}
use Rattle.retraction_bars.specs.Phrases.{phrase}
use Rattle.retraction_bars.specs.Sentences.{bar_words, label_words, sentences_words, text_if}
use Rattle.retraction_bars.specs.declared.bars.Bar.TheVariants.{Check}
use Rattle.retraction_bars.specs.declared.gathering.Clause.{Clause}
use Rattle.retraction_bars.specs.declared.pairs.Pair.{Pair}
use Rattle.retraction_bars.specs.declared.phrases.Phrase.{Phrase}
use Rattle.retraction_bars.specs.declared.phrases.Phrase.TheVariants.{Also, AtOnce, Each, ElseEach, OnFirst, OnOwnFirst, Or, Stop, ToComeFrom}

-- Article 2.3: a pawn of the side that moved stands on its first square
abbrev pub is_first : Asked → ℕ → Bool
is_first q t = is_the (mover q) Pawn (at q.board t) && (rank t == pawn_rank (mover q))

-- the men on the squares that pass a test
abbrev pub label_if : Asked → (ℕ → Bool) → ℕ → List ℕ
label_if q p t = text_if (p t) (label_words q t)

-- the men on the squares that pass a test, one after another
unfoldable pub labels_words : Asked → (ℕ → Bool) → List ℕ
labels_words q p = flat_map (label_if q p) (range_with_len 0 64)

-- some pawn of the side that moved stands on its first square
unfoldable pub has_first : Asked → Bool
has_first q = list_any (is_first q) (range_with_len 0 64)

-- what is said of the pawns on these first squares, each of which is two letters after a space
abbrev pub firsts_phrase : List ℕ → Phrase
firsts_phrase labels = cond (length labels == 3) OnOwnFirst OnFirst

-- the sentence of some pawns on their first squares
abbrev pub some_firsts : List ℕ → List ℕ
some_firsts labels = labels ++ phrase (firsts_phrase labels)

-- the sentence of the pawns on their first squares
abbrev pub firsts_words : Asked → List ℕ
firsts_words q = text_if (has_first q) (some_firsts (labels_words q (is_first q)))

-- some clauses belong to the rest, since fewer are told by themselves
abbrev pub has_rest : List Clause → List Clause → Bool
has_rest cs told = nat_lt (length told) (length cs)

-- how the sentence of the rest begins, behind these clauses
abbrev pub rest_start : List Clause → Phrase
rest_start told = cond (length told == 0) Each ElseEach

-- that the main man gave check already, if there is one
abbrev pub main_words : Asked → Option ℕ → List ℕ
main_words q None = []
main_words q (Some s) = phrase Or ++ bar_words q (Check s)

-- the sentence of the rest
abbrev pub rest_words : Asked → Option ℕ → List Clause → List ℕ
rest_words q main told = phrase (rest_start told) ++ phrase ToComeFrom ++ main_words q main ++ phrase Stop

-- The sentences that tell of these clauses, of which some are told by themselves; where all are, also the pawns without ways are named.
abbrev pub sentences_of : Asked → Option ℕ → List Clause → List Clause → List ℕ
sentences_of q main cs told =
    text_if (not (has_rest cs told)) (firsts_words q) ++ sentences_words q told ++ text_if (has_rest cs told) (rest_words q main told)

-- the sentence of two men who give check at once
abbrev pub pair_words : Asked → Pair → List ℕ
pair_words q p = label_words q p.first ++ phrase Also ++ label_words q p.second ++ phrase AtOnce

-- the sentence of the two, if there are such, else others
abbrev pub pair_or : Asked → Option Pair → List ℕ → List ℕ
pair_or q None others = others
pair_or q (Some p) others = pair_words q p

-- The sentences that tell why nobody can have moved last, each after a space: two checks that no move gives at once; else, bar by bar, the
-- men all of whose ways it bars and those of whom it bars some, of all clauses but those that belong to the rest; and last that for the
-- rest each square to come from is occupied, or the main man gave check already. Where there is no rest, the pawns on their first squares
-- come first.
unfoldable pub bars_text : Asked → List ℕ
bars_text q = pair_or q (pair_of q) (sentences_of q (main_of q) (clauses q) (told_clauses q))
