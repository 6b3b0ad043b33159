-- Words, the moves that they stand for, and the first that stands for none.
use Rattle.std.proofs.Common.{◌≡◌, ◌<◌, ◌≤◌, ◌+◌, ℕ, arith, List, take, drop, length, get_or, ap, sym, ◌∙◌, subst}
use Rattle.std.specs.Prelude.{Some, None}
use Rattle.std.specs.List.{slice_split}
use Rattle.std.proofs.lemmas.List.{length-map}
use Rattle.std.proofs.lemmas.List.Splits.{length-slice_split}
use Rattle.std.proofs.lemmas.List.Sums.{length-filter, count_by-le-length}
use Rattle.board_base.specs.Texts.{move_of}
use Rattle.board_base.specs.declared.moves.Move.{Move}
use Rattle.game_text.specs.Words.{words, is_blank, AreTextsOf, FirstBad}
use Rattle.general_lemmas.proofs.Splits.{split_at}

-- there are as many texts as moves
pub same_count : (texts : List (List ℕ)) (g : List Move) → AreTextsOf texts g → length texts ≡ length g
same_count texts g are = sym (length-map texts move_of) ∙ ap length are ∙ length-map g (λ m. Some m)

-- the first text that is no move's comes after those that were read
pub first_bad : (texts done : List (List ℕ)) (text : List ℕ) (n : ℕ) (g : List Move) → done ≡ take n texts → (n < length texts) × (text ≡ get_or texts n text) → AreTextsOf done g → move_of text ≡ None → FirstBad texts (length g + 1)
first_bad texts done text n g so_far here are bad =
    let before : AreTextsOf (take n texts) g = subst (λ (l : List (List ℕ)). AreTextsOf l g) so_far are in
    record {
      before = take n texts;
      text = text;
      after = drop (n + 1) texts;
      split = split_at texts n text here.0 here.1;
      number = ap (λ (k : ℕ). k + 1) (same_count (take n texts) g before);
      moves = (g, before);
      bad = bad;
    }

-- a text has no more words than bytes and one
pub few_words : (text : List ℕ) → length (words text) ≤ length text + 1
few_words text =
    let kept : length (words text) ≤ length (slice_split is_blank text) = rw length-filter (count_by-le-length _ (slice_split is_blank text)) in
    omega (arith, kept, length-slice_split is_blank text, count_by-le-length is_blank text)
