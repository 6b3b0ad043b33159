-- The text of a game is read as its moves.
use Rattle.std.proofs.Common.{◌≡◌, ◌<◌, ◌≤◌, ◌+◌, ◌/◌, ◌%◌, ◌^◌, ◌-◌, ◌*◌, ◌==◌, ℕ, Bool, true, false, cond, List, [], ◌∷◌, ◌++◌, length, map, refl, sym, ap, ◌∙◌, subst, arith, rules, append_assoc, option_map}
use Rattle.std.proofs.lemmas.Bool.{and_parts, cond-true, cond-false, leb-true, ne_eqb, false_from_ne_true}
use Rattle.std.proofs.lemmas.Fmt.{digits_decimal, decimal_nonempty}
use Rattle.std.proofs.lemmas.List.{length-append, map-append, append-nil}
use Rattle.std.proofs.lemmas.List.Sums.{fold-append}
use Rattle.std.proofs.lemmas.Grind.{flat_map-append}
use Rattle.std.proofs.lemmas.Str.Parse.{IsNumeralModel, numerals_by_fold}
use Rattle.std.specs.Fmt.{decimal}
use Rattle.std.specs.List.{fold, list_all, flat_map}
use Rattle.std.specs.Prelude.{Option, Some, None, nat_le}
use Rattle.board_base.specs.Texts.{◌>>=◌, square_at, square_text, is_digit}
use Rattle.board_base.specs.Play.{play, castling}
use Rattle.board_base.specs.declared.men.Colour.{Colour}
use Rattle.board_base.specs.declared.men.Colour.TheVariants.{White, Black}
use Rattle.board_base.specs.declared.men.Kind.{Kind}
use Rattle.board_base.specs.declared.men.Kind.TheVariants.{Pawn, Knight, Bishop, Rook, Queen, King}
use Rattle.board_base.specs.declared.moves.Move.{Move}
use Rattle.play_rules.specs.States.{Position}
use Rattle.play_rules.proofs.Kings.{length-played}
use Rattle.game_text.specs.Words.{words}
use Rattle.san_text.specs.Games.{LeadTo, IsGameText}
use Rattle.san_text.specs.Grammar.{file_of, pawn_end, pawn_of, san_of}
use Rattle.san_text.specs.Pieces.{added, added_all}
use Rattle.san_text.specs.Spelling.{capital, file_text, rank_text, takes_text, promotion_text, end_text, origin_text, said_text, mark_text, mark_of, next, named, spelling}
use Rattle.san_text.specs.SpelledGames.{AreLegal, game_spelling, numbered, spelled_words, state_after}
use Rattle.san_text.specs.Words.{Say, word_of, rest_of, after_digits, after_dots, said_of, moves_said, without_result, is_result}
use Rattle.san_text.specs.declared.grammar.Going.{Going}
use Rattle.san_text.specs.declared.grammar.San.{San}
use Rattle.san_text.specs.declared.grammar.San.TheVariants.{Short, Long, Goes}
use Rattle.san_text.specs.declared.marks.Mark.{Mark}
use Rattle.san_text.specs.declared.marks.Mark.TheVariants.{Quiet, Check, Mate}
use Rattle.san_text.specs.declared.words.Word.{Word}
use Rattle.san_text.specs.declared.words.Word.TheVariants as word
use Rattle.san_text.proofs.Blanks.{HasNoBlank, IsWord, AreWords, above_space, are_words_more, no_blank_more, word_from, words_back}
use Rattle.san_text.proofs.Fitted.{named_only}
use Rattle.san_text.proofs.Spelled.{spelling_reads}
use Rattle.san_text.proofs.Told.{no_result}
use Rattle.board_base.proofs.TextLemmas.{none_then}

-- a spelling has no blank
capital_clean : (k : Kind) → HasNoBlank (capital k)
capital_clean Pawn = tt
capital_clean Knight = (refl, tt)
capital_clean Bishop = (refl, tt)
capital_clean Rook = (refl, tt)
capital_clean Queen = (refl, tt)
capital_clean King = (refl, tt)

file_clean : (o : Option ℕ) → HasNoBlank (file_text o)
file_clean None = tt
file_clean (Some f) = (above_space (97 + f) (omega arith), tt)

rank_clean : (o : Option ℕ) → HasNoBlank (rank_text o)
rank_clean None = tt
rank_clean (Some r) = (above_space (49 + r) (omega arith), tt)

takes_clean : (b : Bool) → HasNoBlank (takes_text b)
takes_clean true = (refl, tt)
takes_clean false = tt

square_clean : (s : ℕ) → HasNoBlank (square_text s)
square_clean s = (above_space (97 + s % 8) (omega arith), (above_space (49 + s / 8) (omega arith), tt))

promotion_clean : (o : Option Kind) → HasNoBlank (promotion_text o)
promotion_clean None = tt
promotion_clean (Some k) = (refl, capital_clean k)

origin_clean : (d : Going) → HasNoBlank (origin_text d)
origin_clean d =
    no_blank_more (capital d.kind ++ file_text d.file) (rank_text d.rank) (no_blank_more (capital d.kind) (file_text d.file) (capital_clean d.kind) (file_clean d.file)) (rank_clean d.rank)

end_clean : (d : Going) → HasNoBlank (end_text d)
end_clean d =
    no_blank_more (takes_text d.takes ++ square_text d.to) (promotion_text d.promo) (no_blank_more (takes_text d.takes) (square_text d.to) (takes_clean d.takes) (square_clean d.to)) (promotion_clean d.promo)

said_clean : (said : San) → HasNoBlank (said_text said)
said_clean Short = (refl, (refl, (refl, tt)))
said_clean Long = (refl, (refl, (refl, (refl, (refl, tt)))))
said_clean (Goes d) = no_blank_more (origin_text d) (end_text d) (origin_clean d) (end_clean d)

said_some : (said : San) → 0 < length (said_text said)
said_some Short = omega arith
said_some Long = omega arith
said_some (Goes d) =
    let whole = length-append (origin_text d) (end_text d) in
    let end = length-append (takes_text d.takes ++ square_text d.to) (promotion_text d.promo) in
    let target = length-append (takes_text d.takes) (square_text d.to) in
    omega (arith, whole, end, target)

mark_clean : (k : Mark) → HasNoBlank (mark_text k)
mark_clean Quiet = tt
mark_clean Check = (refl, tt)
mark_clean Mate = (refl, tt)

spelling_word : (p : Position) (m : Move) → IsWord (spelling p m)
unfolding spelling
spelling_word p m =
    let said = said_text (named p m) in
    let mark = mark_text (mark_of (next p m)) in
    word_from (said ++ mark) (omega (arith, length-append said mark, said_some (named p m))) (no_blank_more said mark (said_clean (named p m)) (mark_clean (mark_of (next p m))))

-- a number and a dot are a move's number
model : IsNumeralModel (λ ds. list_all is_digit ds ≡ true) (λ ds. fold (λ k d. 10 * k + (d - 48)) 0 ds)
model = numerals_by_fold _ (search rules) (λ n ds. fold (λ k d. 10 * k + (d - 48)) n ds) (search rules)

digits_clean : (text : List ℕ) → list_all is_digit text ≡ true → HasNoBlank text
digits_clean [] all = tt
digits_clean (b ∷ text) all =
    let h = and_parts _ _ all in
    let high = leb-true 48 b (and_parts (nat_le 48 b) (nat_le b 57) h.0).0 in
    (above_space b (omega arith), digits_clean text h.1)

dotted : (text : List ℕ) → list_all is_digit text ≡ true → after_digits (text ++ 46 ∷ []) ≡ 46 ∷ []
dotted [] all = refl
dotted (b ∷ text) all = let h = and_parts _ _ all in cond-true (is_digit b) _ _ h.0 ∙ dotted text h.1

number_told : (text : List ℕ) → 0 < length text → list_all is_digit text ≡ true → word_of (text ++ 46 ∷ []) ≡ Some word.Number
number_told [] some all = absurd (omega arith)
number_told (b ∷ text) some all =
    let h = and_parts _ _ all in
    let rest : rest_of (b ∷ text ++ 46 ∷ []) ≡ Some [] = cond-true (is_digit b) _ _ h.0 ∙ ap after_dots (dotted text h.1) in
    ap (λ (o : Option (List ℕ)). o >>= said_of) rest

number_clean : (k : ℕ) → k < 2 ^ 64 → IsWord (decimal k ++ 46 ∷ [])
number_clean k small =
    word_from (decimal k ++ 46 ∷ []) (let whole = length-append (decimal k) (46 ∷ []) in omega (arith, whole)) (no_blank_more (decimal k) (46 ∷ []) (digits_clean (decimal k) (digits_decimal model k small)) (refl, tt))

-- a text that begins with a digit is no move's
both_none : {A : Type 0} (b : Bool) (x y : Option A) → x ≡ None → y ≡ None → cond b x y ≡ None
both_none true x y e f = e
both_none false x y e f = f

low : (b : ℕ) → b ≤ 57 → nat_le 97 b ≡ false
low b below = false_from_ne_true _ (λ e. let high = leb-true 97 b e in absurd (omega arith))

pawn_none : (b : ℕ) (rest : List ℕ) → b ≤ 57 → pawn_of (b ∷ rest) ≡ None
pawn_none b [] below = refl
pawn_none b (c ∷ rest) below =
    both_none (c == 120) _ _ (none_then (file_of b) (λ file. pawn_end (Some file) rest) (rw (low b below) refl)) (none_then (square_at b c) _ (rw (low b below) refl))

digit_none : (b : ℕ) (rest : List ℕ) → b ≤ 57 → san_of (b ∷ rest) ≡ None
unfolding san_of
digit_none b rest below =
    rw (ne_eqb b 79 (λ e. omega arith), ne_eqb b 75 (λ e. omega arith), ne_eqb b 78 (λ e. omega arith), ne_eqb b 66 (λ e. omega arith), ne_eqb b 82 (λ e. omega arith), ne_eqb b 81 (λ e. omega arith)) (pawn_none b rest below)

no_digit : (b : ℕ) (rest : List ℕ) (said : San) → san_of (b ∷ rest) ≡ Some said → is_digit b ≡ false
no_digit b rest said e =
    false_from_ne_true _ (λ d. let below = leb-true b 57 (and_parts (nat_le 48 b) (nat_le b 57) d).1 in absurd (differ (digit_none b rest below)))
  where
    differ : san_of (b ∷ rest) ≡ None → ⊥
    differ none = let other : None ≡ Some said = sym none ∙ e in cc

-- a text of the grammar is a move's word
text_told : (text : List ℕ) (said : San) → IsWord text → san_of text ≡ Some said → word_of text ≡ Some (word.Move said)
text_told [] said some e = absurd some
text_told (b ∷ rest) said some e =
    ap (λ (o : Option (List ℕ)). o >>= said_of) (cond-false (is_digit b) (after_dots (after_digits rest)) (Some (b ∷ rest)) (no_digit b rest said e))
    ∙ ap (option_map (λ (s : San). word.Move s)) e

-- a move's words say it
say_numbered : (c : Colour) (k : ℕ) (text : List ℕ) (said : San) → k < 2 ^ 64 → word_of text ≡ Some (word.Move said) → Say (numbered c k text) (said ∷ [])
say_numbered White k text said small e = record {
  told = word.Number ∷ word.Move said ∷ [];
  words_are =
      ap (λ (o : Option Word). o ∷ word_of text ∷ []) (number_told (decimal k) (decimal_nonempty k small) (digits_decimal model k small))
      ∙ ap (λ (o : Option Word). Some word.Number ∷ o ∷ []) e;
  said_are = refl;
}
say_numbered Black k text said small e = record {
  told = word.Move said ∷ [];
  words_are = ap (λ (o : Option Word). o ∷ []) e;
  said_are = refl;
}

say_both : (xs ys : List (List ℕ)) (s t : List San) → Say xs s → Say ys t → Say (xs ++ ys) (s ++ t)
say_both xs ys s t a b = record {
  told = a.told ++ b.told;
  words_are = map-append word_of xs ys
      ∙ ap (λ (l : List (Option Word)). l ++ map word_of ys) a.words_are
      ∙ ap (λ (l : List (Option Word)). map (λ (w : Word). Some w) a.told ++ l) b.words_are
      ∙ sym (map-append (λ (w : Word). Some w) a.told b.told);
  said_are = flat_map-append moves_said a.told b.told
      ∙ ap (λ (l : List San). l ++ flat_map moves_said b.told) a.said_are
      ∙ ap (λ (l : List San). s ++ l) b.said_are;
}

length-next : (p : Position) (m : Move) → length p.board ≡ 64 → length (next p m).board ≡ 64
unfolding play
length-next p m size = length-played p.board m (castling p.board m) ∙ size

-- the words of moves that are legal one after another say these moves
words_say : (p : Position) (n : ℕ) (moves : List Move) → length p.board ≡ 64 → n + length moves < 2 ^ 33 → AreLegal p moves → (said : List San) × Say (spelled_words p n moves) said × LeadTo p said moves (state_after p moves)
words_say p n [] size few legal = ([], record { told = []; words_are = refl; said_are = refl }, refl)
words_say p n (m ∷ moves) size few legal =
    let rest = words_say (next p m) (n + 1) moves (length-next p m size) (omega arith) legal.1 in
    let small : n / 2 + 1 < 2 ^ 64 = omega arith in
    let here = say_numbered p.turn (n / 2 + 1) (spelling p m) (named p m) small (text_told (spelling p m) (named p m) (spelling_word p m) (spelling_reads p m size legal.0)) in (
      named p m ∷ rest.0,
      say_both (numbered p.turn (n / 2 + 1) (spelling p m)) (spelled_words (next p m) (n + 1) moves) (named p m ∷ []) rest.0 here rest.1,
      (named_only p m size legal.0, rest.2),
    )

numbered_words : (c : Colour) (k : ℕ) (text : List ℕ) → k < 2 ^ 64 → IsWord text → AreWords (numbered c k text)
numbered_words White k text small is = (number_clean k small, (is, tt))
numbered_words Black k text small is = (is, tt)

pub all_words : (p : Position) (n : ℕ) (moves : List Move) → n + length moves < 2 ^ 33 → AreWords (spelled_words p n moves)
all_words p n [] few = tt
all_words p n (m ∷ moves) few =
    let small : n / 2 + 1 < 2 ^ 64 = omega arith in
    are_words_more (numbered p.turn (n / 2 + 1) (spelling p m)) (spelled_words (next p m) (n + 1) moves) (numbered_words p.turn (n / 2 + 1) (spelling p m) small (spelling_word p m)) (all_words (next p m) (n + 1) moves (omega arith))

-- no word that says something is left out as a result
no_result_told : (text : List ℕ) (told : Word) → word_of text ≡ Some told → is_result text ≡ false
no_result_told text told e = false_from_ne_true _ (λ r. let none : None ≡ Some told = sym (no_result text r) ∙ e in cc)

none_left_out : (texts : List (List ℕ)) (told : List Word) → map word_of texts ≡ map (λ w. Some w) told → without_result texts ≡ texts
none_left_out [] told e = refl
none_left_out (text ∷ []) [] e = cc
none_left_out (text ∷ []) (t ∷ told) e = let here : word_of text ≡ Some t = cc in cond-false (is_result text) [] (text ∷ []) (no_result_told text t here)
none_left_out (text ∷ next ∷ texts) [] e = cc
none_left_out (text ∷ next ∷ texts) (t ∷ told) e =
    let rest : map word_of (next ∷ texts) ≡ map (λ w. Some w) told = cc in ap (λ (l : List (List ℕ)). text ∷ l) (none_left_out (next ∷ texts) told rest)

-- the text of moves that are legal one after another tells these moves
pub spelling_tells : (p : Position) (moves : List Move) (text : List ℕ) → length p.board ≡ 64 → length moves < 2 ^ 32 → AreLegal p moves → text ≡ game_spelling p moves → IsGameText p text moves
spelling_tells p moves text size few legal is =
    let says = words_say p 0 moves size (omega arith) legal in
    let back : words text ≡ spelled_words p 0 moves = ap words is ∙ words_back (spelled_words p 0 moves) (all_words p 0 moves (omega arith)) in
    let kept : without_result (words text) ≡ spelled_words p 0 moves = ap without_result back ∙ none_left_out (spelled_words p 0 moves) says.1.told says.1.words_are in
    record {
      said = says.0;
      says = subst (λ (l : List (List ℕ)). Say l says.0) (sym kept) says.1;
      played = record { end = state_after p moves; leads = says.2 };
    }

-- one more move, spelled after those before it
spelled_more : (p : Position) (n : ℕ) (moves : List Move) (m : Move) → spelled_words p n (moves ++ m ∷ []) ≡ spelled_words p n moves ++ numbered (state_after p moves).turn ((n + length moves) / 2 + 1) (spelling (state_after p moves) m)
spelled_more p n [] m =
    append-nil (numbered p.turn (n / 2 + 1) (spelling p m)) ∙ ap (λ (k : ℕ). numbered p.turn (k / 2 + 1) (spelling p m)) (let same : n ≡ n + 0 = omega arith in same)
spelled_more p n (first ∷ moves) m =
    let words = numbered p.turn (n / 2 + 1) (spelling p first) in
    let end = state_after (next p first) moves in
    let same : n + 1 + length moves ≡ n + length (first ∷ moves) = omega arith in
    ap (λ (l : List (List ℕ)). words ++ l) (spelled_more (next p first) (n + 1) moves m)
    ∙ sym (append_assoc words (spelled_words (next p first) (n + 1) moves) (numbered end.turn ((n + 1 + length moves) / 2 + 1) (spelling end m)))
    ∙ ap (λ (k : ℕ). (words ++ spelled_words (next p first) (n + 1) moves) ++ numbered end.turn (k / 2 + 1) (spelling end m)) same

pub text_more : (p : Position) (moves : List Move) (m : Move) (state : Position) (i : ℕ) (old new : List ℕ) → state ≡ state_after p moves → length moves ≡ i → old ≡ added_all [] (spelled_words p 0 moves) → new ≡ added_all old (numbered state.turn (i / 2 + 1) (spelling state m)) → new ≡ added_all [] (spelled_words p 0 (moves ++ m ∷ []))
text_more p moves m state i old new here count before more =
    more
    ∙ ap (λ (s : Position). added_all old (numbered s.turn (i / 2 + 1) (spelling s m))) here
    ∙ ap (λ (k : ℕ). added_all old (numbered (state_after p moves).turn (k / 2 + 1) (spelling (state_after p moves) m))) (let same : i ≡ 0 + length moves = omega (arith, count) in same)
    ∙ ap (λ (l : List ℕ). added_all l (numbered (state_after p moves).turn ((0 + length moves) / 2 + 1) (spelling (state_after p moves) m))) before
    ∙ sym (fold-append added [] (spelled_words p 0 moves) (numbered (state_after p moves).turn ((0 + length moves) / 2 + 1) (spelling (state_after p moves) m)))
    ∙ ap (added_all []) (sym (spelled_more p 0 moves m))
