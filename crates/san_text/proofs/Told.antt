-- Words, what they say of moves, and the first that isn't of the grammar.
use Rattle.std.proofs.Common.{◌≡◌, ◌<◌, ◌≤◌, ◌+◌, ◌==◌, ◌&&◌, ℕ, Bool, true, false, List, [], ◌∷◌, ◌++◌, map, take, drop, length, get_or, inl, inr, refl, sym, ap, ◌∙◌, subst, arith, append_assoc}
use Rattle.std.proofs.lemmas.Bool.{and_parts, eqb-true, or_cases, cond-true, cond-false}
use Rattle.std.proofs.lemmas.List.{map-append, append-nil, flat_map_more, length-map, length-append, length-take-le}
use Rattle.std.specs.Prelude.{Option, Some, None}
use Rattle.std.specs.List.{flat_map}
use Rattle.general_lemmas.proofs.Splits.{split_at}
use Rattle.san_text.specs.Grammar.{san_of}
use Rattle.san_text.specs.Words.{word_of, is_result, without_result, moves_said, Say, FirstBad}
use Rattle.san_text.specs.declared.grammar.San.{San}
use Rattle.san_text.specs.declared.words.Word.{Word}
use Rattle.san_text.specs.declared.words.Word.TheVariants.{Number, Move}

say_more : (words : List (List ℕ)) (said : List San) (text : List ℕ) (word : Word) → Say words said → word_of text ≡ Some word → Say (words ++ text ∷ []) (said ++ moves_said word)
say_more words said text word s e = record {
  told = s.told ++ word ∷ [];
  words_are = map-append word_of words (text ∷ [])
      ∙ ap (λ (l : List (Option Word)). l ++ word_of text ∷ []) s.words_are
      ∙ ap (λ (o : Option Word). map (λ (w : Word). Some w) s.told ++ o ∷ []) e
      ∙ sym (map-append (λ (w : Word). Some w) s.told (word ∷ []));
  said_are = sym (flat_map_more moves_said [] s.told word) ∙ ap (λ (l : List San). l ++ moves_said word) s.said_are;
}

few_moves : (told : List Word) → length (flat_map moves_said told) ≤ length told
few_moves [] = omega arith
few_moves (Number ∷ told) = let rest = few_moves told in omega (arith, rest)
few_moves (Move said ∷ told) = let rest = few_moves told in omega (arith, rest)

-- no more moves are said than there are words
few_said : (words : List (List ℕ)) (said : List San) → Say words said → length said ≤ length words
few_said words said s =
    let same : length words ≡ length s.told = sym (length-map words word_of) ∙ ap length s.words_are ∙ length-map s.told (λ (w : Word). Some w) in
    let moves : length (flat_map moves_said s.told) ≡ length said = ap length s.said_are in
    omega (arith, same, moves, few_moves s.told)

-- a result is no word of the grammar
pub no_result : (text : List ℕ) → is_result text ≡ true → word_of text ≡ None
unfolding san_of
no_result [] h = cc
no_result (a ∷ []) h = subst (λ (n : ℕ). word_of (n ∷ []) ≡ None) (sym (eqb-true a 42 h)) refl
no_result (a ∷ b ∷ []) h = cc
no_result (a ∷ b ∷ c ∷ []) h = elim (or_cases ((a == 49) && (b == 45) && (c == 48)) ((a == 48) && (b == 45) && (c == 49)) h) [
  | inl white ↦ let both = and_parts (a == 49) (b == 45) (and_parts ((a == 49) && (b == 45)) (c == 48) white).0 in dashed a b c 49 (eqb-true a 49 both.0) (eqb-true b 45 both.1) refl
  | inr black ↦ let both = and_parts (a == 48) (b == 45) (and_parts ((a == 48) && (b == 45)) (c == 49) black).0 in dashed a b c 48 (eqb-true a 48 both.0) (eqb-true b 45 both.1) refl
]
  where
    dashed : (a b c n : ℕ) → a ≡ n → b ≡ 45 → word_of (n ∷ 45 ∷ c ∷ []) ≡ None → word_of (a ∷ b ∷ c ∷ []) ≡ None
    dashed a b c n first second none = ap (λ (k : ℕ). word_of (k ∷ b ∷ c ∷ [])) first ∙ ap (λ (k : ℕ). word_of (n ∷ k ∷ c ∷ [])) second ∙ none
no_result (a ∷ b ∷ c ∷ d ∷ []) h = cc
no_result (a ∷ b ∷ c ∷ d ∷ e ∷ []) h = cc
no_result (a ∷ b ∷ c ∷ d ∷ e ∷ f ∷ []) h = cc
no_result (a ∷ b ∷ c ∷ d ∷ e ∷ f ∷ g ∷ []) h =
    let both = and_parts _ _ (and_parts _ _ (and_parts _ _ (and_parts _ _ (and_parts _ _ (and_parts _ _ h).0).0).0).0).0 in
    ap (λ (k : ℕ). word_of (k ∷ b ∷ c ∷ d ∷ e ∷ f ∷ g ∷ [])) (eqb-true a 49 both.0) ∙ ap (λ (k : ℕ). word_of (49 ∷ k ∷ c ∷ d ∷ e ∷ f ∷ g ∷ [])) (eqb-true b 47 both.1)
no_result (a ∷ b ∷ c ∷ d ∷ e ∷ f ∷ g ∷ x ∷ text) h = cc

-- only the last word is left out
kept : (before : List (List ℕ)) (text : List ℕ) (rest : List (List ℕ)) → without_result (before ++ text ∷ rest) ≡ before ++ without_result (text ∷ rest)
kept [] text rest = refl
kept (first ∷ []) text rest = refl
kept (first ∷ second ∷ before) text rest = ap (λ (l : List (List ℕ)). first ∷ l) (kept (second ∷ before) text rest)

first_kept : (text : List ℕ) (rest : List (List ℕ)) → is_result text ≡ false → without_result (text ∷ rest) ≡ text ∷ without_result rest
first_kept text [] other = cond-false (is_result text) [] (text ∷ []) other
first_kept text (next ∷ rest) other = refl

-- a result is the last of these words, and this is what those before it say
pub record Ended (words : List (List ℕ)) (said : List San) : Type 0 where
  pub before : List (List ℕ)
  pub text : List ℕ
  pub words_are : words ≡ before ++ text ∷ []
  pub result : is_result text ≡ true
  pub says : Say before said

-- none of these words is left out, and this is what they say
pub record Open (words : List (List ℕ)) (said : List San) : Type 0 where
  pub whole : without_result words ≡ words
  pub says : Say words said

-- what was read of these words
abbrev pub HasRead : Bool → List (List ℕ) → List San → Type 0
HasRead false words said = Open words said
HasRead true words said = Ended words said

-- one more word is read
pub read_more : (ended : Bool) (words : List (List ℕ)) (said new : List San) (text : List ℕ) (word : Word) → ended ≡ false → HasRead ended words said → is_result text ≡ false → word_of text ≡ Some word → new ≡ said ++ moves_said word → HasRead ended (words ++ text ∷ []) new
read_more true words said new text word going h other e more = cc
read_more false words said new text word going h other e more = record {
  whole = kept words text [] ∙ ap (λ (l : List (List ℕ)). words ++ l) (first_kept text [] other);
  says = subst (Say (words ++ text ∷ [])) (sym more) (say_more words said text word h.says e);
}

-- at the end all words are read
pub read_all : (ended : Bool) (words : List (List ℕ)) (said : List San) → HasRead ended words said → Say (without_result words) said
read_all false words said h = subst (λ (l : List (List ℕ)). Say l said) (sym h.whole) h.says
read_all true words said h =
    let left : without_result words ≡ h.before =
    ap without_result h.words_are ∙ kept h.before h.text [] ∙ ap (λ (l : List (List ℕ)). h.before ++ l) (cond-true (is_result h.text) [] (h.text ∷ []) h.result) ∙ append-nil h.before in
    subst (λ (l : List (List ℕ)). Say l said) (sym left) h.says

pub few_read : (ended : Bool) (words : List (List ℕ)) (said : List San) → HasRead ended words said → length said ≤ length words
few_read false words said h = few_said words said h.says
few_read true words said h =
    let longer : length words ≡ length h.before + 1 = ap length h.words_are ∙ length-append h.before (h.text ∷ []) in
    omega (arith, longer, few_said h.before said h.says)

-- a word that isn't of the grammar is the first such, after those that were read
pub bad_word : (ended : Bool) (words done : List (List ℕ)) (said : List San) (text : List ℕ) (n : ℕ) → ended ≡ false → done ≡ take n words → (n < length words) × (text ≡ get_or words n text) → HasRead ended done said → is_result text ≡ false → word_of text ≡ None → FirstBad (without_result words) (n + 1)
bad_word true words done said text n going so_far here h other bad = cc
bad_word false words done said text n going so_far here h other bad =
    let short : n ≤ length words = let low = here.0 in omega arith in
    let rest : List (List ℕ) = drop (n + 1) words in
    record {
      before = done;
      word = text;
      after = without_result rest;
      split = ap without_result (split_at words n text here.0 here.1 ∙ ap (λ (l : List (List ℕ)). l ++ text ∷ rest) (sym so_far)) ∙ kept done text rest ∙ ap (λ (l : List (List ℕ)). done ++ l) (first_kept text rest other);
      number = ap (λ (k : ℕ). k + 1) (ap length so_far ∙ length-take-le n words short);
      said = said;
      says = h.says;
      bad = bad;
    }

-- and so is a result after which a word comes
pub bad_result : (ended : Bool) (words done : List (List ℕ)) (said : List San) (text : List ℕ) (n : ℕ) → ended ≡ true → done ≡ take n words → (n < length words) × (text ≡ get_or words n text) → HasRead ended done said → FirstBad (without_result words) n
bad_result false words done said text n over so_far here h = cc
bad_result true words done said text n over so_far here h =
    let short : n ≤ length words = let low = here.0 in omega arith in
    let rest : List (List ℕ) = text ∷ drop (n + 1) words in
    let parts : words ≡ h.before ++ h.text ∷ rest =
    split_at words n text here.0 here.1 ∙ ap (λ (l : List (List ℕ)). l ++ rest) (sym so_far ∙ h.words_are) ∙ append_assoc h.before (h.text ∷ []) rest in
    record {
      before = h.before;
      word = h.text;
      after = without_result rest;
      split = ap without_result parts ∙ kept h.before h.text rest;
      number = sym (length-append h.before (h.text ∷ [])) ∙ ap length (sym h.words_are ∙ so_far) ∙ length-take-le n words short;
      said = said;
      says = h.says;
      bad = no_result h.text h.result;
    }
