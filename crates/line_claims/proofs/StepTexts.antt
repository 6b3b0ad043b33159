-- The texts of steps, read one after another.
use Rattle.std.proofs.Common.{◌≡◌, ℕ, suc, ◌+◌, ◌-◌, ◌≤◌, List, [], ◌∷◌, ◌++◌, length, refl, sym, ap, ◌∙◌, arith, append_assoc, length-append, Option, Some, None}
use Rattle.std.specs.Prelude.{MatchOption}
use Rattle.std.specs.Option.{option_map}
use Rattle.board_base.specs.Texts.{◌>>=◌, unmove_from}
use Rattle.board_base.specs.declared.unmoves.Unmove.{Unmove}
use Rattle.fen_text.specs.Parts.{Free}
use Rattle.fen_text.proofs.PartLemmas.{parted_end, parted_next}
use Rattle.line_claims.specs.Lines.{steps_of}

-- the steps of what follows a step, if something does
abbrev pub rest_of : {R : Type 0} → (R → List ℕ) → ℕ → Option R → Option (List Unmove)
rest_of now n None = Some []
rest_of now n (Some r) = steps_of n (now r)

-- the text is a word, and what follows it, if something does
abbrev pub IsCut : {R : Type 0} → (R → List ℕ) → List ℕ → List ℕ → Option R → Type 0
IsCut now text word rest = MatchOption rest (text ≡ word) (λ r. text ≡ word ++ 32 ∷ now r)

-- what a text stands for whose first word is this one
after_word : {R : Type 0} (now : R → List ℕ) (n : ℕ) (text word : List ℕ) (rest : Option R) → Free 32 word → IsCut now text word rest → steps_of (suc n) text ≡ (unmove_from word >>= (λ u. option_map (λ us. u ∷ us) (rest_of now n rest)))
unfolding steps_of
after_word now n text word None free e =
    ap (steps_of (suc n)) e ∙ parted_end 32 unmove_from (λ u. Some (u ∷ [])) (λ u rest. option_map (λ us. u ∷ us) (steps_of n rest)) word free
after_word now n text word (Some r) free e =
    ap (steps_of (suc n)) e ∙ parted_next 32 unmove_from (λ u. Some (u ∷ [])) (λ u rest. option_map (λ us. u ∷ us) (steps_of n rest)) word (now r) free

-- the steps so far with those of what is left
abbrev pub joined : {R : Type 0} → (R → List ℕ) → List Unmove → ℕ → Option R → Option (List Unmove)
joined now us n rest = option_map (λ more. us ++ more) (rest_of now n rest)

-- a first word that is no unmove
pub bad_word : {R : Type 0} (now : R → List ℕ) (n : ℕ) (text word : List ℕ) (rest : Option R) → Free 32 word → IsCut now text word rest → unmove_from word ≡ None → steps_of (suc n) text ≡ None
bad_word now n text word rest free cut bad = after_word now n text word rest free cut ∙ ap (λ (o : Option Unmove). o >>= (λ u. option_map (λ us. u ∷ us) (rest_of now n rest))) bad

mapped : (us : List Unmove) (u : Unmove) (o : Option (List Unmove)) → option_map (λ more. us ++ more) (option_map (λ more. u ∷ more) o) ≡ option_map (λ more. (us ++ u ∷ []) ++ more) o
mapped us u None = refl
mapped us u (Some more) = ap Some (sym (append_assoc us (u ∷ []) more))

-- a first word that is an unmove
pub good_word : {R : Type 0} (now : R → List ℕ) (us : List Unmove) (n : ℕ) (text word : List ℕ) (rest : Option R) (u : Unmove) → Free 32 word → IsCut now text word rest → unmove_from word ≡ Some u → option_map (λ more. us ++ more) (steps_of (suc n) text) ≡ joined now (us ++ u ∷ []) n rest
good_word now us n text word rest u free cut good =
    ap (λ (o : Option (List Unmove)). option_map (λ more. us ++ more) o) (after_word now n text word rest free cut ∙ ap (λ (o : Option Unmove). o >>= (λ u. option_map (λ us. u ∷ us) (rest_of now n rest))) good)
    ∙ mapped us u (rest_of now n rest)

pub first_word : {R : Type 0} (now : R → List ℕ) (n : ℕ) (text word : List ℕ) (rest : Option R) (u : Unmove) → Free 32 word → IsCut now text word rest → unmove_from word ≡ Some u → steps_of (suc n) text ≡ joined now (u ∷ []) n rest
first_word now n text word rest u free cut good = plain (steps_of (suc n) text) ∙ good_word now [] n text word rest u free cut good
  where
    plain : (o : Option (List Unmove)) → o ≡ option_map (λ more. [] ++ more) o
    plain None = refl
    plain (Some us) = refl

-- no step may follow
pub too_many : (text : List ℕ) → steps_of 0 text ≡ None
unfolding steps_of
too_many text = refl

-- what the text stands for, seen from the steps that were read and what is left
abbrev pub ReadSoFar : {R : Type 0} → (R → List ℕ) → List ℕ → List Unmove → Option R → Type 0
ReadSoFar now text us rest = steps_of 16 text ≡ joined now us (16 - length us) rest

pub read_first : {R : Type 0} (now : R → List ℕ) (text word : List ℕ) (rest : Option R) (u : Unmove) (us : List Unmove) → Free 32 word → IsCut now text word rest → Some u ≡ unmove_from word → us ≡ u ∷ [] → ReadSoFar now text us rest
read_first now text word rest u us free cut good is =
    first_word now 15 text word rest u free cut (sym good) ∙ ap (λ (l : List Unmove). joined now l (16 - length l) rest) (sym is)

at : {R : Type 0} (now : R → List ℕ) (text : List ℕ) (us : List Unmove) (rest : Option R) (r : R) (n : ℕ) → ReadSoFar now text us rest → rest ≡ Some r → 16 - length us ≡ n → steps_of 16 text ≡ option_map (λ more. us ++ more) (steps_of n (now r))
at {R} now text us rest r n before is left = before ∙ ap (λ (o : Option R). joined now us (16 - length us) o) is ∙ ap (λ (k : ℕ). joined now us k (Some r)) left

pub read_all : {R : Type 0} (now : R → List ℕ) (text : List ℕ) (us : List Unmove) (rest : Option R) (r : R) → ReadSoFar now text us rest → rest ≡ Some r → length us ≡ 16 → None ≡ steps_of 16 text
read_all now text us rest r before is full =
    sym (at now text us rest r 0 before is (omega arith) ∙ ap (λ (o : Option (List Unmove)). option_map (λ more. us ++ more) o) (too_many (now r)))

pub read_bad : {R : Type 0} (now : R → List ℕ) (text : List ℕ) (us : List Unmove) (rest : Option R) (r : R) (word : List ℕ) (after : Option R) → ReadSoFar now text us rest → rest ≡ Some r → (length us ≡ 16 → ⊥) → length us ≤ 16 → Free 32 word → IsCut now (now r) word after → None ≡ unmove_from word → None ≡ steps_of 16 text
read_bad now text us rest r word after before is more few free cut bad =
    sym (at now text us rest r (suc (15 - length us)) before is (omega arith) ∙ ap (λ (o : Option (List Unmove)). option_map (λ more. us ++ more) o) (bad_word now (15 - length us) (now r) word after free cut (sym bad)))

pub read_next : {R : Type 0} (now : R → List ℕ) (text : List ℕ) (us new : List Unmove) (rest : Option R) (r : R) (word : List ℕ) (after : Option R) (u : Unmove) → ReadSoFar now text us rest → rest ≡ Some r → (length us ≡ 16 → ⊥) → length us ≤ 16 → Free 32 word → IsCut now (now r) word after → Some u ≡ unmove_from word → new ≡ us ++ u ∷ [] → ReadSoFar now text new after
read_next now text us new rest r word after u before is more few free cut good grown =
    let left : 15 - length us ≡ 16 - length new = let longer : length new ≡ length us + 1 = ap length grown ∙ length-append us (u ∷ []) in omega arith in
    at now text us rest r (suc (15 - length us)) before is (omega arith)
    ∙ good_word now us (15 - length us) (now r) word after u free cut (sym good)
    ∙ ap (λ (k : ℕ). joined now (us ++ u ∷ []) k after) left
    ∙ ap (λ (l : List Unmove). joined now l (16 - length new) after) (sym grown)
