-- The lines of claims of several steps: what is written is read again, and what is read is the one line of it.
use Rattle.std.proofs.Common.{◌≡◌, ℕ, zero, suc, ◌+◌, ◌-◌, ◌*◌, ◌<◌, ◌≤◌, ◌==◌, true, nat_eq, List, [], ◌∷◌, ◌++◌, length, take, drop, get_or, inl, inr, refl, sym, ap, ◌∙◌, subst, arith, append_assoc, length-append, length-drop, take_all, Option, Some, None}
use Rattle.std.proofs.lemmas.Bool.{and_from, both_ways, cases_Bool, cond-false, cond-true, cond_both, eqb-true}
use Rattle.std.proofs.lemmas.Grind.{get_or_after_one}
use Rattle.std.proofs.lemmas.List.{length-take-le}
use Rattle.std.proofs.lemmas.List.Elements.{All-head, All-more, All-tail}
use Rattle.std.proofs.lemmas.List.Folds.{list_all_at}
use Rattle.std.proofs.lemmas.Option.{cond_some, same_Some}
use Rattle.std.specs.Prelude.{IfSome, codes}
use Rattle.std.specs.List.{All, list_all, starts_with}
use Rattle.std.specs.Option.{option_map}
use Rattle.general_lemmas.proofs.Splits.{up_to}
use Rattle.board_base.specs.Texts.{◌>>=◌, unmove_from, unmove_text}
use Rattle.board_base.specs.declared.castles.Castle.{Castle}
use Rattle.board_base.specs.declared.castles.Castle.TheVariants.{WhiteShort, WhiteLong, BlackShort, BlackLong}
use Rattle.board_base.specs.declared.unmoves.Unmove.{Unmove}
use Rattle.board_base.proofs.OneText.{unmove_read}
use Rattle.board_base.proofs.TextLemmas.{bound_some, mapped_some, unmove_short}
use Rattle.fen_text.proofs.Begun.{begun}
use Rattle.fen_text.proofs.PartLemmas.{parted_end, parted_known, parted_next}
use Rattle.line_claims.specs.declared.claims.LineClaim.{LineClaim}
use Rattle.line_claims.specs.declared.claims.LineClaim.TheVariants.{NotBoth, Line}
use Rattle.line_claims.specs.Lines.{HasLine, both_claimed, castling_lettered, castles_lettered, castles_of, has_text, in_order, line_claim_of, line_claim_text, steps_of, steps_text}
use Rattle.line_claims.specs.Readable.{IsReadable}
use Rattle.fen_text.specs.Fen.{castle_letter}
use Rattle.fen_text.proofs.MoveFrees.{unmove_free}

-- no space stands in the text of an unmove

-- steps that are written

steps_text-push : (us : List Unmove) (u v : Unmove) → steps_text ((u ∷ us) ++ v ∷ []) ≡ steps_text (u ∷ us) ++ 32 ∷ unmove_text v
steps_text-push [] u v = refl
steps_text-push (w ∷ us) u v = ap (λ (l : List ℕ). unmove_text u ++ 32 ∷ l) (steps_text-push us w v) ∙ sym (append_assoc (unmove_text u) (32 ∷ steps_text (w ∷ us)) (32 ∷ unmove_text v))

some_more : (us : List Unmove) (v : Unmove) → 1 ≤ length us → steps_text (us ++ v ∷ []) ≡ steps_text us ++ 32 ∷ unmove_text v
some_more [] v some = absurd (omega arith)
some_more (u ∷ us) v some = steps_text-push us u v

steps_back : (us : List Unmove) (n : ℕ) → All IsReadable us → 1 ≤ length us → length us ≤ n → steps_of n (steps_text us) ≡ Some us
unfolding steps_of
steps_back [] n read some few = absurd (omega arith)
steps_back (u ∷ us) zero read some few = absurd (omega arith)
steps_back (u ∷ []) (suc n) read some few =
    parted_end 32 unmove_from (λ u. Some (u ∷ [])) (λ u rest. option_map (λ us. u ∷ us) (steps_of n rest)) (unmove_text u) (unmove_free 32 u (omega arith))
    ∙ ap (λ (o : Option Unmove). o >>= (λ u. Some (u ∷ []))) (All-head IsReadable u [] read)
steps_back (u ∷ v ∷ us) (suc n) read some few =
    parted_next 32 unmove_from (λ u. Some (u ∷ [])) (λ u rest. option_map (λ us. u ∷ us) (steps_of n rest)) (unmove_text u) (steps_text (v ∷ us)) (unmove_free 32 u (omega arith))
    ∙ ap (λ (o : Option Unmove). o >>= (λ u. option_map (λ us. u ∷ us) (steps_of n (steps_text (v ∷ us))))) (All-head IsReadable u (v ∷ us) read)
    ∙ ap (option_map (λ us. u ∷ us)) (steps_back (v ∷ us) n (All-tail IsReadable u (v ∷ us) read) (omega arith) (omega arith))

-- steps that are read

record IsTextOfSteps (n : ℕ) (text : List ℕ) (us : List Unmove) : Type 0 where
  spelling : text ≡ steps_text us
  some : 1 ≤ length us
  few : length us ≤ n
  texts : list_all has_text us ≡ true

text_fits : (text : List ℕ) (u : Unmove) → unmove_from text ≡ Some u → has_text u ≡ true
text_fits text u e = let read = unmove_read text u e in and_from _ _ read.promotion read.capture

joined_text : (u : Unmove) (us : List Unmove) → 1 ≤ length us → unmove_text u ++ 32 ∷ steps_text us ≡ steps_text (u ∷ us)
joined_text u [] some = absurd (omega arith)
joined_text u (v ∷ us) some = refl

steps_read : (n : ℕ) (text : List ℕ) (us : List Unmove) → steps_of n text ≡ Some us → IsTextOfSteps n text us
unfolding steps_of
steps_read zero text us e = absurd cc
steps_read (suc n) text us e = elim (parted_known 32 unmove_from (λ u. Some (u ∷ [])) (λ u rest. option_map (λ us. u ∷ us) (steps_of n rest)) text us e) [
  | inl alone ↦
      let fits : list_all has_text (alone.value ∷ []) ≡ true = and_from _ _ (text_fits text alone.value alone.good) refl in
      subst (IsTextOfSteps (suc n) text) (same_Some _ _ alone.ends) (record { spelling = (unmove_read text alone.value alone.good).spelling; some = omega arith; few = omega arith; texts = fits })
  | inr more ↦
      let rest = mapped_some (λ (us : List Unmove). more.value ∷ us) (steps_of n more.rest) us more.goes_on in
      let later = steps_read n more.rest rest.0 rest.1 in
      let fits : list_all has_text (more.value ∷ rest.0) ≡ true = and_from _ _ (text_fits more.front more.value more.good) later.texts in
      let some : 1 ≤ length rest.0 = later.some in
      let few : length rest.0 ≤ n = later.few in
      subst (IsTextOfSteps (suc n) text) rest.2 (record {
        spelling = more.whole ∙ ap (λ (l : List ℕ). l ++ 32 ∷ more.rest) (unmove_read more.front more.value more.good).spelling ∙ ap (λ (l : List ℕ). unmove_text more.value ++ 32 ∷ l) later.spelling ∙ joined_text more.value rest.0 some;
        some = omega arith;
        few = omega arith;
        texts = fits;
      })
]

-- castlings and their letters

letter_back : (x : Castle) → castling_lettered (castle_letter x) ≡ Some x
letter_back WhiteShort = refl
letter_back WhiteLong = refl
letter_back BlackShort = refl
letter_back BlackLong = refl

pub castles_back : (x y : Castle) → in_order x y ≡ true → castles_of (castle_letter x ∷ 32 ∷ castle_letter y ∷ []) ≡ Some (NotBoth x y)
castles_back x y order =
    ap (λ (o : Option Castle). o >>= (λ x. castling_lettered (castle_letter y) >>= both_claimed x)) (letter_back x)
    ∙ ap (λ (o : Option Castle). o >>= both_claimed x) (letter_back y)
    ∙ cond-true (in_order x y) (Some (NotBoth x y)) None order

abbrev LetterOf : ℕ → Castle → Option Castle → Type 0
LetterOf b x o = o ≡ Some x → b ≡ castle_letter x

letter : (b : ℕ) (w x : Castle) → (b == castle_letter w) ≡ true → LetterOf b x (Some w)
letter b w x h e = eqb-true b (castle_letter w) h ∙ ap castle_letter (same_Some w x e)

letter_read : (b : ℕ) (x : Castle) → castling_lettered b ≡ Some x → b ≡ castle_letter x
letter_read b x =
    cond_both (b == castle_letter WhiteShort) (Some WhiteShort) _ (LetterOf b x) (letter b WhiteShort x)
    (λ n. cond_both (b == castle_letter WhiteLong) (Some WhiteLong) _ (LetterOf b x) (letter b WhiteLong x)
    (λ n. cond_both (b == castle_letter BlackShort) (Some BlackShort) _ (LetterOf b x) (letter b BlackShort x)
    (λ n. cond_both (b == castle_letter BlackLong) (Some BlackLong) None (LetterOf b x) (letter b BlackLong x) (λ n e. absurd cc))))

-- a text is the one line of the claim, which has one
pub record IsLineOf (text : List ℕ) (claim : LineClaim) : Type 0 where
  pub spelling : text ≡ line_claim_text claim
  pub has : HasLine claim

castles_read : (text : List ℕ) (claim : LineClaim) → castles_of text ≡ Some claim → IsLineOf (codes "claim notboth " ++ text) claim
castles_read [] claim e = absurd cc
castles_read (a ∷ []) claim e = absurd cc
castles_read (a ∷ s ∷ []) claim e = absurd cc
castles_read (a ∷ s ∷ b ∷ []) claim e = elim (cases_Bool (s == 32)) [
  | inl space ↦
      let first = bound_some (castling_lettered a) (λ x. castling_lettered b >>= both_claimed x) claim (sym (cond-true (s == 32) (castles_lettered a b) None space) ∙ e) in
      let second = bound_some (castling_lettered b) (both_claimed first.0) claim first.2 in
      let order = cond_some (in_order first.0 second.0) (NotBoth first.0 second.0) claim second.2 in
      let text : a ∷ s ∷ b ∷ [] ≡ castle_letter first.0 ∷ 32 ∷ castle_letter second.0 ∷ [] =
      ap (λ (n : ℕ). n ∷ s ∷ b ∷ []) (letter_read a first.0 first.1) ∙ ap (λ (n : ℕ). castle_letter first.0 ∷ n ∷ b ∷ []) (eqb-true s 32 space) ∙ ap (λ (n : ℕ). castle_letter first.0 ∷ 32 ∷ n ∷ []) (letter_read b second.0 second.1) in
      subst (IsLineOf (codes "claim notboth " ++ a ∷ s ∷ b ∷ [])) order.1 (record { spelling = ap (λ (l : List ℕ). codes "claim notboth " ++ l) text; has = order.0 })
  | inr other ↦ let none = sym (cond-false (s == 32) (castles_lettered a b) None other) ∙ e in absurd cc
]
castles_read (a ∷ s ∷ b ∷ c ∷ text) claim e = absurd cc

line_read : (text : List ℕ) (claim : LineClaim) → option_map (λ us. Line us) (steps_of 16 text) ≡ Some claim → IsLineOf (codes "claim line " ++ text) claim
line_read text claim e =
    let steps = mapped_some (λ (us : List Unmove). Line us) (steps_of 16 text) claim e in
    let read = steps_read 16 text steps.0 steps.1 in
    subst (IsLineOf (codes "claim line " ++ text)) steps.2 (record {
      spelling = ap (λ (l : List ℕ). codes "claim line " ++ l) read.spelling;
      has = record { some = read.some; few = read.few; texts = read.texts };
    })

abbrev Reads : List ℕ → LineClaim → Option LineClaim → Type 0
Reads text claim o = o ≡ Some claim → IsLineOf text claim

begun_so : (text front rest : List ℕ) (claim : LineClaim) → text ≡ front ++ rest → IsLineOf (front ++ rest) claim → IsLineOf text claim
begun_so text front rest claim e is = subst (λ (t : List ℕ). IsLineOf t claim) (sym e) is

-- what is read is the one line of the claim
pub claim_read : (text : List ℕ) (claim : LineClaim) → line_claim_of text ≡ Some claim → IsLineOf text claim
unfolding line_claim_of
claim_read text claim =
    cond_both (starts_with nat_eq text (codes "claim notboth ")) _ _ (Reads text claim) (λ t e. begun_so text (codes "claim notboth ") (drop 14 text) claim (begun text (codes "claim notboth ") t) (castles_read (drop 14 text) claim e))
    (λ f. cond_both (starts_with nat_eq text (codes "claim line ")) _ None (Reads text claim) (λ t e. begun_so text (codes "claim line ") (drop 11 text) claim (begun text (codes "claim line ") t) (line_read (drop 11 text) claim e))
    (λ f e. absurd cc))

-- what is written is read again
pub notboth_back : (x y : Castle) → in_order x y ≡ true → line_claim_of (line_claim_text (NotBoth x y)) ≡ Some (NotBoth x y)
unfolding line_claim_of
notboth_back x y order = castles_back x y order

pub line_back : (us : List Unmove) → All IsReadable us → 1 ≤ length us → length us ≤ 16 → line_claim_of (line_claim_text (Line us)) ≡ Some (Line us)
unfolding line_claim_of
line_back us read some few = ap (option_map (λ us. Line us)) (steps_back us 16 read some few)

-- the steps so far, with one more

pub fits_at : (us : List Unmove) (i : ℕ) (u : Unmove) → i < length us → u ≡ get_or us i u → list_all has_text us ≡ true → has_text u ≡ true
fits_at us i u inside is all = elim (cases_Bool (has_text u)) [
  | inl fits ↦ fits
  | inr fails ↦ absurd (both_ways (list_all has_text us) (list_all_at has_text us i u inside (ap has_text (sym is) ∙ fails)) all)
]

pub written_more : (us : List Unmove) (i : ℕ) (u : Unmove) (start out new : List ℕ) → i < length us → 1 ≤ i → u ≡ get_or us i u → out ≡ start ++ steps_text (take i us) → new ≡ out ++ 32 ∷ unmove_text u → new ≡ start ++ steps_text (take (i + 1) us)
written_more us i u start out new inside some is before grown =
    let long : length (take i us) ≡ i = length-take-le i us (omega arith) in
    let more : steps_text (take (i + 1) us) ≡ steps_text (take i us) ++ 32 ∷ unmove_text u = ap steps_text (up_to us i u inside is) ∙ some_more (take i us) u (omega arith) in
    grown ∙ ap (λ (l : List ℕ). l ++ 32 ∷ unmove_text u) before ∙ append_assoc start (steps_text (take i us)) (32 ∷ unmove_text u) ∙ ap (λ (l : List ℕ). start ++ l) (sym more)

pub readable_more : (us : List Unmove) (i : ℕ) (u : Unmove) → i < length us → u ≡ get_or us i u → All IsReadable (take i us) → IsReadable u → All IsReadable (take (i + 1) us)
readable_more us i u inside is all here = All-more IsReadable us i u inside all (subst IsReadable is here)

-- a step after the first
pub after_first : (us : List Unmove) (i : ℕ) (u : Unmove) → u ≡ get_or (take (length us - 1) (drop 1 us)) i u → u ≡ get_or us (i + 1) u
after_first us i u is =
    let all : take (length us - 1) (drop 1 us) ≡ drop 1 us = take_all (length us - 1) (drop 1 us) (omega (arith, length-drop 1 us)) in
    let next : 1 + i ≡ i + 1 = omega arith in
    is ∙ ap (λ (l : List Unmove). get_or l i u) all ∙ get_or_after_one us i u ∙ ap (λ (k : ℕ). get_or us k u) next

-- how long lines are

short_steps : (us : List Unmove) → 1 ≤ length us → length (steps_text us) + 1 ≤ 8 * length us
short_steps [] some = absurd (omega arith)
short_steps (u ∷ []) some = let one = unmove_short u in omega arith
short_steps (u ∷ v ∷ us) some =
    let one = unmove_short u in
    let rest = short_steps (v ∷ us) (omega arith) in
    omega (arith, length-append (unmove_text u) (32 ∷ steps_text (v ∷ us)))

short_line : (claim : LineClaim) → HasLine claim → length (line_claim_text claim) ≤ 138
short_line (NotBoth x y) has = omega arith
short_line (Line us) has =
    let steps = short_steps us has.some in
    let few = has.few in
    omega (arith, length-append (codes "claim line ") (steps_text us))

pub spelled : (text : List ℕ) (claim : LineClaim) → line_claim_of text ≡ Some claim → text ≡ line_claim_text claim
spelled text claim e = (claim_read text claim e).spelling

pub written : (text : List ℕ) (claim : LineClaim) → line_claim_of text ≡ Some claim → HasLine claim
written text claim e = (claim_read text claim e).has

pub equal : (a b : List ℕ) (claim : LineClaim) → line_claim_of a ≡ Some claim → line_claim_of b ≡ Some claim → a ≡ b
equal a b claim d e = spelled a claim d ∙ sym (spelled b claim e)

pub short : (text : List ℕ) (claim : LineClaim) → line_claim_of text ≡ Some claim → length text ≤ 138
short text claim e = subst (λ (l : List ℕ). length l ≤ 138) (sym (spelled text claim e)) (short_line claim (written text claim e))

-- what is read may be written
pub castles_may : (text : List ℕ) (o : Option LineClaim) → o ≡ castles_of text → IfSome o HasLine
castles_may text None e = tt
castles_may text (Some claim) e = (castles_read text claim (sym e)).has

pub line_may : (text : List ℕ) (o : Option LineClaim) → o ≡ option_map (λ us. Line us) (steps_of 16 text) → IfSome o HasLine
line_may text None e = tt
line_may text (Some claim) e = (line_read text claim (sym e)).has
