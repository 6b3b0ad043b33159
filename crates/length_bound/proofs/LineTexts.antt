-- The lines of the text of a length, and their texts.
use Rattle.std.proofs.Common.{◌≡◌, ℕ, ◌≤◌, true, inl, inr, List, ◌∷◌, ◌++◌, drop, Some, None, sym, ap, ◌∙◌, arith, cond, nat_eq, nat_le}
use Rattle.std.specs.Prelude.{codes}
use Rattle.std.specs.Fmt.{decimal}
use Rattle.std.specs.List.{starts_with}
use Rattle.std.specs.Option.{option_and_then}
use Rattle.std.proofs.lemmas.Fmt.{digits_decimal}
use Rattle.std.proofs.lemmas.Option.{cond_some, option_and_then_some}
use Rattle.std.proofs.lemmas.Bool.{cases_Bool, cond-true, cond-false, le-leb, leb-true}
use Rattle.general_lemmas.proofs.Options.{when}
use Rattle.board_base.specs.Potentials.{Duals}
use Rattle.board_base.specs.declared.men.Colour.{Colour}
use Rattle.board_base.specs.declared.men.Colour.TheVariants.{White, Black}
use Rattle.fen_text.specs.Spelling.{turn_letter}
use Rattle.fen_text.specs.Parts.{Free}
use Rattle.fen_text.proofs.NumberLemmas.{digits_free}
use Rattle.fen_text.proofs.Begun.{begun}
use Rattle.fen_text.specs.Numbers.{number}
use Rattle.cert_text.specs.Arguments.{duals_of}
use Rattle.cert_text.specs.Writable.{are_near}
use Rattle.fen_text.proofs.Decimals.{model, number_back, number_read}
use Rattle.cert_text.proofs.WordTexts.{duals_back, duals_free, duals_read}
use Rattle.length_bound.specs.LengthReading.{moves_text}
use Rattle.length_bound.specs.LengthText.{at_least_of, of_side, shown_by, up_to_9999}
use Rattle.board_base.proofs.TextLemmas.{mapped_some}

-- the text of a number of half-moves
pub record IsAtLeastText (text : List ℕ) (n : ℕ) : Type 0 where
  pub text_is : text ≡ codes "atleast " ++ decimal n
  pub small : n ≤ 9999

pub at_least_read : (text : List ℕ) (n : ℕ) → at_least_of text ≡ Some n → IsAtLeastText text n
unfolding at_least_of
at_least_read text n e =
    let parts = when (starts_with nat_eq text (codes "atleast ")) (option_and_then up_to_9999 (number (drop 8 text))) n e in
    option_and_then_some up_to_9999 (number (drop 8 text)) n parts.1 (λ k is small.
    let read = cond_some _ k n small in
    record {
      text_is = begun text (codes "atleast ") parts.0 ∙ ap (λ (t : List ℕ). codes "atleast " ++ t) ((number_read (drop 8 text) k is).text_is ∙ ap decimal read.1);
      small = let few = leb-true k 9999 read.0 in let same = read.1 in omega arith;
    })

-- the text of potentials of a side
pub record IsMovesText (text : List ℕ) (s : Colour × Duals) : Type 0 where
  pub text_is : text ≡ moves_text s.0 s.1
  pub near : are_near 16 s.1 ≡ true

of_side_read : (c : Colour) (text rest : List ℕ) (s : Colour × Duals) → text ≡ codes "moves " ++ turn_letter c ∷ 32 ∷ rest → of_side c (duals_of 16 rest) ≡ Some s → IsMovesText text s
of_side_read c text rest s whole e =
    let m = mapped_some (λ (d : Duals). (c, d)) (duals_of 16 rest) s e in
    let read = duals_read 16 rest m.0 m.1 in
    record {
      text_is = whole ∙ ap (λ (t : List ℕ). codes "moves " ++ turn_letter c ∷ 32 ∷ t) read.text_is ∙ ap (λ (p : Colour × Duals). moves_text p.0 p.1) m.2;
      near = ap (λ (p : Colour × Duals). are_near 16 p.1) (sym m.2) ∙ read.near;
    }

shown_read-black : (text : List ℕ) (s : Colour × Duals) → cond (starts_with nat_eq text (codes "moves b ")) (of_side Black (duals_of 16 (drop 8 text))) None ≡ Some s → IsMovesText text s
shown_read-black text s e =
    let parts = when (starts_with nat_eq text (codes "moves b ")) (of_side Black (duals_of 16 (drop 8 text))) s e in
    of_side_read Black text (drop 8 text) s (begun text (codes "moves b ") parts.0) parts.1

pub shown_read : (text : List ℕ) (s : Colour × Duals) → shown_by text ≡ Some s → IsMovesText text s
unfolding shown_by
shown_read text s e = elim (cases_Bool (starts_with nat_eq text (codes "moves w "))) [
  | inl white ↦ of_side_read White text (drop 8 text) s (begun text (codes "moves w ") white) (sym (cond-true (starts_with nat_eq text (codes "moves w ")) _ _ white) ∙ e)
  | inr other ↦ shown_read-black text s (sym (cond-false (starts_with nat_eq text (codes "moves w ")) _ _ other) ∙ e)
]

-- and back

pub at_least_back : (n : ℕ) → n ≤ 9999 → at_least_of (codes "atleast " ++ decimal n) ≡ Some n
unfolding at_least_of
at_least_back n small = ap (option_and_then up_to_9999) (number_back n (omega arith)) ∙ cond-true (nat_le n 9999) (Some n) None (le-leb n 9999 small)

pub shown_back : (c : Colour) (d : Duals) → are_near 16 d ≡ true → shown_by (moves_text c d) ≡ Some (c, d)
unfolding shown_by
shown_back White d near = ap (of_side White) (duals_back 16 d near)
shown_back Black d near = ap (of_side Black) (duals_back 16 d near)

-- no line ends in them

pub at_least_free : (n : ℕ) → n ≤ 9999 → Free 10 (codes "atleast " ++ decimal n)
at_least_free n small = digits_free 10 (decimal n) (omega arith) (digits_decimal model n (omega arith))

pub moves_free : (c : Colour) (d : Duals) → are_near 16 d ≡ true → Free 10 (moves_text c d)
moves_free White d near = duals_free 16 d near
moves_free Black d near = duals_free 16 d near
