-- Claims and their texts.
use Rattle.std.proofs.Common.{◌≡◌, ℕ, true, false, cond, List, [], ◌∷◌, ◌++◌, drop, Option, Some, None, is_none, refl, sym, ap, ◌∙◌, arith, option_map, nat_eq, nat_lt}
use Rattle.std.specs.Prelude.{codes}
use Rattle.std.specs.List.{starts_with}
use Rattle.std.specs.Str.{bytes_eq}
use Rattle.std.specs.Option.{option_and_then}
use Rattle.std.proofs.lemmas.Bool.{and_parts, and_from, cond_both, cond-true, cond-false, lt-ltb, ltb-true}
use Rattle.std.proofs.lemmas.Option.{cond_some, same_Some}
use Rattle.std.proofs.lemmas.Slice.Eq.{bytes_eq-Decides}
use Rattle.board_base.specs.Texts.{move_of, move_text, can_promote}
use Rattle.board_base.specs.declared.men.Kind.{Kind}
use Rattle.board_base.specs.declared.moves.Move.{Move}
use Rattle.board_base.specs.declared.castles.Castle.{Castle}
use Rattle.board_base.specs.declared.castles.Castle.TheVariants.{WhiteShort, WhiteLong, BlackShort, BlackLong}
use Rattle.board_base.proofs.OneText.{move_read}
use Rattle.board_base.proofs.TextLemmas.{move_back}
use Rattle.query_base.specs.declared.claims.Claim.{Claim}
use Rattle.query_base.specs.declared.claims.Claim.TheVariants.{Illegal, Last, Lost, Ep}
use Rattle.fen_text.specs.Parts.{Free}
use Rattle.cert_text.specs.Lines.{ended, said}
use Rattle.cert_text.specs.ClaimLines.{castling_named, capture_claimed, claim_of, claim_text}
use Rattle.cert_text.specs.Writable.{is_on_board, is_written}
use Rattle.cert_text.proofs.OnBoard.{move_on_board}
use Rattle.fen_text.proofs.Begun.{begun}
use Rattle.cert_text.proofs.RuleTexts.{Only, only_none}
use Rattle.cert_text.proofs.SpelledLines.{said_back, said_read}
use Rattle.fen_text.specs.Fen.{castle_letter}
use Rattle.fen_text.proofs.MoveFrees.{move_free}

move_known : (m : Move) → is_on_board m ≡ true → can_promote m.promo ≡ true → move_of (move_text m) ≡ Some m
move_known m there promo =
    let both = and_parts (nat_lt m.from 64) (nat_lt m.to 64) there in
    move_back m (ltb-true m.from 64 both.0) (ltb-true m.to 64 both.1) promo

plain_promotes : (o : Option Kind) → is_none o ≡ true → can_promote o ≡ true
plain_promotes None e = refl
plain_promotes (Some k) e = absurd cc

pub last_back : (m : Move) → move_of (move_text m) ≡ Some m → claim_of (claim_text (Last m)) ≡ Some (Last m)
unfolding claim_of
last_back m e = ap (option_map (λ x. Last x)) e

pub ep_back : (m : Move) → move_of (move_text m) ≡ Some m → is_none m.promo ≡ true → claim_of (claim_text (Ep m)) ≡ Some (Ep m)
unfolding claim_of
ep_back m e none = ap (option_and_then capture_claimed) e ∙ cond-true (is_none m.promo) (Some (Ep m)) None none

pub lost_back : (x : Castle) → claim_of (claim_text (Lost x)) ≡ Some (Lost x)
unfolding claim_of
lost_back WhiteShort = refl
lost_back WhiteLong = refl
lost_back BlackShort = refl
lost_back BlackLong = refl

pub illegal_back : claim_of (claim_text Illegal) ≡ Some Illegal
unfolding claim_of
illegal_back = refl

text_back : (claim : Claim) → is_written claim ≡ true → claim_of (claim_text claim) ≡ Some claim
text_back Illegal h = illegal_back
text_back (Last m) h = let both = and_parts (is_on_board m) (can_promote m.promo) h in last_back m (move_known m both.0 both.1)
text_back (Lost x) h = lost_back x
text_back (Ep m) h = let both = and_parts (is_on_board m) (is_none m.promo) h in ep_back m (move_known m both.0 (plain_promotes m.promo both.1)) both.1

-- the line of a claim says it
pub claim_back : (claim : Claim) → is_written claim ≡ true → said claim_of (ended (claim_text claim)) ≡ Some claim
claim_back claim h = said_back claim_of (claim_text claim) claim (text_back claim h)

-- a text is the one of a claim, which has one
pub record IsTextOfClaim (text : List ℕ) (claim : Claim) : Type 0 where
  pub text_is : text ≡ claim_text claim
  pub written : is_written claim ≡ true

on_board : (text : List ℕ) (m : Move) → move_of text ≡ Some m → is_on_board m ≡ true
on_board text m e = let there = move_on_board text m e in and_from _ _ (lt-ltb m.from 64 there.from) (lt-ltb m.to 64 there.to)

after_last : (text : List ℕ) (o : Option Move) → text ≡ codes "claim last " ++ drop 11 text → move_of (drop 11 text) ≡ o → Only (IsTextOfClaim text) (option_map (λ m. Last m) o)
after_last text None whole e claim is = absurd cc
after_last text (Some m) whole e claim is =
    let same : Last m ≡ claim = same_Some _ _ is in
    let read = move_read (drop 11 text) m e in
    record {
      text_is = whole ∙ ap (λ (l : List ℕ). codes "claim last " ++ l) read.spelling ∙ ap claim_text same;
      written = ap is_written (sym same) ∙ and_from _ _ (on_board (drop 11 text) m e) read.promotion;
    }

named : (name text : List ℕ) (x y : Castle) → castle_letter x ∷ [] ≡ name → bytes_eq text name ≡ true → Some x ≡ Some y → text ≡ castle_letter y ∷ []
named name text x y is same e = (bytes_eq-Decides text name).0 same ∙ sym is ∙ ap (λ (z : Castle). castle_letter z ∷ []) (same_Some x y e)

castle_read : (text : List ℕ) → Only (λ x. text ≡ castle_letter x ∷ []) (castling_named text)
castle_read text =
    cond_both (bytes_eq text (codes "K")) _ _ (Only (λ x. text ≡ castle_letter x ∷ [])) (λ t x. named (codes "K") text WhiteShort x refl t)
    (λ f. cond_both (bytes_eq text (codes "Q")) _ _ (Only (λ x. text ≡ castle_letter x ∷ [])) (λ t x. named (codes "Q") text WhiteLong x refl t)
    (λ f. cond_both (bytes_eq text (codes "k")) _ _ (Only (λ x. text ≡ castle_letter x ∷ [])) (λ t x. named (codes "k") text BlackShort x refl t)
    (λ f. cond_both (bytes_eq text (codes "q")) _ _ (Only (λ x. text ≡ castle_letter x ∷ [])) (λ t x. named (codes "q") text BlackLong x refl t)
    (λ f. only_none (λ x. text ≡ castle_letter x ∷ [])))))

after_lost : (text : List ℕ) (o : Option Castle) → text ≡ codes "claim lost " ++ drop 11 text → castling_named (drop 11 text) ≡ o → Only (IsTextOfClaim text) (option_map (λ x. Lost x) o)
after_lost text None whole e claim is = absurd cc
after_lost text (Some x) whole e claim is =
    let same : Lost x ≡ claim = same_Some _ _ is in
    record {
      text_is = whole ∙ ap (λ (l : List ℕ). codes "claim lost " ++ l) (castle_read (drop 11 text) x e) ∙ ap claim_text same;
      written = ap is_written (sym same);
    }

after_ep : (text : List ℕ) (o : Option Move) → text ≡ codes "claim ep " ++ drop 9 text → move_of (drop 9 text) ≡ o → Only (IsTextOfClaim text) (option_and_then capture_claimed o)
after_ep text None whole e claim is = absurd cc
after_ep text (Some m) whole e claim is =
    let at = cond_some (is_none m.promo) (Ep m) claim is in
    let read = move_read (drop 9 text) m e in
    record {
      text_is = whole ∙ ap (λ (l : List ℕ). codes "claim ep " ++ l) read.spelling ∙ ap claim_text at.1;
      written = ap is_written (sym at.1) ∙ and_from _ _ (on_board (drop 9 text) m e) at.0;
    }

illegal : (text : List ℕ) → bytes_eq text (codes "claim illegal") ≡ true → Only (IsTextOfClaim text) (Some Illegal)
illegal text t claim is =
    let same : Illegal ≡ claim = same_Some _ _ is in
    record { text_is = (bytes_eq-Decides text (codes "claim illegal")).0 t ∙ ap claim_text same; written = ap is_written (sym same) }

-- what is read as a claim is its one text
pub text_read : (text : List ℕ) → Only (IsTextOfClaim text) (claim_of text)
unfolding claim_of
text_read text =
    cond_both (starts_with nat_eq text (codes "claim last ")) _ _ (Only (IsTextOfClaim text)) (λ t. after_last text (move_of (drop 11 text)) (begun text (codes "claim last ") t) refl)
    (λ f. cond_both (starts_with nat_eq text (codes "claim lost ")) _ _ (Only (IsTextOfClaim text)) (λ t. after_lost text (castling_named (drop 11 text)) (begun text (codes "claim lost ") t) refl)
    (λ f. cond_both (starts_with nat_eq text (codes "claim ep ")) _ _ (Only (IsTextOfClaim text)) (λ t. after_ep text (move_of (drop 9 text)) (begun text (codes "claim ep ") t) refl)
    (λ f. cond_both (bytes_eq text (codes "claim illegal")) _ _ (Only (IsTextOfClaim text)) (illegal text) (λ f. only_none (IsTextOfClaim text)))))

-- a line that makes a claim is the one line of it
pub record IsClaimLine (line : List ℕ) (claim : Claim) : Type 0 where
  pub line_is : line ≡ ended (claim_text claim)
  pub written : is_written claim ≡ true

pub claim_read : (line : List ℕ) (claim : Claim) → said claim_of line ≡ Some claim → IsClaimLine line claim
claim_read line claim e =
    let says = said_read claim_of line claim e in
    let read = text_read says.text claim says.stands in
    record { line_is = says.line_is ∙ ap ended read.text_is; written = read.written }

-- the text of a claim has no line end
pub claim_free : (claim : Claim) → Free 10 (claim_text claim)
claim_free Illegal = refl
claim_free (Last m) = move_free 10 m (omega arith)
claim_free (Lost WhiteShort) = refl
claim_free (Lost WhiteLong) = refl
claim_free (Lost BlackShort) = refl
claim_free (Lost BlackLong) = refl
claim_free (Ep m) = move_free 10 m (omega arith)

-- what a text that begins with `claim ep ` says
pub capture_text : (text : List ℕ) (o : Option Claim) → starts_with nat_eq text (codes "claim last ") ≡ false → starts_with nat_eq text (codes "claim lost ") ≡ false → starts_with nat_eq text (codes "claim ep ") ≡ true → o ≡ option_and_then capture_claimed (move_of (drop 9 text)) → o ≡ claim_of text
unfolding claim_of
capture_text text o last lost ep is =
    let fourth : Option Claim = cond (bytes_eq text (codes "claim illegal")) (Some Illegal) None in
    let third : Option Claim = cond (starts_with nat_eq text (codes "claim ep ")) (option_and_then capture_claimed (move_of (drop 9 text))) fourth in
    let second : Option Claim = cond (starts_with nat_eq text (codes "claim lost ")) (option_map (λ x. Lost x) (castling_named (drop 11 text))) third in
    is
    ∙ sym (cond-false (starts_with nat_eq text (codes "claim last ")) (option_map (λ m. Last m) (move_of (drop 11 text))) second last
    ∙ cond-false (starts_with nat_eq text (codes "claim lost ")) (option_map (λ x. Lost x) (castling_named (drop 11 text))) third lost
    ∙ cond-true (starts_with nat_eq text (codes "claim ep ")) (option_and_then capture_claimed (move_of (drop 9 text))) fourth ep)
