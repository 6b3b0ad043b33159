-- One more ply.
use Rattle.std.proofs.Common.{◌≡◌, List, [], ◌∷◌, ◌++◌, length, refl, sym, subst, arith}
use Rattle.board_base.specs.declared.moves.Move.{Move}
use Rattle.play_rules.specs.States.{Position}
use Rattle.san_text.specs.Fits.{IsOnly, fits}
use Rattle.san_text.specs.Spelling.{next}
use Rattle.san_text.specs.Games.{LeadTo}
use Rattle.san_text.specs.declared.grammar.San.{San}

pub lead_more : (p : Position) (said : List San) (moves : List Move) (q : Position) (one : San) (m : Move) → LeadTo p said moves q → IsOnly (fits one q) m → LeadTo p (said ++ one ∷ []) (moves ++ m ∷ []) (next q m)
lead_more p [] [] q one m h only = (subst (λ (r : Position). IsOnly (fits one r) m) (sym h) only, subst (λ (r : Position). next r m ≡ next q m) (sym h) refl)
lead_more p [] (n ∷ moves) q one m h only = absurd h
lead_more p (first ∷ said) [] q one m h only = absurd h
lead_more p (first ∷ said) (n ∷ moves) q one m h only = (h.0, lead_more (next p n) said moves q one m h.1 only)

-- each ply names one move
pub lead_count : (p : Position) (said : List San) (moves : List Move) (q : Position) → LeadTo p said moves q → length moves ≡ length said
lead_count p [] [] q leads = refl
lead_count p [] (m ∷ moves) q leads = absurd leads
lead_count p (one ∷ said) [] q leads = absurd leads
lead_count p (one ∷ said) (m ∷ moves) q leads = let rest = lead_count (next p m) said moves q leads.1 in omega (arith, rest)
